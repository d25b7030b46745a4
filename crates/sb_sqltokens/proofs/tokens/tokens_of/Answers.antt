use Rattle.std.proofs.Common.{rules, ◌≡◌, length, Some, None, sym, arith}
use Rattle.sb_model.specs.Tokens.{token_at, behind_white, tokens_of}
use Rattle.sb_sqltokens.proofs.Listing.{is_zero, not_zero, token_shorter, view_ends, view_unknown, view_more}
use Rattle.sb_sqltokens.proofs.tokens.tokens_of.Goals as goal

pub tokens-init : goal.tokens-init
unfolding tokens_of
tokens-init c = search rules

pub returns-then-is_empty-clause-kinds : goal.returns-then-is_empty-clause-kinds
returns-then-is_empty-clause-kinds c = view_ends (λ x. x.0) (length c.args.text.now) c.tokens.left.now c.tokens.kinds.items _ (rw c.behind_white-begins.ensures at (is_zero (length c.behind_white-begins.result.now) c.if-is_empty.ensures)) c.tokens.invariant.kinds_so_far

pub returns-then-is_empty-clause-ends : goal.returns-then-is_empty-clause-ends
returns-then-is_empty-clause-ends c = view_ends (λ x. x.1) (length c.args.text.now) c.tokens.left.now c.tokens.ends.items _ (rw c.behind_white-begins.ensures at (is_zero (length c.behind_white-begins.result.now) c.if-is_empty.ensures)) c.tokens.invariant.ends_so_far

pub returns-in_default-clause-kinds : goal.returns-in_default-clause-kinds
returns-in_default-clause-kinds c =
    let e : token_at (behind_white c.tokens.left.now) ≡ None = rw (← c.behind_white-begins.ensures) (sym (rw c.in_default.is at c.in_ok-kind.ensures)) in
    view_unknown (λ x. x.0) (length c.args.text.now) c.tokens.left.now c.tokens.kinds.items _ _ (rw c.behind_white-begins.ensures at (not_zero (length c.behind_white-begins.result.now) c.if-is_empty.ensures)) e c.in_ok-push.ensures.items c.tokens.invariant.kinds_so_far

pub returns-in_default-clause-ends : goal.returns-in_default-clause-ends
returns-in_default-clause-ends c =
    let e : token_at (behind_white c.tokens.left.now) ≡ None = rw (← c.behind_white-begins.ensures) (sym (rw c.in_default.is at c.in_ok-kind.ensures)) in
    view_unknown (λ x. x.1) (length c.args.text.now) c.tokens.left.now c.tokens.ends.items _ _ (rw c.behind_white-begins.ensures at (not_zero (length c.behind_white-begins.result.now) c.if-is_empty.ensures)) e c.in_ok-push-2.ensures.items c.tokens.invariant.ends_so_far

pub overflow_sub-text : goal.overflow_sub-text
overflow_sub-text c =
    let e : token_at (behind_white c.tokens.left.now) ≡ Some (c.in-Some.kind, c.in-Some.rest.now) = rw (← c.behind_white-begins.ensures) (sym (rw c.in-Some.is at c.in_ok-kind.ensures)) in
    omega (arith, token_shorter c.tokens.left.now c.in-Some.kind c.in-Some.rest.now e)

pub tokens-smaller : goal.tokens-smaller
tokens-smaller c =
    let e : token_at (behind_white c.tokens.left.now) ≡ Some (c.in-Some.kind, c.in-Some.rest.now) = rw (← c.behind_white-begins.ensures) (sym (rw c.in-Some.is at c.in_ok-kind.ensures)) in
    token_shorter c.tokens.left.now c.in-Some.kind c.in-Some.rest.now e

pub tokens-preserved : goal.tokens-preserved
tokens-preserved c =
    let e : token_at (behind_white c.tokens.left.now) ≡ Some (c.in-Some.kind, c.in-Some.rest.now) = rw (← c.behind_white-begins.ensures) (sym (rw c.in-Some.is at c.in_ok-kind.ensures)) in
    record {
      is_text = search rules;
      within = omega (arith, token_shorter c.tokens.left.now c.in-Some.kind c.in-Some.rest.now e);
      kinds_so_far = view_more (λ x. x.0) (length c.args.text.now) c.tokens.left.now c.in-Some.kind c.in-Some.rest.now c.tokens.kinds.items _ _ e c.in_ok-push-3.ensures.items c.tokens.invariant.kinds_so_far;
      ends_so_far = view_more (λ x. x.1) (length c.args.text.now) c.tokens.left.now c.in-Some.kind c.in-Some.rest.now c.tokens.ends.items _ _ e c.in_ok-push-4.ensures.items c.tokens.invariant.ends_so_far;
    }
