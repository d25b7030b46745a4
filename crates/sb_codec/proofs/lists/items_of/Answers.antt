use Rattle.std.proofs.Common.{◌≡◌, true, false, List, ap, sym, subst, ◌∙◌}
use Rattle.std.specs.Option.{option_copied}
use Rattle.std.proofs.lemmas.Result.{err_from_is_err_and}
use Rattle.sb_codec.specs.declared.unread.Unread.TheVariants.{NoSpelling}
use Rattle.sb_codec.specs.Readers.{tested}
use Rattle.sb_codec.proofs.Items.{last_of, goes_on, ends, is_done}
use Rattle.sb_codec.proofs.Following.{passes, not_passes, fails_too}
use Rattle.sb_codec.proofs.lists.items_of.Goals as goal

pub returns-in_err-item : goal.returns-in_err-item
returns-in_err-item g c =
    let p = err_from_is_err_and c.from_residual.result c.from_residual.ensures.1 in
    rw (p.1, p.2) (ends c.in_err-item.field-0.0 (λ last. tested (g.F.Item.follows last) g.F.Piece.form.reads) c.args.count c.loop.counter c.args.bytes.now c.loop.items.items c.loop.rest.now c.loop-test.true
    (fails_too c.in_err-item.field-0.0 (g.F.Item.follows (last_of c.loop.items.items)) g.F.Piece.form.reads c.loop.rest.now c.in_err-item.ensures) c.loop.invariant)

pub returns-then-not-follows : goal.returns-then-not-follows
returns-then-not-follows g c =
    let before : option_copied c.last.result ≡ last_of c.loop.items.items = c.last.ensures.value ∙ ap (λ (xs : List _). last_of xs) c.as_slice.ensures.value in
    ends NoSpelling (λ last. tested (g.F.Item.follows last) g.F.Piece.form.reads) c.args.count c.loop.counter c.args.bytes.now c.loop.items.items c.loop.rest.now c.loop-test.true
    (not_passes (g.F.Item.follows (last_of c.loop.items.items)) g.F.Piece.form.reads c.loop.rest.now c.in_ok-item.item c.in_ok-item.after.now c.in_ok-item.ensures
    (subst (λ o. g.F.Item.follows o c.in_ok-item.item ≡ false) before (sym c.follows.ensures ∙ c.if-not-follows.true))) c.loop.invariant

pub loop-preserved : goal.loop-preserved
loop-preserved g c =
    let before : option_copied c.last.result ≡ last_of c.loop.items.items = c.last.ensures.value ∙ ap (λ (xs : List _). last_of xs) c.as_slice.ensures.value in
    rw c.in_ok-push.ensures.items (goes_on (λ last. tested (g.F.Item.follows last) g.F.Piece.form.reads) c.args.count c.loop.counter c.args.bytes.now c.loop.items.items c.loop.rest.now c.in_ok-item.item c.in_ok-item.after.now c.loop-test.true
    (passes (g.F.Item.follows (last_of c.loop.items.items)) g.F.Piece.form.reads c.loop.rest.now c.in_ok-item.item c.in_ok-item.after.now c.in_ok-item.ensures
    (subst (λ o. g.F.Item.follows o c.in_ok-item.item ≡ true) before (sym c.follows.ensures ∙ c.if-not-follows.false))) c.loop.invariant)

pub returns : goal.returns
returns g c = is_done (λ last. tested (g.F.Item.follows last) g.F.Piece.form.reads) c.args.count c.loop.counter c.args.bytes.now c.loop.items.items c.loop.rest.now c.loop-test.false c.loop.invariant
