use Rattle.std.proofs.Common.{None, Some, ap, arith, false, filter, find, rules, sym, true, ◌+◌, ◌<◌, ◌^◌, ◌≡◌, ◌≤◌, ◌∙◌, ℕ}
use Rattle.std.specs.List.{list_any}
use Rattle.sb_machine.specs.declared.state.StoredCopy.{StoredCopy}
use Rattle.sb_engine.specs.Deadlines.{copy_deadline, has_passed}
use Rattle.sb_engine.proofs.Onward.{all_left, any_behind, any_here, found_far, is_from, none_left}
use Rattle.sb_engine.proofs.time.due.any_copy.Goals as goal

pub copies-init : goal.copies-init
copies-init c = ap (list_any (λ (x : StoredCopy). has_passed c.args.moment (copy_deadline c.args.part x))) (all_left c.args.copies.now.copies)

pub returns-then-copy_comes : goal.returns-then-copy_comes
returns-then-copy_comes c =
    let p = λ (x : StoredCopy). has_passed c.args.moment (copy_deadline c.args.part x) in
    let copy = c.in-Some.copy.now in
    let got : Some copy ≡ find (is_from c.copies.from) c.args.copies.now.copies = search rules in
    let on : has_passed c.args.moment (copy_deadline c.args.part copy) ≡ true = search rules in
    sym (any_here p c.copies.from c.args.copies.now.copies copy c.rises.ensures got on) ∙ c.copies.invariant

pub copies-smaller : goal.copies-smaller
copies-smaller c =
    let copy = c.in-Some.copy.now in
    let got : Some copy ≡ find (is_from c.copies.from) c.args.copies.now.copies = search rules in
    let le : c.copies.from ≤ copy.number = found_far c.copies.from c.args.copies.now.copies copy got in
    let lt : copy.number < 2 ^ 64 = search rules in
    omega (arith, le, lt)

pub copies-preserved : goal.copies-preserved
copies-preserved c =
    let p = λ (x : StoredCopy). has_passed c.args.moment (copy_deadline c.args.part x) in
    let copy = c.in-Some.copy.now in
    let got : Some copy ≡ find (is_from c.copies.from) c.args.copies.now.copies = search rules in
    let off : has_passed c.args.moment (copy_deadline c.args.part copy) ≡ false = search rules in
    ap (λ (n : ℕ). list_any p (filter (is_from (n + 1)) c.args.copies.now.copies)) c.from-from.ensures
    ∙ sym (any_behind p c.copies.from c.args.copies.now.copies copy c.rises.ensures got off) ∙ c.copies.invariant

pub returns : goal.returns
returns c =
    let p = λ (x : StoredCopy). has_passed c.args.moment (copy_deadline c.args.part x) in
    let got : None ≡ find (is_from c.copies.from) c.args.copies.now.copies = search rules in
    sym (ap (list_any p) (none_left c.copies.from c.args.copies.now.copies got)) ∙ c.copies.invariant
