use Rattle.std.proofs.Common.{◌≡◌, ℕ, suc, ◌+◌, ◌-◌, List, length, take, drop, sym, subst, ap, arith}
use Rattle.std.proofs.lemmas.List.{take_rest}
use Rattle.std.proofs.lemmas.Bool.Decides.{nat_tests}
use Rattle.sb_server.specs.Bodies.{IsNextLine}
use Rattle.sb_server.proofs.Bodies.{next_is, last_is}
use Rattle.sb_server.proofs.body.next_line.Goals as goal

pub returns-in-Some-clause-line : goal.returns-in-Some-clause-line
returns-in-Some-clause-line c =
    let text = c.args.text.now in
    let at = c.in-Some.at in
    let more : at + 1 ≡ suc at = omega arith in
    subst (λ (n : ℕ). IsNextLine text (take at text) (take (length text - n) (drop n text))) (sym more)
    (subst (λ (l : List ℕ). IsNextLine text (take at text) l) (sym (take_rest text (suc at))) (next_is text at (sym c.in-Some.ensures.place)))

pub returns-in-None-clause-line : goal.returns-in-None-clause-line
returns-in-None-clause-line c =
    last_is c.args.text.now (sym c.in-None.ensures.place) (λ e. let none : length c.args.text.now ≡ 0 = ap length e in absurd (grind (arith, nat_tests, none, c.if-is_empty.ensures, c.if-is_empty.false)))
