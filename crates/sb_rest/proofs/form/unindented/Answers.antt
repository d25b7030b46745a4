use Rattle.std.proofs.Common.{ℕ, length, drop, not, sym, ap, ◌∙◌, arith, rules}
use Rattle.std.proofs.lemmas.List.Sums.{position_or_len_is}
use Rattle.std.proofs.lemmas.List.{take_rest, drop_all}
use Rattle.sb_rest.specs.Batches.{is_blank}
use Rattle.sb_rest.proofs.form.unindented.Goals as goal

pub returns-in-Some : goal.returns-in-Some
returns-in-Some c =
    let range = c.args.range.now in
    let found = position_or_len_is (λ (b : ℕ). not (is_blank b)) range c.in-Some.at 0 (search rules) (search rules) (search rules) in
    take_rest range _ ∙ ap (λ n. drop n range) (sym found)

pub returns-in-None : goal.returns-in-None
returns-in-None c =
    let range = c.args.range.now in
    let none = position_or_len_is (λ (b : ℕ). not (is_blank b)) range (length range) 0 (omega arith) (search rules) (search rules) in
    sym (ap (λ n. drop n range) none ∙ drop_all (length range) range (omega arith))
