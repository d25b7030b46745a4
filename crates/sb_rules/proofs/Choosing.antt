-- What rules decide together, once one of them has failed or all are done.
use Rattle.std.proofs.Common.{◌≡◌, ℕ, suc, ◌<◌, ◌≤◌, Bool, true, List, [], ◌∷◌, ◌++◌, length, get_or, drop, sym, ap, ◌∙◌, arith, drop-cons}
use Rattle.std.specs.Prelude.{◌||◌, if◌then◌else◌}
use Rattle.std.specs.List.{list_any}
use Rattle.std.proofs.lemmas.Grind.{common_steps}
use Rattle.std.proofs.lemmas.List.{drop_all}
use Rattle.sb_model.specs.declared.message.Message.{Message}
use Rattle.sb_machine.specs.declared.rule.Rule.{Rule}
use Rattle.sb_machine.specs.declared.rule.Outcome.{Outcome}
use Rattle.sb_machine.specs.declared.rule.Outcome.TheVariants.{Copies, Dead, Dropped}
use Rattle.sb_machine.specs.Selection.{fails, takes_plainly, changed_copies, selected}

pub failed_among : (dead : Bool) (m : Message) (rules : List Rule) (i : ℕ) (rule : Rule) (o : Outcome) → i < length rules → rule ≡ get_or rules i rule → fails m rule ≡ true
    → list_any (fails m) (drop i rules) ≡ list_any (fails m) rules → o ≡ (if dead then Dead else Dropped) → o ≡ selected dead rules m
failed_among dead m rules i rule o within is fault so_far answer =
    let first : drop i rules ≡ rule ∷ drop (suc i) rules = drop-cons rules i rule within ∙ ap (λ (r : Rule). r ∷ drop (suc i) rules) (sym is) in
    let some : list_any (fails m) rules ≡ true =
    sym so_far ∙ ap (list_any (fails m)) first ∙ ap (λ (b : Bool). b || list_any (fails m) (drop (suc i) rules)) fault in
    rw some answer

pub all_taken : (dead : Bool) (m : Message) (rules : List Rule) (i : ℕ) (plain : Bool) (changed copies : List Message) → length rules ≤ i
    → list_any (fails m) (drop i rules) ≡ list_any (fails m) rules
    → (plain || list_any (takes_plainly m) (drop i rules)) ≡ list_any (takes_plainly m) rules
    → changed ++ changed_copies m (drop i rules) ≡ changed_copies m rules
    → copies ≡ (if plain then m ∷ [] else []) ++ changed → Copies copies ≡ selected dead rules m
all_taken dead m rules i plain changed copies done sound plainly others is =
    let end : drop i rules ≡ [] = drop_all i rules done in
    let none = sym (ap (list_any (fails m)) end) ∙ sound in
    let plains = sym (ap (λ (r : List Rule). plain || list_any (takes_plainly m) r) end) ∙ plainly in
    let more = sym (ap (λ (r : List Rule). changed ++ changed_copies m r) end) ∙ others in
    grind (arith, common_steps, none, plains, more, is)
