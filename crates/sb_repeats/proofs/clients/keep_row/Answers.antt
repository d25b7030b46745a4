use Rattle.std.proofs.Common.{rules, ◌≡◌, List, false, is_some, refl, subst, sym}
use Rattle.std.specs.List.{slice_get}
use Rattle.sb_machine.specs.Each.{IsSorted}
use Rattle.sb_machine.specs.declared.state.Kept.{Kept}
use Rattle.sb_repeats.specs.Clients.{is_first, of_client}
use Rattle.sb_repeats.proofs.Keeping.{entry, sorted_new}
use Rattle.sb_repeats.proofs.clients.keep_row.Goals as goal

pub returns-else-is_there-clause-order : goal.returns-else-is_there-clause-order
returns-else-is_there-clause-order c =
    let client = c.args.kept.client in
    let rows = c.args.rows.now.items in
    let place = c.entry_of-place.result in
    let is : place ≡ entry client rows = search rules in
    let off : is_some (of_client client (slice_get rows place)) ≡ false = search rules in
    subst (λ (l : List Kept). IsSorted is_first l) (sym c.insert_at.ensures.rows) (sorted_new c.args.kept client rows place refl is c.requires.order off)
