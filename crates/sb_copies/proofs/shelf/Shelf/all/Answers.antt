use Rattle.std.proofs.Common.{◌≡◌, List, map, subst}
use Rattle.std.specs.Prelude.{IfOk}
use Rattle.sb_machine.specs.declared.state.StoredCopy.{StoredCopy}
use Rattle.sb_copies.proofs.Finding.{all_due}
use Rattle.sb_copies.proofs.shelf.Shelf.all.Goals as goal

pub returns : goal.returns
returns c = subst (λ (l : List StoredCopy). IfOk c.due_by.result (λ found. map (λ x. x.now) found.items ≡ l)) (all_due c.args.self.now.expires c.args.self.now.copies) c.due_by.ensures
