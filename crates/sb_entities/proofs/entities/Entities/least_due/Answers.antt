use Rattle.std.proofs.Common.{ap, ◌∙◌}
use Rattle.sb_entities.specs.EntityDues.{least_due_of}
use Rattle.sb_entities.specs.Stores.{entities_in}
use Rattle.sb_entities.specs.Tables.{Tabled}
use Rattle.sb_entities.proofs.WhenDue.{least_some}
use Rattle.sb_entities.proofs.entities.Entities.least_due.Goals as goal

pub returns-in-Some : goal.returns-in-Some
returns-in-Some c =
    let s = c.self.inside in
    least_some c.in-Some.due s.dues.rows (entities_in s.rows.items) c.self.invariant.2.rows c.in-Some.ensures ∙ ap (λ (t : Tabled). least_due_of (entities_in t.rows)) c.self.view_is
