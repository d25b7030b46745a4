-- What planning a part of an act came to that is refused by nothing but want of memory.
use Rattle.std.specs.Prelude.{◌≡◌, Bool, true, false, Result, Ok, Err}
use Rattle.sb_machine.specs.Rows.{Row, answers}
use Rattle.sb_machine.specs.declared.call.How.{How}
use Rattle.sb_machine.specs.declared.call.How.TheVariants.{Complete, Abandon, Defer, DeadLetter}
use Rattle.sb_engine.specs.declared.plan.draft.Draft.{Draft}

-- what was planned is what the row answers and changes; a failure says nothing
abbrev pub DraftsRow : {E : Type 0} → Result Draft E → Row → Type 0
DraftsRow (Ok d) row = row ≡ answers d.reply d.changes
DraftsRow (Err e) row = Unit {0}

-- what a settlement does that copies nothing: planning it at once takes no memory
abbrev pub copies_nothing : How → Bool
copies_nothing Complete = true
copies_nothing Defer = true
copies_nothing Abandon = false
copies_nothing (DeadLetter reason description) = false
