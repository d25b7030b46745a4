-- What planning an act came to, against the act's row.
use Rattle.std.specs.Prelude.{◌≡◌, ◌⊎◌, Option, Some, None, Result, Ok, Err}
use Rattle.sb_machine.specs.Rows.{Row, refuses, answers}
use Rattle.sb_machine.specs.declared.reply.Refusal.{Refusal}
use Rattle.sb_machine.specs.declared.reply.Refusal.TheVariants.{OutOfMemory}
use Rattle.sb_engine.specs.declared.plan.draft.Draft.{Draft}

-- the row's reply and changes, or its refusal; want of memory may come in place of each
abbrev pub PlansRow : Result Draft Refusal → Row → Type 0
PlansRow (Ok d) row = row ≡ answers d.reply d.changes
PlansRow (Err r) row = (r ≡ OutOfMemory) ⊎ (row ≡ refuses r)

-- this refusal, if there is one; want of memory may come in its place
abbrev pub Passes : {X : Type 0} → Result X Refusal → Option Refusal → Type 0
Passes (Ok x) bad = bad ≡ None
Passes (Err r) bad = (r ≡ OutOfMemory) ⊎ (bad ≡ Some r)
