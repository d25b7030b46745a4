-- A history worked through: two seats ask for the same queue, one after the other.
use Rattle.std.specs.Prelude.{◌≡◌, List, [], ◌∷◌, ◌++◌, Some, Ok, Err}
use Rattle.sb_machine.specs.History.{entries_at}
use Rattle.sb_machine.specs.Namespace.{empty_state}
use Rattle.sb_machine.specs.declared.history.Entry.{Entry}
use Rattle.sb_machine.specs.declared.history.Entry.TheVariants.{Answered as Replied}
use Rattle.sb_machine.specs.declared.reply.Answered.TheVariants.{New}
use Rattle.sb_machine.specs.declared.reply.Refusal.TheVariants.{EntityExists}
use Rattle.sb_machine.specs.declared.reply.Reply.TheVariants.{Done}
use Rattle.sb_desk.specs.Desks.{below}
use Rattle.sb_desk.specs.Entries.{entries_by, IsReport}
use Rattle.sb_desk.specs.Lists.{HaveSeatsBelow, longer}
use Rattle.sb_desktests.specs.Namespaces.{creation, state_at}

-- seat 0 makes the queue
abbrev pub first : Entry
first = Replied 0 5 creation (Ok (New Done))

-- seat 1 asks for the same, and is refused
abbrev pub second : Entry
second = Replied 1 7 creation (Err EntityExists)

-- both, in this order
abbrev pub history : List Entry
history = first ∷ second ∷ []

-- what the definitions of the desk say of these two entries
pub record WorkedRows : Type 0 where
  pub entries : entries_at 0 (empty_state 0) 5 creation ++ entries_at 1 (state_at (Some 5)) 7 creation ≡ history
  pub own : entries_by 1 history ≡ second ∷ []
  pub none : entries_by 2 history ≡ []
  pub longer : longer (first ∷ []) history ≡ history
  pub numbers : IsReport (empty_state 0) history (record { entries = 2; changing = 1; refused = 1 })
  pub two : HaveSeatsBelow 2 history
  pub not_one : HaveSeatsBelow 1 history → ⊥
  pub seats : below 3 ≡ 2 ∷ 1 ∷ 0 ∷ []
