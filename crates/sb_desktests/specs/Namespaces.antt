-- A namespace in which one queue is made, and the histories that it stands for.
use Rattle.std.specs.Prelude.{◌≡◌, ◌++◌, ℕ, Bool, false, codes, List, [], ◌∷◌, Option, Some, None, Result}
use Rattle.sb_machine.specs.Answers.{state_of}
use Rattle.sb_machine.specs.Consistent.{IsConsistent}
use Rattle.sb_machine.specs.History.{fresh_log, after_entries, IsLegal}
use Rattle.sb_machine.specs.Namespace.{default_description, empty_state}
use Rattle.sb_machine.specs.declared.call.Act.TheVariants.{CreateQueue}
use Rattle.sb_machine.specs.declared.call.Call.{Call}
use Rattle.sb_machine.specs.declared.history.Entry.{Entry}
use Rattle.sb_machine.specs.declared.history.Entry.TheVariants.{Answered as Replied}
use Rattle.sb_machine.specs.declared.reply.Answered.{Answered}
use Rattle.sb_machine.specs.declared.reply.Refusal.{Refusal}
use Rattle.sb_machine.specs.declared.state.State.{State}
use Rattle.sb_desk.specs.Entries.{IsReport}
use Rattle.sb_desk.specs.Spared.{Spares}
use Rattle.sb_desk.specs.declared.report.DiskOrigin.{DiskOrigin}
use Rattle.sb_desk.specs.declared.report.Origin.{Origin}
use Rattle.sb_desk.specs.declared.report.Report.{Report}

-- the one call that is carried out
abbrev pub creation : Call
creation = record { by = None; act = CreateQueue (codes "q") default_description }

-- the state before the queue was made, or the one since a moment
abbrev pub state_at : Option ℕ → State
state_at None = empty_state 0
state_at (Some t) = state_of (empty_state 0) t creation

abbrev no_disk : DiskOrigin
no_disk = record { faults = 0; honest = false; held = record { seen = []; synced = []; ranges = []; least = 0; greatest = 0 }; past = [] }

-- it has no disks
abbrev pub no_disks : Origin
no_disks = record { disk_a = no_disk; disk_b = no_disk; goes_on = false }

-- memory may be wanting for each call
abbrev pub none_spared : ℕ → Call → State → Bool
none_spared t call s = false

-- this namespace stands for a history: it is legal, and leads to this state and these numbers
pub record StandsFor (made : Option ℕ) (numbers : Report) (from : State) (h : List Entry) : Type 0 where
  pub consistent : IsConsistent from
  pub legal : IsLegal from h
  pub spares : Spares none_spared from h
  pub state : after_entries (fresh_log from) h ≡ fresh_log (state_at made)
  pub counted : IsReport from h numbers

-- a call with its answer is one more entry, at whatever seat
abbrev pub GoesOn : Option ℕ → Report → ℕ → Call → Result Answered Refusal → Option ℕ → Report → Type 0
GoesOn made numbers reading call answer made' numbers' = (seat : ℕ) (from : State) (h : List Entry) → StandsFor made numbers from h → StandsFor made' numbers' from (h ++ Replied seat reading call answer ∷ [])
