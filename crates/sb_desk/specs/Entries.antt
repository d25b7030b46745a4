-- Entries by the seat that made them, and the numbers of a history.
use Rattle.std.specs.Prelude.{◌≡◌, ℕ, ◌==◌, Bool, true, false, List, [], ◌∷◌, filter, length, min, Option, Some, None, Result, Ok, Err}
use Rattle.sb_machine.specs.Accounts.{changing}
use Rattle.sb_machine.specs.History.{fresh_log}
use Rattle.sb_machine.specs.declared.call.Call.{Call}
use Rattle.sb_machine.specs.declared.history.Entry.{Entry}
use Rattle.sb_machine.specs.declared.history.Entry.TheVariants.{Ticked, Answered as Replied}
use Rattle.sb_machine.specs.declared.reply.Answered.{Answered}
use Rattle.sb_machine.specs.declared.reply.Refusal.{Refusal}
use Rattle.sb_machine.specs.declared.state.State.{State}
use Rattle.sb_desk.specs.declared.report.Report.{Report}

-- the entries of one call: a tick, where one was made, and the call
abbrev pub made_by : ℕ → Option ℕ → ℕ → Call → Result Answered Refusal → List Entry
made_by seat (Some t) reading call answer = Ticked seat t ∷ Replied seat reading call answer ∷ []
made_by seat None reading call answer = Replied seat reading call answer ∷ []

-- the seat that made an entry
abbrev pub seat_of : Entry → ℕ
seat_of (Ticked seat t) = seat
seat_of (Replied seat reading call answer) = seat

-- the entries of one seat
abbrev pub entries_by : ℕ → List Entry → List Entry
entries_by seat entries = filter (λ e. seat_of e == seat) entries

-- ---- the numbers of a history

-- whether an entry is a call that was refused
abbrev pub is_refused : Entry → Bool
is_refused (Ticked seat t) = false
is_refused (Replied seat reading call (Ok reply)) = false
is_refused (Replied seat reading call (Err refusal)) = true

-- a count that stands still at 2^64 - 1
abbrev pub counted : ℕ → ℕ
counted n = min n 18446744073709551615

-- the numbers of a history that began in this state
pub record IsReport (start : State) (h : List Entry) (r : Report) : Type 0 where
  pub entries : r.entries ≡ counted (length h)
  pub changing : r.changing ≡ counted (length (changing (fresh_log start) h))
  pub refused : r.refused ≡ counted (length (filter is_refused h))
