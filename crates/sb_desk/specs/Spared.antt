-- Histories in which a call that is spared is never answered with want of memory.
use Rattle.std.specs.Prelude.{◌≡◌, ◌≢◌, ℕ, Bool, true, List, [], ◌∷◌, Err}
use Rattle.sb_machine.specs.Answers.{moment_of}
use Rattle.sb_machine.specs.History.{Log, after_entry, fresh_log}
use Rattle.sb_machine.specs.declared.call.Call.{Call}
use Rattle.sb_machine.specs.declared.history.Entry.{Entry}
use Rattle.sb_machine.specs.declared.history.Entry.TheVariants.{Ticked, Answered as Replied}
use Rattle.sb_machine.specs.declared.reply.Refusal.TheVariants.{OutOfMemory}
use Rattle.sb_machine.specs.declared.state.State.{State}

-- spared: which calls are, at a moment and in a state
module _ (spared : ℕ → Call → State → Bool) where
  -- each call is judged at its moment and in the state in which it acts: that behind all entries before it, its own tick among them
  abbrev pub SparesFrom : Log → List Entry → Type 0
  SparesFrom l [] = Unit {0}
  SparesFrom l (Ticked seat t ∷ es) = SparesFrom (after_entry l (Ticked seat t)) es
  SparesFrom l (Replied seat reading call answer ∷ es) =
      (spared (moment_of l.state reading) call l.state ≡ true → answer ≢ Err OutOfMemory) × SparesFrom (after_entry l (Replied seat reading call answer)) es

  -- a history that begins in this state
  abbrev pub Spares : State → List Entry → Type 0
  Spares start h = SparesFrom (fresh_log start) h
