-- Scripts worked through: their calls, and what they must be answered.
use Rattle.std.specs.Prelude.{ℕ, List, [], ◌∷◌, codes, Result, None}
use Rattle.sb_machine.specs.Namespace.{default_description, entity_path, empty_state}
use Rattle.sb_machine.specs.History.{entries_of, state_after}
use Rattle.sb_machine.specs.declared.call.Act.{Act}
use Rattle.sb_machine.specs.declared.call.Act.TheVariants as act
use Rattle.sb_machine.specs.declared.call.TimedCall.{TimedCall}
use Rattle.sb_machine.specs.declared.call.Mode.TheVariants.{Lock}
use Rattle.sb_machine.specs.declared.history.Entry.{Entry}
use Rattle.sb_machine.specs.declared.history.Entry.TheVariants.{Ticked, Answered as Replied}
use Rattle.sb_machine.specs.declared.reply.Answered.{Answered}
use Rattle.sb_machine.specs.declared.reply.Refusal.{Refusal}
use Rattle.sb_machine.specs.declared.state.State.{State}

-- the answers of the calls among these entries
abbrev pub answers_in : List Entry → List (Result Answered Refusal)
answers_in [] = []
answers_in (Ticked seat t ∷ es) = answers_in es
answers_in (Replied seat reading call answer ∷ es) = answer ∷ answers_in es

-- the salt of the rows
abbrev pub empty : State
empty = empty_state 11651590505119483672

-- the state after calls, made on an empty namespace
abbrev pub state_by : List TimedCall → State
state_by calls = state_after empty (entries_of 0 empty calls)

-- a call without a client's number, made at this reading of the clock
abbrev pub at : ℕ → Act → TimedCall
at reading act = record { reading = reading; call = record { by = None; act = act } }

-- a queue is made, a message is sent there, and received under a lock
abbrev pub plain_script : List TimedCall
plain_script = at 0 (act.CreateQueue (codes "q") default_description) ∷ at 0 (act.Send (entity_path (codes "q")) (record { body = codes "hi"; sys = []; props = []; ttl = None; schedule = None } ∷ []) None) ∷ at 0 (act.Receive (entity_path (codes "q")) Lock None) ∷ []
