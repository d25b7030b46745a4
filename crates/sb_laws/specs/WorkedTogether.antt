-- Operations that act together, worked through: a message is completed, another is sent on, and a session remembers; then with several locks, and
-- ids under a window.
use Rattle.std.specs.Prelude.{List, [], ◌∷◌, ◌++◌, codes, true, Some, None}
use Rattle.sb_laws.specs.Worked.{bare, in_session, q, token, with_id}
use Rattle.sb_machine.specs.Ends.{Noted}
use Rattle.sb_machine.specs.Namespace.{default_description, entity_path}
use Rattle.sb_machine.specs.Worked.{at}
use Rattle.sb_machine.specs.declared.call.Act.TheVariants.{Accept, Begin, Commit, CreateQueue, Receive, Send, SessionSet, Settle, Together}
use Rattle.sb_machine.specs.declared.call.How.TheVariants.{Abandon, Complete}
use Rattle.sb_machine.specs.declared.call.Mode.TheVariants.{Lock}
use Rattle.sb_machine.specs.declared.call.Path.{Path}
use Rattle.sb_machine.specs.declared.call.Step.{Step}
use Rattle.sb_machine.specs.declared.call.Step.TheVariants.{Send as StepSend, Settle as StepSettle, SessionSet as StateSet}
use Rattle.sb_machine.specs.declared.call.TimedCall.{TimedCall}
use Rattle.sb_machine.specs.declared.call.Which.TheVariants.{Number}
use Rattle.sb_model.specs.declared.message.Message.{Message}
use Rattle.sb_model.specs.declared.message.SystemName.TheVariants.{MessageId}

-- the queue to which the message is sent on
abbrev pub o : Path
o = entity_path (codes "o")

-- a message of a session is received under the session's lock 1, by the lock 2
abbrev pub received_script : List TimedCall
received_script =
    at 0 (CreateQueue (codes "q") (record default_description { requires_session = true }))
    ∷ at 0 (CreateQueue (codes "o") default_description)
    ∷ at 0 (Send q (in_session ∷ []) None)
    ∷ at 0 (Accept q (Some (codes "s")))
    ∷ at 0 (Receive q Lock (Some (token 1)))
    ∷ []

-- it is completed
abbrev pub completing : Step
completing = StepSettle q (Number 1) (token 2) (Some (token 1)) Complete

-- together with a send to the other queue and with what its session is to remember
abbrev pub united_script : List TimedCall
united_script = received_script ++ at 0 (Together q (completing ∷ StepSend o (bare ∷ []) ∷ StateSet q (token 1) (Some (codes "x")) ∷ [])) ∷ []

-- the same in a transaction, act by act
abbrev pub turns_script : List TimedCall
turns_script =
    received_script
    ++ at 0 (Begin q)
    ∷ at 0 (Settle q (Number 1) (token 2) (Some (token 1)) Complete (Some 1))
    ∷ at 0 (Send o (bare ∷ []) (Some 1))
    ∷ at 0 (SessionSet q (token 1) (Some (codes "x")))
    ∷ at 0 (Commit 1)
    ∷ []

-- behind it, its lock is gone
abbrev pub lost_script : List TimedCall
lost_script = united_script ++ at 0 (Together q (StepSend o (bare ∷ []) ∷ completing ∷ [])) ∷ []

-- and the other queue is no place from which to set what the session remembers
abbrev pub scope_script : List TimedCall
scope_script = united_script ++ at 0 (Together o (StepSend o (bare ∷ []) ∷ StateSet q (token 1) None ∷ [])) ∷ []

-- ---- several locks, and ids under a window

-- a message with another id
abbrev pub with_other_id : Message
with_other_id = record bare { sys = record { name = MessageId; text = codes "n" } ∷ [] }

-- the second of two messages is put back, the first one's id is sent again beside another id, then to the other queue, and the first is completed
abbrev pub worker_turn : List Step
worker_turn =
    StepSettle q (Number 2) (token 2) None Abandon
    ∷ StepSend q (with_id ∷ with_other_id ∷ [])
    ∷ StepSend o (with_id ∷ [])
    ∷ StepSettle q (Number 1) (token 1) None Complete
    ∷ []

-- all that together, once both are received, by the locks 1 and 2
abbrev pub worker_script : List TimedCall
worker_script =
    at 0 (CreateQueue (codes "q") (record default_description { window = Some 20 }))
    ∷ at 0 (CreateQueue (codes "o") (record default_description { window = Some 20 }))
    ∷ at 0 (Send q (with_id ∷ bare ∷ []) None)
    ∷ at 0 (Receive q Lock None)
    ∷ at 0 (Receive q Lock None)
    ∷ at 5 (Together q worker_turn)
    ∷ []

-- the queue accepted the other id
abbrev pub other_noted : Noted
other_noted = record { entity = 1; id = codes "n"; moment = 5; window = 20 }
