-- Small histories, worked through with the definitions alone.
use Rattle.std.specs.Prelude.{ℕ, List, [], ◌∷◌, ◌++◌, ◌+◌, true, length, codes, Some, None, Result, Ok, Err}
use Rattle.sb_laws.specs.Accepted.{accepted_of, entry_notes}
use Rattle.sb_laws.specs.Joined.{entries_left}
use Rattle.sb_laws.specs.Spent.{entry_spends}
use Rattle.sb_machine.specs.Accounts.{Numbered}
use Rattle.sb_machine.specs.Ends.{End, Noted}
use Rattle.sb_machine.specs.Events.{AreUndecided, receipts_in}
use Rattle.sb_machine.specs.History.{Log, after_entry, entries_of, fresh_log, state_after}
use Rattle.sb_machine.specs.Namespace.{default_description, entity_path}
use Rattle.sb_machine.specs.Worked.{at, empty}
use Rattle.sb_machine.specs.declared.call.Act.{Act}
use Rattle.sb_machine.specs.declared.call.Act.TheVariants.{Accept, CreateQueue, ForgetClient, Look, Receive, Send, Settle}
use Rattle.sb_machine.specs.declared.call.Event.{Event}
use Rattle.sb_machine.specs.declared.call.Event.TheVariants.{Called, Tick}
use Rattle.sb_machine.specs.declared.call.How.TheVariants.{Complete}
use Rattle.sb_machine.specs.declared.call.Mode.TheVariants.{Lock}
use Rattle.sb_machine.specs.declared.call.Part.TheVariants.{Main}
use Rattle.sb_machine.specs.declared.call.Path.{Path}
use Rattle.sb_machine.specs.declared.call.TimedCall.{TimedCall}
use Rattle.sb_machine.specs.declared.call.Token.{Token}
use Rattle.sb_machine.specs.declared.call.Which.TheVariants.{Number}
use Rattle.sb_machine.specs.declared.change.Cause.TheVariants.{Completed}
use Rattle.sb_machine.specs.declared.history.Entry.{Entry}
use Rattle.sb_machine.specs.declared.history.Entry.TheVariants.{Answered as Replied}
use Rattle.sb_machine.specs.declared.look.Look.TheVariants as look
use Rattle.sb_machine.specs.declared.look.View.TheVariants as seen
use Rattle.sb_machine.specs.declared.reply.Answered.{Answered}
use Rattle.sb_machine.specs.declared.reply.Answered.TheVariants.{New}
use Rattle.sb_machine.specs.declared.reply.Receipt.TheVariants as receipt
use Rattle.sb_machine.specs.declared.reply.Refusal.{Refusal}
use Rattle.sb_machine.specs.declared.reply.Refusal.TheVariants.{BadCall, ClientNotFound, DiskFault, Stopped}
use Rattle.sb_machine.specs.declared.reply.Reply.TheVariants.{Message as Given, Done, Seen, Sent}
use Rattle.sb_model.specs.declared.message.Message.{Message}
use Rattle.sb_model.specs.declared.message.SystemName.TheVariants.{MessageId, SessionId}

-- a call under this number of a client
abbrev pub numbered : ℕ → ℕ → Act → TimedCall
numbered reading n act = record { reading = reading; call = record { by = Some (record { client = codes "c"; number = n }); act = act } }

-- the queue of the scripts
abbrev pub q : Path
q = entity_path (codes "q")

-- a message without an id
abbrev pub bare : Message
bare = record { body = codes "hi"; sys = []; props = []; ttl = None; schedule = None }

-- a message with an id
abbrev pub with_id : Message
with_id = record bare { sys = record { name = MessageId; text = codes "m" } ∷ [] }

-- a message of a session
abbrev pub in_session : Message
in_session = record bare { sys = record { name = SessionId; text = codes "s" } ∷ [] }

-- the token of a lock
abbrev pub token : ℕ → Token
token lock = record { salt = empty.space.salt; lock = lock }

-- An id comes again inside its window, beside a message without one, and again as the window ends; a client's number falls;
-- one copy is settled, and settled again; the lock of another ends before it is settled.
abbrev pub first_script : List TimedCall
first_script =
    at 0 (CreateQueue (codes "q") (record default_description { window = Some 20 }))
    ∷ numbered 0 7 (Send q (with_id ∷ []) None)
    ∷ at 19999 (Send q (with_id ∷ bare ∷ []) None)
    ∷ at 20000 (Send q (with_id ∷ []) None)
    ∷ numbered 20000 6 (Send q (with_id ∷ []) None)
    ∷ at 20000 (Receive q Lock None)
    ∷ at 79999 (Settle q (Number 1) (token 1) None Complete None)
    ∷ at 79999 (Settle q (Number 1) (token 1) None Complete None)
    ∷ at 80000 (Receive q Lock None)
    ∷ at 140000 (Settle q (Number 2) (token 2) None Complete None)
    ∷ []

-- a session is accepted, asked for while it is held, and accepted again as its lock has ended
abbrev pub second_script : List TimedCall
second_script =
    at 0 (CreateQueue (codes "q") (record default_description { requires_session = true }))
    ∷ at 0 (Send q (in_session ∷ in_session ∷ []) None)
    ∷ at 0 (Accept q (Some (codes "s")))
    ∷ at 0 (Receive q Lock (Some (token 1)))
    ∷ at 59999 (Accept q (Some (codes "s")))
    ∷ at 60000 (Accept q (Some (codes "s")))
    ∷ at 60000 (Receive q Lock (Some (token 3)))
    ∷ []

-- the history that calls make on an empty namespace
abbrev pub history : List TimedCall → List Entry
history calls = entries_of 0 empty calls

-- a history that begins with an empty namespace
abbrev pub start : Log
start = fresh_log empty

-- the queue's message 1 was completed
abbrev pub end_one : End
end_one = record { leaf = record { entity = 1; part = Main }; number = 1; cause = Completed }

-- the queue accepted the id at this moment
abbrev pub noted_at : ℕ → Noted
noted_at t = record { entity = 1; id = codes "m"; moment = t; window = 20 }

-- the client's call 7
abbrev pub seven : Numbered
seven = record { client = codes "c"; number = 7 }

-- ---- a client is forgotten

-- A client acts with 7 and is shown behind a name that is less, not behind its own; it may not forget itself by its own number, another isn't
-- remembered; then it is forgotten.
abbrev pub forgotten_script : List TimedCall
forgotten_script =
    at 0 (CreateQueue (codes "q") default_description)
    ∷ numbered 0 7 (Send q (bare ∷ []) None)
    ∷ at 0 (Look (look.Clients (Some (codes "b")) 10))
    ∷ at 0 (Look (look.Clients (Some (codes "c")) 10))
    ∷ numbered 0 8 (ForgetClient (codes "c"))
    ∷ at 0 (ForgetClient (codes "d"))
    ∷ at 0 (ForgetClient (codes "c"))
    ∷ []

-- behind it, it acts with 7 again
abbrev pub again_script : List TimedCall
again_script = forgotten_script ++ numbered 0 7 (Send q (bare ∷ []) None) ∷ []

-- what these calls are answered
abbrev pub again_answers : List (Result Answered Refusal)
again_answers =
    Ok (New Done)
    ∷ Ok (New (Sent (receipt.Number 1 ∷ [])))
    ∷ Ok (New (Seen (seen.Clients (record { client = codes "c"; number = 7 } ∷ []))))
    ∷ Ok (New (Seen (seen.Clients [])))
    ∷ Err (BadCall (codes "name"))
    ∷ Err ClientNotFound
    ∷ Ok (New Done)
    ∷ Ok (New (Sent (receipt.Number 2 ∷ [])))
    ∷ []

-- another client's call 1
abbrev pub of_other : Numbered
of_other = record { client = codes "d"; number = 1 }

-- behind that, by which it forgets the first
abbrev pub other_script : List TimedCall
other_script = again_script ++ record { reading = 0; call = record { by = Some (record { client = codes "d"; number = 1 }); act = ForgetClient (codes "c") } } ∷ []

-- how many messages the sends among events have
abbrev pub messages_in : List Event → ℕ
messages_in [] = 0
messages_in (Tick t ∷ es) = messages_in es
messages_in (Called t call ∷ es) = elim call.act [ Send to messages txn ↦ length messages | _ ↦ 0 ] + messages_in es

-- the numbers of the copies that are handed out
abbrev pub handed_in : List (Result Answered Refusal) → List ℕ
handed_in [] = []
handed_in (Ok (New (Given shown)) ∷ rs) = shown.number ∷ handed_in rs
handed_in (r ∷ rs) = handed_in rs

-- the locks that each entry settles, entry by entry
abbrev pub spends_by_entry : Log → List Entry → List (List ℕ)
spends_by_entry l [] = []
spends_by_entry l (e ∷ es) = entry_spends l e ∷ spends_by_entry (after_entry l e) es

-- the ids that each entry notes
abbrev pub notes_by_entry : Log → List Entry → List (List Noted)
notes_by_entry l [] = []
notes_by_entry l (e ∷ es) = entry_notes l e ∷ notes_by_entry (after_entry l e) es

-- how many messages of each send got a number, whether or not they have an id
abbrev pub accepted_in : List Entry → List ℕ
accepted_in [] = []
accepted_in (Replied seat reading call (Ok (New reply)) ∷ es) = elim call.act [ Send to messages txn ↦ length (accepted_of (receipts_in reply) messages) ∷ [] | _ ↦ [] ] ++ accepted_in es
accepted_in (e ∷ es) = accepted_in es

-- ---- histories that a failed disk ended

-- a queue is made
abbrev pub made_script : List TimedCall
made_script = at 0 (CreateQueue (codes "q") default_description) ∷ []

-- a message is sent there
abbrev pub sending : TimedCall
sending = at 5 (Send q (bare ∷ []) None)

-- and is held, until 60005
abbrev pub held_script : List TimedCall
held_script = at 0 (CreateQueue (codes "q") default_description) ∷ sending ∷ at 5 (Receive q Lock None) ∷ []

-- its lock has ended
abbrev pub receiving : TimedCall
receiving = at 60005 (Receive q Lock None)

-- the history of these calls, then one that a disk failed, and the same again, which is refused since the namespace has stopped
abbrev pub broken_off : List TimedCall → TimedCall → List Entry
broken_off calls last = history calls ++ Replied 0 last.reading last.call (Err DiskFault) ∷ Replied 0 last.reading last.call (Err (Stopped 1)) ∷ []

-- another message is sent
abbrev pub sending_also : TimedCall
sending_also = at 5 (Send q (with_id ∷ []) None)

-- both sends, whose records were synced together, failed together; a call behind them is refused
abbrev pub failed_together : List Entry
failed_together =
    history made_script
    ++ Replied 0 5 sending.call (Err DiskFault)
    ∷ Replied 1 5 sending_also.call (Err DiskFault)
    ∷ Replied 0 5 sending.call (Err (Stopped 1))
    ∷ []

-- these events may be left open by a history of an empty namespace
abbrev pub IsOpen : List Entry → List Event → Type 0
IsOpen h events = AreUndecided (state_after empty h) h events

-- the history of these calls, and what is found of one behind it of which these events are left
abbrev pub with_left : List TimedCall → TimedCall → List Event → List Entry
with_left calls last events = history calls ++ entries_left 0 (state_after empty (history calls)) last.reading last.call events
