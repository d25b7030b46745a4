-- A send: at once, or queued in a transaction.
use Rattle.std.specs.Prelude.{ℕ, ◌&&◌, ◌||◌, not, Bool, true, false, List, [], ◌∷◌, length, if◌then◌else◌, Option, Some, None, is_some, is_none}
use Rattle.sb_machine.specs.Names.{is_address, is_main, is_same_entity}
use Rattle.sb_machine.specs.Namespace.{entity_at, entity_of}
use Rattle.sb_machine.specs.Rows.{Row, refuses, answers, refused_by, asks, within_quota}
use Rattle.sb_machine.specs.Sending.{send_changes, receipts, too_large, have_sessions}
use Rattle.sb_machine.specs.declared.call.Path.{Path}
use Rattle.sb_machine.specs.declared.change.Change.{Change}
use Rattle.sb_model.specs.declared.message.Message.{Message}
use Rattle.sb_machine.specs.declared.reply.Refusal.TheVariants.{BadName, EntityNotFound, WrongKind, SessionRequired, TxnNotFound, TxnFull}
use Rattle.sb_machine.specs.declared.reply.Reply.TheVariants.{Sent, Queued}
use Rattle.sb_machine.specs.declared.state.Entity.{Entity}
use Rattle.sb_machine.specs.declared.state.Operation.TheVariants.{Send}
use Rattle.sb_machine.specs.declared.state.Space.{Space}
use Rattle.sb_machine.specs.declared.state.Transaction.{Transaction}
use Rattle.sb_machine.specs.Queueing.{open_in, is_open, queueing, has_room_in}

-- ---- sends

-- whether a transaction's entity is there, and is another one than the send's
abbrev pub is_other : Path → Option Entity → Bool
is_other to None = false
is_other to (Some e) = not (is_same_entity to e.about.path)

-- a send in an open transaction to another entity than its own
abbrev pub is_via : Space → Path → Option Transaction → Bool
is_via s to None = false
is_via s to (Some x) = is_other to (entity_of x.entity s)

-- a send that acts at once: its messages are taken, within the quota
abbrev pub sent : Space → ℕ → Entity → List Message → Row
sent s t e messages = within_quota t s (send_changes t e messages s) (answers (Sent (receipts t e messages s)) (send_changes t e messages s))

-- queues a send in a transaction; one without messages isn't queued
abbrev pub queued_send : ℕ → Path → List Message → Transaction → List Change
queued_send t to [] x = []
queued_send t to (m ∷ ms) x = queueing t x (Send to (m ∷ ms))

-- at once to the entity, or in the transaction
abbrev pub sent_or_queued : Space → ℕ → Path → List Message → Option Entity → Option Transaction → Row
sent_or_queued s t to messages e (Some x) = answers Queued (queued_send t to messages x)
sent_or_queued s t to messages (Some e) None = sent s t e messages
sent_or_queued s t to messages None None = refuses EntityNotFound

-- a queue or a topic, by its address
abbrev pub is_destination : Path → Bool
is_destination to = is_none to.subscription && is_main to.part

-- whether these messages have the sessions that this entity asks for, where there is one
abbrev pub have_sessions_at : Option Entity → List Message → Bool
have_sessions_at None messages = true
have_sessions_at (Some e) messages = have_sessions e messages

-- nothing is asked of another entity than the transaction's
abbrev pub send_row : Space → ℕ → Path → List Message → Option ℕ → Row
send_row s t to messages txn =
    let x = open_in txn s in
    let via = is_via s to x in
    let e = if via then None else entity_at to s in
    asks (is_address to) BadName (asks (via || is_some e) EntityNotFound (asks (is_destination to) WrongKind
    (asks (have_sessions_at e messages) SessionRequired (asks (is_open txn s) TxnNotFound
    (asks (has_room_in x (length messages)) TxnFull (refused_by (too_large messages) (sent_or_queued s t to messages e x)))))))
