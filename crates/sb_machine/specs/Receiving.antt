-- Receiving, under a lock or with deletion, and looking.
use Rattle.std.specs.Prelude.{ℕ, ◌+◌, ◌*◌, ◌&&◌, ◌==◌, Bool, false, nat_le, List, [], ◌∷◌, map, filter, find, take, if◌then◌else◌, Option, Some, None}
use Rattle.sb_machine.specs.Delivery.{in_part, expired, is_expired}
use Rattle.sb_machine.specs.Leases.{is_ready, is_scheduled}
use Rattle.sb_machine.specs.Leaves.{is_deferred}
use Rattle.sb_machine.specs.Names.{is_main}
use Rattle.sb_machine.specs.Namespace.{leaf_of, listed}
use Rattle.sb_machine.specs.Rows.{Row, refuses, answers, at_entity, at_receivable}
use Rattle.sb_machine.specs.declared.call.Mode.{Mode}
use Rattle.sb_machine.specs.declared.call.Mode.TheVariants.{Lock, Delete}
use Rattle.sb_machine.specs.declared.call.Part.{Part}
use Rattle.sb_machine.specs.declared.call.Path.{Path}
use Rattle.sb_machine.specs.declared.call.Token.{Token}
use Rattle.sb_machine.specs.declared.change.Cause.TheVariants.{Received, Cancelled}
use Rattle.sb_machine.specs.declared.change.LeafChange.TheVariants.{Holds, Ends}
use Rattle.sb_machine.specs.declared.reply.CopyShown.{CopyShown}
use Rattle.sb_machine.specs.declared.reply.CopyState.{CopyState}
use Rattle.sb_machine.specs.declared.reply.CopyState.TheVariants as seen
use Rattle.sb_machine.specs.declared.reply.Refusal.TheVariants.{NotDeferred, NotScheduled}
use Rattle.sb_machine.specs.declared.reply.Reply.TheVariants.{Done, Message as Given, Empty, Copies, Expired}
use Rattle.sb_machine.specs.declared.reply.Showing.{Showing}
use Rattle.sb_machine.specs.declared.reply.Showing.TheVariants.{Removed, Locked, Browsed}
use Rattle.sb_machine.specs.declared.state.Entity.{Entity}
use Rattle.sb_machine.specs.declared.state.Hold.{Hold}
use Rattle.sb_machine.specs.declared.state.Hold.TheVariants.{Until, Session as UnderSession}
use Rattle.sb_machine.specs.declared.state.Leaf.{Leaf}
use Rattle.sb_machine.specs.declared.state.Space.{Space}
use Rattle.sb_machine.specs.declared.state.Standing.{Standing}
use Rattle.sb_machine.specs.declared.state.Standing.TheVariants.{Ready, Deferred, Held, Scheduled}
use Rattle.sb_machine.specs.declared.state.StoredCopy.{StoredCopy}
use Rattle.sb_machine.specs.Claims.{Claim, asks_session, asks_holder, is_of}

-- ---- handing out

-- what a caller sees of a message: its numbers, its delivery count, and how it is shown
abbrev pub shown : ℕ → Showing → StoredCopy → CopyShown
shown delivery showing c = record {
  number = c.number;
  enqueued_seq = c.enqueued_seq;
  enqueued = c.enqueued;
  delivery = delivery;
  message = c.message;
  showing = showing;
}

-- the moment up to which a lock lives that begins now
abbrev pub lock_end : Entity → ℕ → ℕ
lock_end e t = t + 1000 * e.about.description.lock

-- the token of the next lock
abbrev pub next_token : Space → Token
next_token s = record { salt = s.salt; lock = s.last_lock + 1 }

-- the hold of a message that is received: until a moment of its own, or as long as its session is held
abbrev pub hold_of : Entity → ℕ → Option Claim → Hold
hold_of e t None = Until (lock_end e t)
hold_of e t (Some claim) = UnderSession claim.lock

-- the moment at which that hold ends
abbrev pub until_of : Entity → ℕ → Option Claim → ℕ
until_of e t None = lock_end e t
until_of e t (Some claim) = claim.until

-- a copy is handed out
abbrev pub handed_out : Space → ℕ → Entity → Part → Mode → Option Claim → StoredCopy → Row
handed_out s t e part Lock claim c =
    answers (Given (shown (c.count + 1) (Locked (next_token s) (until_of e t claim)) c)) (in_part part e (Holds c.number (hold_of e t claim)) ∷ [])
handed_out s t e part Delete claim c = answers (Given (shown (c.count + 1) Removed c)) (in_part part e (Ends c.number false Received) ∷ [])

-- The copies that may be received; they stand in rising number.
abbrev pub is_ready_for : Option Claim → StoredCopy → Bool
is_ready_for claim c = is_ready c.standing && is_of claim c

-- the messages that this claim may receive, in order
abbrev pub receivable : Option Claim → Leaf → List StoredCopy
receivable claim leaf = filter (is_ready_for claim) leaf.copies

-- the first of them
abbrev pub first_ready : Option Claim → Leaf → Option StoredCopy
first_ready claim leaf = find (is_ready_for claim) leaf.copies

-- hands out the message that was found; where there is none, the part is empty
abbrev pub received : Space → ℕ → Entity → Part → Mode → Option Claim → Option StoredCopy → Row
received s t e part mode claim None = answers Empty []
received s t e part mode claim (Some c) = handed_out s t e part mode claim c

-- receiving the next message of a part
abbrev pub receive_row : Space → ℕ → Path → Mode → Option Token → Row
receive_row s t from mode session = at_receivable s from (λ e. asks_session e from.part session (
    asks_holder s t (leaf_of from.part e) session (λ claim. received s t e from.part mode claim (first_ready claim (leaf_of from.part e)))))

-- ---- deferred copies

-- the deferred message of this number, if this claim may have it
abbrev pub deferred_copy : ℕ → Option Claim → Leaf → Option StoredCopy
deferred_copy n claim leaf = find (λ c. is_deferred c.standing && (c.number == n) && is_of claim c) leaf.copies

-- one is handed out, unless it has expired
abbrev pub deferred_received : Space → ℕ → Entity → Part → Mode → Option Claim → Option StoredCopy → Row
deferred_received s t e part mode claim None = refuses NotDeferred
deferred_received s t e part mode claim (Some c) =
    if is_main part && is_expired t c
    then answers (Expired c.number) (expired (listed s) e c false)
    else handed_out s t e part mode claim c

-- receiving a deferred message by its number
abbrev pub receive_deferred_row : Space → ℕ → Path → ℕ → Mode → Option Token → Row
receive_deferred_row s t from n mode session = at_receivable s from (λ e. asks_session e from.part session (
    asks_holder s t (leaf_of from.part e) session (λ claim. deferred_received s t e from.part mode claim (deferred_copy n claim (leaf_of from.part e)))))

-- ---- scheduled copies

-- the scheduled message of this number
abbrev pub scheduled_copy : ℕ → Leaf → Option StoredCopy
scheduled_copy n leaf = find (λ c. is_scheduled c.standing && (c.number == n)) leaf.copies

-- one is taken back
abbrev pub cancelled : Entity → Part → Option StoredCopy → Row
cancelled e part None = refuses NotScheduled
cancelled e part (Some c) = answers Done (in_part part e (Ends c.number false Cancelled) ∷ [])

-- cancelling a scheduled message
abbrev pub cancel_row : Space → Path → ℕ → Row
cancel_row s from n = at_entity s from (λ e. cancelled e from.part (scheduled_copy n (leaf_of from.part e)))

-- ---- looking

-- how a standing looks
abbrev pub seen_as : Standing → CopyState
seen_as Ready = seen.Ready
seen_as Deferred = seen.Deferred
seen_as (Held lock hold deferred) = seen.Held
seen_as (Scheduled at) = seen.Scheduled at

-- how a message is shown to who only looks
abbrev pub browsed : StoredCopy → CopyShown
browsed c = shown c.count (Browsed (seen_as c.standing)) c

-- the first copies from this number on
abbrev pub peeked : ℕ → ℕ → List StoredCopy → List CopyShown
peeked start count copies = map browsed (take count (filter (λ c. nat_le start c.number) copies))

-- looking at messages from a number on, without a change
abbrev pub peek_row : Space → Path → ℕ → ℕ → Row
peek_row s from start count = at_entity s from (λ e. answers (Copies (peeked start count (leaf_of from.part e).copies)) [])
