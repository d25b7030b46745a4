-- A part of an entity: its copies and its sessions.
use Rattle.std.specs.Prelude.{ℕ, ◌+◌, ◌&&◌, Bool, false, List, Option, Some, None, bytes_eq}
use Rattle.std.specs.List.{list_any}
use Rattle.sb_machine.specs.Changes.{max_number}
use Rattle.sb_machine.specs.Delivery.{max_count}
use Rattle.sb_machine.specs.Each.{IsSorted, is_text_of}
use Rattle.sb_machine.specs.Fields.{is_id, is_number}
use Rattle.sb_machine.specs.Fit.{IsHold, IsCopy, IsSession, IsLeaf}
use Rattle.sb_machine.specs.Leaves.{is_held_under}
use Rattle.sb_machine.specs.Messages.{text_of}
use Rattle.sb_machine.specs.Names.{is_before}
use Rattle.sb_machine.specs.Sessions.{max_state, size_of}
use Rattle.sb_machine.specs.Visits.{max_hops}
use Rattle.sb_machine.specs.declared.state.Hold.TheVariants.{Until, Session as UnderSession}
use Rattle.sb_machine.specs.declared.state.Leaf.{Leaf}
use Rattle.sb_machine.specs.declared.state.Session.{Session}
use Rattle.sb_machine.specs.declared.state.Standing.{Standing}
use Rattle.sb_machine.specs.declared.state.Standing.TheVariants.{Ready, Deferred, Held, Scheduled}
use Rattle.sb_machine.specs.declared.state.StoredCopy.{StoredCopy}
use Rattle.sb_model.specs.declared.message.SystemName.TheVariants.{SessionId}
use Rattle.sb_judge.specs.Messages.{message_verdict}
use Rattle.sb_judge.specs.Verdicts.{Verdict, always, passes, at_most, absent, said_as, ◌&◌, if_some, each, pairs, rising}

-- the test that sessions stand by id
unfoldable pub sessions_order : (sessions : List Session) → Verdict (IsSorted (λ a b. is_before a.id b.id) sessions)
sessions_order sessions = pairs sessions (λ a b. passes (is_before a.id b.id))

-- whether a session is there, has this id, and is held under this lock
abbrev pub is_seat_in : ℕ → List ℕ → Option Session → Bool
is_seat_in lock id None = false
is_seat_in lock id (Some x) = is_held_under lock x && bytes_eq id x.id

-- whether the session of a copy is held under this lock
abbrev pub is_under : ℕ → StoredCopy → List Session → Bool
is_under lock c sessions = list_any (λ x. is_held_under lock x && is_text_of x.id (text_of SessionId c.message)) sessions

-- the test of a lock
unfoldable pub hold_verdict : (now : ℕ) → (sessions : List Session) → (c : StoredCopy) → (standing : Standing) → Verdict (IsHold now sessions c standing)
hold_verdict now sessions c (Held lock (Until u) deferred) = at_most u (now + 300000)
hold_verdict now sessions c (Held lock (UnderSession l) deferred) = passes (is_under l c sessions)
hold_verdict now sessions c Ready = always
hold_verdict now sessions c Deferred = always
hold_verdict now sessions c (Scheduled at) = always

-- the test of a copy
unfoldable pub copy_verdict : (now : ℕ) → (sessions : List Session) → (c : StoredCopy) → Verdict (IsCopy now sessions c)
copy_verdict now sessions c = said_as
    (
    at_most c.enqueued now
    & passes (is_number c.enqueued_seq)
    & at_most c.count max_count
    & at_most c.hops max_hops
    & hold_verdict now sessions c c.standing
    & message_verdict c.message
    & absent c.message.schedule
    )
    (λ p. record { enqueued = p.0; seq = p.1.0; count = p.1.1.0; hops = p.1.1.1.0; held = p.1.1.1.1.0; message = p.1.1.1.1.1.0; no_schedule = p.1.1.1.1.1.1 })
    (λ r. (r.enqueued, (r.seq, (r.count, (r.hops, (r.held, (r.message, r.no_schedule)))))))

-- the test of a session
unfoldable pub session_verdict : (now : ℕ) → (x : Session) → Verdict (IsSession now x)
session_verdict now x = said_as
    (at_most (size_of x.state) max_state & if_some x.holder (λ h. at_most h.until (now + 300000)))
    (λ p. record { state = p.0; until = p.1 })
    (λ r. (r.state, r.until))

-- the test of a part
unfoldable pub leaf_verdict : (now : ℕ) → (leaf : Leaf) → Verdict (IsLeaf now leaf)
leaf_verdict now leaf = said_as
    (
    at_most leaf.last max_number
    & rising (λ c. c.number) 0 leaf.last leaf.copies
    & sessions_order leaf.sessions
    & each leaf.sessions (λ x. passes (is_id x.id))
    & each leaf.sessions (session_verdict now)
    & each leaf.copies (copy_verdict now leaf.sessions)
    )
    (λ p. record { last = p.0; numbers = p.1.0; order = p.1.1.0; short_ids = p.1.1.1.0; sessions = p.1.1.1.1.0; copies = p.1.1.1.1.1 })
    (λ r. (r.last, (r.numbers, (r.order, (r.short_ids, (r.sessions, r.copies))))))
