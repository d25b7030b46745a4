-- What changes in one part of an entity: its queue, its dead-letter subqueue or its transfer dead-letter subqueue.
-- A leaf is what stands in one: its messages in order of their numbers, its sessions, and the last number that it gave.
use Rattle.std.specs.Prelude.{ℕ, ◌+◌, ◌==◌, List, [], ◌∷◌, ◌++◌, Bool, true, false, if◌then◌else◌, find, bytes_eq, Option, Some, None, is_some}
use Rattle.sb_machine.specs.Keyed.{changed, with_sorted}
use Rattle.sb_machine.specs.Names.{is_before}
use Rattle.sb_machine.specs.declared.change.Fresh.{Fresh}
use Rattle.sb_machine.specs.declared.change.LeafChange.{LeafChange}
use Rattle.sb_machine.specs.declared.change.LeafChange.TheVariants.{Enters, Passes, Ends, Holds, Stands, Renews, Opens, Closes, Prolongs, Writes}
use Rattle.sb_machine.specs.declared.state.Hold.TheVariants.{Until}
use Rattle.sb_machine.specs.declared.state.Holder.{Holder}
use Rattle.sb_machine.specs.declared.state.Leaf.{Leaf}
use Rattle.sb_machine.specs.declared.state.Session.{Session}
use Rattle.sb_machine.specs.declared.state.Standing.{Standing}
use Rattle.sb_machine.specs.declared.state.Standing.TheVariants.{Ready, Deferred, Held, Scheduled}
use Rattle.sb_machine.specs.declared.state.StoredCopy.{StoredCopy}

-- ---- copies

-- whether a message has this number
abbrev pub has_number : ℕ → StoredCopy → Bool
has_number n c = c.number == n

-- the message of this number, if the part has it
abbrev pub copy_in : ℕ → Leaf → Option StoredCopy
copy_in n leaf = find (has_number n) leaf.copies

-- the sequence number that a message brings, else this one
abbrev pub seq_or : Option ℕ → ℕ → ℕ
seq_or None n = n
seq_or (Some seq) n = seq

-- a copy that gets its number at a moment
abbrev pub stored : ℕ → ℕ → Fresh → StoredCopy
stored n t fresh = record {
  number = n;
  enqueued_seq = seq_or fresh.seq n;
  enqueued = t;
  count = 0;
  hops = fresh.hops;
  standing = fresh.standing;
  message = fresh.message;
}

-- whether a message is deferred
abbrev pub is_deferred : Standing → Bool
is_deferred Deferred = true
is_deferred Ready = false
is_deferred (Held lock hold deferred) = false
is_deferred (Scheduled at) = false

-- how a message stands once its lock is renewed
abbrev pub prolonged_standing : ℕ → Standing → Standing
prolonged_standing until (Held lock hold deferred) = Held lock (Until until) deferred
prolonged_standing until Ready = Ready
prolonged_standing until Deferred = Deferred
prolonged_standing until (Scheduled at) = Scheduled at

-- a part with g done to the message of this number
abbrev pub on_copy : ℕ → (StoredCopy → List StoredCopy) → Leaf → Leaf
on_copy n g leaf = record leaf { copies = changed (has_number n) g leaf.copies }

-- ---- sessions

-- whether a session has this id
abbrev pub has_id : List ℕ → Session → Bool
has_id id x = bytes_eq x.id id

-- the session of this id, if the part has it
abbrev pub session_in : List ℕ → Leaf → Option Session
session_in id leaf = find (has_id id) leaf.sessions

-- held under this lock
abbrev pub is_held_under : ℕ → Session → Bool
is_held_under lock x = elim x.holder [ Some h ↦ h.lock == lock | None ↦ false ]

-- a session is remembered while it has a holder or a state
abbrev pub remembered : Session → List Session
remembered x = if is_some x.holder then x ∷ [] else (if is_some x.state then x ∷ [] else [])

-- a holder with this lock until that moment
abbrev pub holder_new : ℕ → ℕ → Holder
holder_new lock until = record { lock = lock; until = until }

-- one that nobody holds is held under this lock
abbrev pub taken : ℕ → ℕ → Session → Session
taken lock until x = record x { holder = elim x.holder [ Some h ↦ Some h | None ↦ Some (holder_new lock until) ] }

-- the sessions of a part once one of them is accepted under a new lock
abbrev pub opened : ℕ → List ℕ → ℕ → Leaf → List Session
opened lock id until leaf = elim (session_in id leaf) [
  | Some x ↦ changed (has_id id) (λ y. taken lock until y ∷ []) leaf.sessions
  | None ↦ with_sorted (λ y. is_before y.id id) (record { id = id; state = None; holder = Some (holder_new lock until) }) leaf.sessions
]

-- a session's holder once its lock is renewed
abbrev pub prolonged_holder : ℕ → Option Holder → Option Holder
prolonged_holder until None = None
prolonged_holder until (Some h) = Some (holder_new h.lock until)

-- a part with g done to the session that is held under this lock
abbrev pub on_session : ℕ → (Session → List Session) → Leaf → Leaf
on_session lock g leaf = record leaf { sessions = changed (is_held_under lock) g leaf.sessions }

-- ---- the part after a change, at a moment; `lock` is the next lock number

-- a part after a change at t; lock is the number that a new lock gets
abbrev pub leaf_after : ℕ → ℕ → LeafChange → Leaf → Leaf
leaf_after lock t (Enters fresh) leaf = record leaf { last = leaf.last + 1; copies = leaf.copies ++ stored (leaf.last + 1) t fresh ∷ [] }
leaf_after lock t (Passes cause) leaf = record leaf { last = leaf.last + 1 }
leaf_after lock t (Ends n settled cause) leaf = on_copy n (λ c. []) leaf
leaf_after lock t (Holds n hold) leaf = on_copy n (λ c. record c { standing = Held lock hold (is_deferred c.standing) } ∷ []) leaf
leaf_after lock t (Stands n settled count standing) leaf = on_copy n (λ c. record c { count = count; standing = standing } ∷ []) leaf
leaf_after lock t (Renews n until) leaf = on_copy n (λ c. record c { standing = prolonged_standing until c.standing } ∷ []) leaf
leaf_after lock t (Opens id until) leaf = record leaf { sessions = opened lock id until leaf }
leaf_after lock t (Closes l) leaf = on_session l (λ x. remembered (record x { holder = None })) leaf
leaf_after lock t (Prolongs l until) leaf = on_session l (λ x. record x { holder = prolonged_holder until x.holder } ∷ []) leaf
leaf_after lock t (Writes l state) leaf = on_session l (λ x. remembered (record x { state = state })) leaf

-- how many copy numbers, and how many lock numbers, a change gives
abbrev pub copies_given : LeafChange → ℕ
copies_given (Enters fresh) = 1
copies_given (Passes cause) = 1
copies_given _ = 0

-- how many lock numbers a change gives
abbrev pub locks_given : LeafChange → ℕ
locks_given (Holds n hold) = 1
locks_given (Opens id until) = 1
locks_given _ = 0
