-- When each thing of a namespace comes due by itself.
use Rattle.std.specs.Prelude.{ℕ, ◌||◌, min, nat_le, Bool, false, List, map, Option, Some, None}
use Rattle.std.specs.List.{fold, list_any}
use Rattle.sb_machine.specs.Names.{is_main}
use Rattle.sb_machine.specs.declared.call.Part.{Part}
use Rattle.sb_machine.specs.declared.call.Part.TheVariants.{Main, Dead, Transfer}
use Rattle.sb_machine.specs.declared.state.Entity.{Entity}
use Rattle.sb_machine.specs.declared.state.Leaf.{Leaf}
use Rattle.sb_machine.specs.declared.state.Session.{Session}
use Rattle.sb_machine.specs.declared.state.Space.{Space}
use Rattle.sb_machine.specs.declared.state.Standing.{Standing}
use Rattle.sb_machine.specs.declared.state.StoredCopy.{StoredCopy}
use Rattle.sb_machine.specs.declared.state.Transaction.{Transaction}
use Rattle.sb_copies.specs.Dues.{standing_due}
use Rattle.sb_entities.specs.EntityDues.{least_due_of}
pub use Rattle.sb_copies.specs.Dues.{copy_expiry, expiry, hold_deadline, in_range, never}

-- ---- one thing

-- When a copy that stands so comes due, by its expiry: in a main part alone messages expire. One that is held with its session comes due
-- with that one.
abbrev pub standing_deadline : Part → Option ℕ → Standing → Option ℕ
standing_deadline part end standing = standing_due (is_main part) end standing

-- when a message of a part comes due, if ever
abbrev pub copy_deadline : Part → StoredCopy → Option ℕ
copy_deadline part c = standing_deadline part (copy_expiry c) c.standing

-- when a session's lock ends, if somebody holds it
abbrev pub session_deadline : Session → Option ℕ
session_deadline x = elim x.holder [ Some h ↦ Some h.until | None ↦ None ]

-- ---- whether one has come

-- whether a deadline is there and has come at t
abbrev pub has_passed : ℕ → Option ℕ → Bool
has_passed t None = false
has_passed t (Some d) = nat_le d t

-- whether something of one part is due at t
abbrev pub comes_in : ℕ → Part → Leaf → Bool
comes_in t part leaf = list_any (λ x. has_passed t (session_deadline x)) leaf.sessions || list_any (λ c. has_passed t (copy_deadline part c)) leaf.copies

-- whether something of an entity is due at t
abbrev pub comes_of : ℕ → Entity → Bool
comes_of t e = comes_in t Main e.main || comes_in t Dead e.dead || comes_in t Transfer e.transfer

-- whether something of the namespace is due at t
abbrev pub comes : ℕ → Space → Bool
comes t s = list_any (comes_of t) s.entities || list_any (λ x. nat_le x.deadline t) s.transactions

-- ---- the first to come

-- the least moment at which one of these transactions is dropped
abbrev pub least_deadline : List Transaction → ℕ
least_deadline transactions = fold min never (map (λ x. x.deadline) transactions)

-- the least moment at which something of the namespace comes due, `never` where nothing does
abbrev pub soonest : Space → ℕ
soonest s = min (least_due_of s.entities) (least_deadline s.transactions)
