-- What a lock that lives longer leaves as it was, and what of a lock is a session's.
use Rattle.std.proofs.Common.{◌≡◌, ◌≤◌, ℕ, Bool, Option, None, Some, refl, ap, arith}
use Rattle.sb_machine.specs.Leases.{is_ready}
use Rattle.sb_machine.specs.Leaves.{prolonged_standing}
use Rattle.sb_machine.specs.declared.state.Standing.{Standing}
use Rattle.sb_machine.specs.declared.state.Standing.TheVariants.{Ready, Deferred, Held, Scheduled}
use Rattle.sb_machine.specs.declared.state.StoredCopy.{StoredCopy}
use Rattle.sb_copies.specs.ByLock.{lock_of, locks_taken}
use Rattle.sb_copies.specs.Grouped.{group_row, own_row, rows_taken}
use Rattle.sb_copies.specs.UnderSession.{hold_session, session_lock_of}
use Rattle.sb_copies.proofs.Mirror.{still_marked}

-- the row of a message under a hash
pub renewed_under : (until h : ℕ) (c : StoredCopy) → own_row (λ x. is_ready x.standing) h (record c { standing = prolonged_standing until c.standing }) ≡ own_row (λ x. is_ready x.standing) h c
renewed_under until h c = ap (λ (b : Bool). group_row h c.number b) (still_marked until c.standing)

-- the lock of a message
pub still_locked : (until : ℕ) (s : Standing) → lock_of (prolonged_standing until s) ≡ lock_of s
still_locked until Ready = refl
still_locked until Deferred = refl
still_locked until (Held lock hold deferred) = refl
still_locked until (Scheduled at) = refl

-- it is none as long as a session's
pub not_under : (until : ℕ) (s : Standing) → session_lock_of (prolonged_standing until s) ≡ None
not_under until Ready = refl
not_under until Deferred = refl
not_under until (Held lock hold deferred) = refl
not_under until (Scheduled at) = refl

-- ---- room

pub at_most_one : (o : Option ℕ) → rows_taken o ≤ 1
at_most_one None = omega arith
at_most_one (Some l) = omega arith

pub fewer_under : (s : Standing) → rows_taken (session_lock_of s) ≤ locks_taken s
fewer_under Ready = omega arith
fewer_under Deferred = omega arith
fewer_under (Held lock hold deferred) = at_most_one (hold_session hold)
fewer_under (Scheduled at) = omega arith
