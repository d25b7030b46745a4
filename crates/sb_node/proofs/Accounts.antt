-- What a call says of its disks: a call of one failed only where it is answered so.
use Rattle.std.proofs.Common.{◌≡◌, ◌≢◌, true, false, true≢false, Result, Ok, Err, refl, sym, ◌∙◌, ap}
use Rattle.std.specs.Prelude.{IfErr}
use Rattle.sb_outside.specs.declared.disk.Disk.{Ghosts}
use Rattle.sb_journal.specs.declared.journal.Journal.{Journal}
use Rattle.sb_journal.specs.Disks.{AreQuiet, NoneFell, OneFault, SameHonesty}
use Rattle.sb_journal.specs.Journals.{fault_count, has_failed, journal_disks}
use Rattle.sb_machine.specs.History.{is_disk_fault}
use Rattle.sb_machine.specs.declared.reply.Answered.{Answered}
use Rattle.sb_machine.specs.declared.reply.Refusal.{Refusal}
use Rattle.sb_machine.specs.declared.reply.Refusal.TheVariants.{DiskFault, OutOfMemory}
use Rattle.sb_recorder.specs.Recorders.{HasAccount, IsUnwritten}
use Rattle.sb_node.specs.Ahead.{tells_fault}
use Rattle.sb_node.proofs.Turning.{same_account}

module _ {D : Type 0} {B : Ghosts D} (was now : Journal D B) (later : NoneFell (journal_disks was) (journal_disks now)) (honesty : SameHonesty (journal_disks was) (journal_disks now)) where
  -- where none failed
  pub quiet_account : has_failed now ≡ false → AreQuiet (journal_disks was) (journal_disks now) → HasAccount was now
  quiet_account running quiet = record { later = later; honesty = honesty; quiet = λ still. quiet; cause = λ failed. absurd (true≢false (sym failed ∙ running)) }

  -- where one did
  pub failed_account : has_failed now ≡ true → OneFault (journal_disks was) (journal_disks now) (fault_count now) → HasAccount was now
  failed_account failed cause = record { later = later; honesty = honesty; quiet = λ running. absurd (true≢false (sym failed ∙ running)); cause = λ fault. cause }

  -- where an event wasn't staged
  pub unstaged_account : (e : Refusal) → has_failed was ≡ false → IsUnwritten was now e → HasAccount was now
  unstaged_account OutOfMemory runs same = same_account was now same runs
  unstaged_account DiskFault runs fault = failed_account fault.0 fault.1
  unstaged_account _ runs none = absurd none

pub unstaged_tells : {D : Type 0} {B : Ghosts D} (was now : Journal D B) (e : Refusal) → has_failed was ≡ false → IsUnwritten was now e → has_failed now ≡ is_disk_fault (Err e)
unstaged_tells {D} {B} was now OutOfMemory runs same = ap (λ (j : Journal D B). has_failed j) same ∙ runs
unstaged_tells was now DiskFault runs fault = fault.0
unstaged_tells was now _ runs none = absurd none

-- ---- another answer

pub other_tells : {T : Type 0} (r : Result T Refusal) → IfErr r (λ e. e ≡ DiskFault → ⊥) → tells_fault r ≡ false
other_tells (Ok done) other = refl
other_tells (Err DiskFault) other = absurd (other refl)
other_tells _ other = refl

pub other_told : (answer : Result Answered Refusal) → answer ≢ Err DiskFault → is_disk_fault answer ≡ false
other_told (Err DiskFault) other = absurd (other refl)
other_told _ other = refl
