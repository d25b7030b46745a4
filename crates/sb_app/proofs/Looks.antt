-- A look, on each of its ways.
use Rattle.std.proofs.Common.{◌≡◌, ◌≢◌, ◌⊎◌, inl, inr, ℕ, List, refl, subst, arith}
use Rattle.sb_outside.specs.Causes.{Rose}
use Rattle.sb_engine.specs.declared.summary.Summary.{Summary}
use Rattle.sb_journal.specs.Disks.{Disks, AreHonest, AreStill, AreQuiet, HaveFailed, SameHonesty}
use Rattle.sb_journal.specs.declared.found.OpenWhy.{OpenWhy}
use Rattle.sb_journal.specs.declared.found.OpenWhy.TheVariants.{Damaged, DiskFault as FailedDisk, OutOfMemory as NoMemory}
use Rattle.sb_journal.specs.declared.found.Side.{Side}
use Rattle.sb_node.specs.Looks.{IsSeen}
use Rattle.sb_node.specs.Recovery.{damaged, recovered_on}
use Rattle.sb_app.specs.Outside.{Output, Outside}
use Rattle.sb_app.specs.Checks.{check_line, IsTold, IsLineTold}
use Rattle.sb_app.specs.Looks.{IsDamageShown, IsLooked, IsLookStatus}
use Rattle.sb_app.specs.Openings.{IsFailedStatus}
use Rattle.sb_app.specs.Tops.{IsDamageReported}
use Rattle.sb_app.proofs.Carried.{rose_of, told_status}

-- ---- it told the numbers

told_whole : (line part : List ℕ) (before now status : ℕ) → IsTold line part before now status → (Rose before now → ⊥) → (status ≡ 0) ⊎ (status ≡ 7)
told_whole line part before now status (inl is) quiet = inl is.0
told_whole line part before now status (inr (inl is)) quiet = absurd (quiet (rose_of _ _ is.2))
told_whole line part before now status (inr (inr is)) quiet = inr is.0

no_fault : (status : ℕ) → (status ≡ 0) ⊎ ((status ≡ 4) ⊎ (status ≡ 7)) → status ≢ 5
no_fault status (inl is) five = omega (arith, is, five)
no_fault status (inr (inl is)) five = omega (arith, is, five)
no_fault status (inr (inr is)) five = omega (arith, is, five)

told_known : (status : ℕ) → (status ≡ 0) ⊎ ((status ≡ 4) ⊎ (status ≡ 7)) → IsLookStatus status
told_known status (inl is) = inl is
told_known status (inr (inl is)) = inr (inl is)
told_known status (inr (inr is)) = inr (inr (inr (inr is)))

pub not_usage : (status : ℕ) → IsLookStatus status → status ≢ 2
not_usage status (inl is) two = omega (arith, is, two)
not_usage status (inr (inl is)) two = omega (arith, is, two)
not_usage status (inr (inr (inl is))) two = omega (arith, is, two)
not_usage status (inr (inr (inr (inl is)))) two = omega (arith, is, two)
not_usage status (inr (inr (inr (inr is)))) two = omega (arith, is, two)

pub look_told : (salt : ℕ) (was : Outside) (disks : Disks) (output : Output) (numbers : Summary) (status : ℕ) → IsSeen salt was.disks numbers → IsLineTold (check_line numbers) was.output output status
    → (AreHonest was.disks → AreStill was.disks disks) → AreQuiet was.disks disks → SameHonesty was.disks disks → IsLooked salt was (record was { output = output; disks = disks }) status
look_told salt was disks output numbers status seen told still quiet honesty =
    let line = check_line numbers in
    record {
      look = inl (record {
        start = seen.start;
        last = seen.last;
        found = seen.found;
        consistent = seen.consistent;
        told = subst (λ s. IsLineTold (check_line s) was.output output status) seen.numbers told;
      });
      known = told_known status (told_status line told.part was.output.faults output.faults status told.is);
      still = still;
      unread = refl;
      disk_fault = λ five. absurd (no_fault status (told_status line told.part was.output.faults output.faults status told.is) five);
      disk_quiet = λ other. quiet;
      complete = λ honest free. told_whole line told.part was.output.faults output.faults status told.is free.output_quiet;
      honesty = honesty;
    }

-- ---- it couldn't

-- for this reason, and with this status
pub record IsLookFailed (salt : ℕ) (was now : Disks) (out out_after : Output) (why : OpenWhy) (status : ℕ) : Type 0 where
  pub known : IsFailedStatus status
  pub damage : status ≡ 6 → IsDamageReported why out out_after
  pub silent : status ≢ 6 → out_after ≡ out
  pub failed : status ≡ 5 → why ≡ FailedDisk
  pub other : status ≢ 5 → why ≢ FailedDisk
  pub broken : AreHonest was → (side : Side) (place : ℕ) → why ≡ Damaged side place → recovered_on was salt ≡ damaged side place
  pub still : AreHonest was → AreStill was now
  pub cause : why ≡ FailedDisk → HaveFailed was now
  pub quiet : why ≢ FailedDisk → AreQuiet was now
  pub honesty : SameHonesty was now

damage_shown : (salt : ℕ) (was : Outside) (disks : Disks) (output : Output) (why : OpenWhy) → (AreHonest was.disks → (side : Side) (place : ℕ) → why ≡ Damaged side place → recovered_on was.disks salt ≡ damaged side place) → IsDamageReported why was.output output
    → IsDamageShown salt was (record was { output = output; disks = disks })
damage_shown salt was disks output (Damaged side place) broken reported = record {
  side = side;
  place = place;
  broken = λ honest. broken honest side place refl;
  reported = reported;
}
damage_shown salt was disks output FailedDisk broken reported = absurd reported
damage_shown salt was disks output NoMemory broken reported = absurd reported

pub look_failed : (salt : ℕ) (was : Outside) (disks : Disks) (output : Output) (why : OpenWhy) (status : ℕ) → IsLookFailed salt was.disks disks was.output output why status → IsLooked salt was (record was { output = output; disks = disks }) status
look_failed salt was disks output why status fails = by_status fails.known
  where
    by_status : IsFailedStatus status → IsLooked salt was (record was { output = output; disks = disks }) status
    by_status (inl five) = record {
      look = inr (inr (inl five, fails.silent (λ six. absurd (omega (arith, five, six)))));
      known = inr (inr (inl five));
      still = fails.still;
      unread = refl;
      disk_fault = λ is. fails.cause (fails.failed five);
      disk_quiet = λ other. absurd (other five);
      complete = λ honest free. absurd (free.disk_quiet (fails.cause (fails.failed five)));
      honesty = fails.honesty;
    }
    by_status (inr (inl six)) =
        let shown = damage_shown salt was disks output why fails.broken (fails.damage six) in
        record {
          look = inr (inl (six, shown));
          known = inr (inr (inr (inl six)));
          still = fails.still;
          unread = refl;
          disk_fault = λ five. absurd (omega (arith, five, six));
          disk_quiet = λ other. fails.quiet (fails.other other);
          complete = λ honest free. absurd (free.sound (shown.side, shown.place, shown.broken honest));
          honesty = fails.honesty;
        }
    by_status (inr (inr seven)) = record {
      look = inr (inr (inr seven, fails.silent (λ six. absurd (omega (arith, seven, six)))));
      known = inr (inr (inr (inr seven)));
      still = fails.still;
      unread = refl;
      disk_fault = λ five. absurd (omega (arith, five, seven));
      disk_quiet = λ other. fails.quiet (fails.other other);
      complete = λ honest free. inr seven;
      honesty = fails.honesty;
    }

-- ---- memory was wanting at once, and nothing was done

pub look_at_once : (salt : ℕ) (was : Outside) → IsLooked salt was was 7
look_at_once salt was = record {
  look = inr (inr (inr refl, refl));
  known = inr (inr (inr (inr refl)));
  still = λ honest. ((refl, refl), (refl, refl));
  unread = refl;
  disk_fault = λ five. absurd cc;
  disk_quiet = λ other. (refl, refl);
  complete = λ honest free. inr refl;
  honesty = (refl, refl);
}
