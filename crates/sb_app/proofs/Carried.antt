-- A whole call of the program, on each of its ways.
use Rattle.std.proofs.Common.{◌≡◌, ◌≢◌, ◌≤◌, ◌⊎◌, inl, inr, ℕ, List, ◌++◌, length, Bool, true, false, Option, Some, None, refl, sym, ◌∙◌, ap, arith, length-append}
use Rattle.std.specs.Prelude.{IsSome}
use Rattle.sb_outside.specs.Causes.{Rose, RoseByOne}
use Rattle.sb_journal.specs.declared.found.Side.{Side}
use Rattle.sb_journal.specs.declared.found.OpenWhy.{OpenWhy}
use Rattle.sb_journal.specs.declared.found.OpenWhy.TheVariants.{Damaged, DiskFault as FailedDisk, OutOfMemory as NoMemory}
use Rattle.sb_machine.specs.declared.state.State.{State}
use Rattle.sb_journal.specs.Disks.{Disks, AreHonest, AreUnwritten, IsAtRest, HaveFailed, AreQuiet, SameHonesty}
use Rattle.sb_engine.specs.Engines.{summary_of}
use Rattle.sb_node.specs.Recovery.{damaged, recovers, Recovers, recovered_on}
use Rattle.sb_node.specs.Nodes.{IsDurable}
use Rattle.sb_app.specs.Outside.{Output, Outside}
use Rattle.sb_app.specs.declared.ending.RunEnd.{RunEnd}
use Rattle.sb_app.specs.declared.ending.RunEnd.TheVariants.{ReadFault, WriteFault, DiskFault, OutOfMemory, LongInput, TimeJump}
use Rattle.sb_app.specs.declared.task.Task.{Task}
use Rattle.sb_app.specs.declared.task.Task.TheVariants.{Run, Check, Drill}
use Rattle.sb_app.specs.Checks.{check_line, IsTold, IsLineTold}
use Rattle.sb_input.specs.Taking.{IsLong}
use Rattle.sb_app.specs.Runs.{IsScriptRun, state_after_all, status_by}
use Rattle.sb_app.specs.Endings.{LastLine, IsLineWritten, EndsAt, IsCutRun, status_of_end}
use Rattle.sb_app.specs.Tops.{IsUnopened, IsRefused, IsDamageReported, usage_line, IsRunStatus, IsStatus, IsShort, IsFree, IsComplete, IsEarlyRun, IsCarriedOut}
use Rattle.sb_app.proofs.Faults.{quiet_on, failed_on, honest_on}
use Rattle.sb_app.proofs.Statuses.{no_five, no_disk_end, no_two_whole, no_two_end}
use Rattle.sb_app.specs.Openings.{IsOpened, IsFailed, IsFailedStatus}
use Rattle.sb_app.proofs.Whole.{opened, whole_run}
use Rattle.sb_app.proofs.Early.{early_run}

-- a call has one task at most
no_some : (P : Type 0) → IsSome {T = Task} None → P
no_some P some = absurd cc

pub no_none : (task : Task) (P : Type 0) → Some task ≡ None → P
no_none task P none = absurd cc

-- ---- words that name no task

pub usage_alone : (clock : ℕ → Type 0) (days salt : ℕ) (was : Outside) (output : Output) → IsLineWritten usage_line was.output output → IsCarriedOut clock days None salt was (record was { output = output }) 2
usage_alone clock days salt was output written = record {
  whole = λ named refused is. no_two_whole refused _ is;
  early = λ named end is. no_two_end end _ is;
  long = λ ten. absurd cc;
  jump = λ jumped. absurd cc;
  checked = λ named. no_none Check _ (sym named);
  drilled = λ count seed named. no_none (Drill count seed) _ (sym named);
  broken = λ six. absurd cc;
  usage = λ two. refl;
  unnamed = λ nothing. inl refl;
  usage_written = λ two. written;
  known = inr (inl refl);
  read_fault = λ three. absurd cc;
  read_quiet = λ other. refl;
  write_fault = λ four. absurd cc;
  write_quiet = λ refused is. no_two_whole refused _ is;
  disk_fault = λ five. absurd cc;
  disk_quiet = λ other. (refl, refl);
  complete = λ some honest free. no_some _ some;
  honesty = (refl, refl);
}

-- ---- words that weren't read, for want of memory

pub nothing_done : (salt : ℕ) (was : Outside) → IsUnopened salt was was OutOfMemory
nothing_done salt was = record {
  why = inr refl;
  unread = refl;
  unsaid = refl;
  untouched = λ honest same. (record { seen = refl; moments = inl (refl, refl) }, record { seen = refl; moments = inl (refl, refl) });
  kept = λ honest. (λ ours. inl (refl, refl), inl (refl, refl));
}

unread_by : (salt : ℕ) (was : Outside) (end : RunEnd) → 7 ≡ status_of_end end → IsUnopened salt was was end
unread_by salt was ReadFault is = absurd cc
unread_by salt was WriteFault is = absurd cc
unread_by salt was DiskFault is = absurd cc
unread_by salt was OutOfMemory is = nothing_done salt was
unread_by salt was LongInput is = absurd cc
unread_by salt was TimeJump is = absurd cc

not_whole : (refused : Bool) (P : Type 0) → 7 ≡ status_by refused → P
not_whole false P is = absurd cc
not_whole true P is = absurd cc

pub unread_alone : (clock : ℕ → Type 0) (days : ℕ) (task : Option Task) (salt : ℕ) (was : Outside) → IsCarriedOut clock days task salt was was 7
unread_alone clock days task salt was = record {
  whole = λ named refused is. not_whole refused _ is;
  early = λ named end is. inl (unread_by salt was end is);
  long = λ ten. absurd cc;
  jump = λ jumped. absurd cc;
  checked = λ named. inr (inl (OutOfMemory, refl, nothing_done salt was));
  drilled = λ count seed named. inr (inl (OutOfMemory, refl, nothing_done salt was));
  broken = λ six. absurd cc;
  usage = λ two. absurd cc;
  unnamed = λ none. inr (refl, refl);
  usage_written = λ two. absurd cc;
  known = inl (inr (OutOfMemory, refl));
  read_fault = λ three. absurd cc;
  read_quiet = λ other. refl;
  write_fault = λ four. absurd cc;
  write_quiet = λ refused is. refl;
  disk_fault = λ five. absurd cc;
  disk_quiet = λ other. (refl, refl);
  complete = λ some honest free. inl (inr refl);
  honesty = (refl, refl);
}

-- ---- an opening that failed

between : (n : ℕ) → IsFailedStatus n → (5 ≤ n) × (n ≤ 7)
between n (inl five) = (omega (arith, five), omega (arith, five))
between n (inr (inl six)) = (omega (arith, six), omega (arith, six))
between n (inr (inr seven)) = (omega (arith, seven), omega (arith, seven))

pub unopened_by : (salt : ℕ) (was : Outside) (disks : Disks) (output : Output) (why : OpenWhy) (status : ℕ) → IsFailed salt was.disks disks was.output output why status → (end : RunEnd) → status ≡ status_of_end end → IsUnopened salt was (record was { output = output; disks = disks }) end
unopened_by salt was disks output why status fails ReadFault is = absurd (omega (arith, is, (between status fails.known).0))
unopened_by salt was disks output why status fails WriteFault is = absurd (omega (arith, is, (between status fails.known).0))
unopened_by salt was disks output why status fails DiskFault is = record {
  why = inl refl;
  unread = refl;
  unsaid = fails.silent (λ six. absurd (omega (arith, is, six)));
  untouched = λ honest other. absurd cc;
  kept = fails.keeps;
}
unopened_by salt was disks output why status fails OutOfMemory is = record {
  why = inr refl;
  unread = refl;
  unsaid = fails.silent (λ six. absurd (omega (arith, is, six)));
  untouched = λ honest same. fails.untouched honest (fails.other (λ five. absurd (omega (arith, is, five))));
  kept = fails.keeps;
}
unopened_by salt was disks output why status fails LongInput is = absurd (omega (arith, is, (between status fails.known).1))
unopened_by salt was disks output why status fails TimeJump is = absurd (omega (arith, is, (between status fails.known).1))

pub refused_by : (salt : ℕ) (was : Outside) (disks : Disks) (output : Output) (why : OpenWhy) → (AreHonest was.disks → (side : Side) (place : ℕ) → why ≡ Damaged side place → recovered_on was.disks salt ≡ damaged side place)
    → (AreHonest was.disks → why ≢ FailedDisk → AreUnwritten was.disks disks) → (AreHonest was.disks → (side : Side) (place : ℕ) → why ≡ Damaged side place → IsAtRest side was.disks disks) → IsDamageReported why was.output output → IsRefused salt was (record was { output = output; disks = disks })
refused_by salt was disks output (Damaged side place) broken untouched rests reported = record {
  side = side;
  place = place;
  broken = λ honest. broken honest side place refl;
  reported = reported;
  unread = refl;
  untouched = λ honest. untouched honest (λ e. absurd cc);
  at_rest = λ honest. rests honest side place refl;
}
refused_by salt was disks output FailedDisk broken untouched rests reported = absurd reported
refused_by salt was disks output NoMemory broken untouched rests reported = absurd reported

complete_unopened : (salt : ℕ) (was : Outside) (disks : Disks) (output : Output) (why : OpenWhy) (status : ℕ) → IsFailed salt was.disks disks was.output output why status → AreHonest was.disks → IsFree salt was (record was { output = output; disks = disks }) → IsFailedStatus status → IsComplete status
complete_unopened salt was disks output why status fails honest free (inl five) = absurd (free.disk_quiet (fails.cause (fails.failed five)))
complete_unopened salt was disks output why status fails honest free (inr (inl six)) =
    let refused = refused_by salt was disks output why fails.broken fails.untouched fails.rests (fails.damage six) in
    absurd (free.sound (refused.side, refused.place, refused.broken honest))
complete_unopened salt was disks output why status fails honest free (inr (inr seven)) = inr seven

known_unopened : (n : ℕ) → IsFailedStatus n → IsStatus n
known_unopened n (inl five) = inl (inr (DiskFault, five))
known_unopened n (inr (inl six)) = inr (inr six)
known_unopened n (inr (inr seven)) = inl (inr (OutOfMemory, seven))

no_whole_above : (status : ℕ) (refused : Bool) (P : Type 0) → 5 ≤ status → status ≡ status_by refused → P
no_whole_above status false P low is = absurd (omega (arith, low, is))
no_whole_above status true P low is = absurd (omega (arith, low, is))

-- what a check and a drill come to then
ended_unopened : (salt : ℕ) (was : Outside) (disks : Disks) (output : Output) (why : OpenWhy) (status : ℕ) → IsFailed salt was.disks disks was.output output why status → IsFailedStatus status
    → ((end : RunEnd) × (status ≡ status_of_end end) × IsUnopened salt was (record was { output = output; disks = disks }) end) ⊎ (status ≡ 6)
ended_unopened salt was disks output why status fails (inl five) = inl (DiskFault, five, unopened_by salt was disks output why status fails DiskFault five)
ended_unopened salt was disks output why status fails (inr (inl six)) = inr six
ended_unopened salt was disks output why status fails (inr (inr seven)) = inl (OutOfMemory, seven, unopened_by salt was disks output why status fails OutOfMemory seven)

pub not_opened : (clock : ℕ → Type 0) (days : ℕ) (task : Task) (salt : ℕ) (was : Outside) (disks : Disks) (output : Output) (why : OpenWhy) (status : ℕ) → IsFailed salt was.disks disks was.output output why status → IsCarriedOut clock days (Some task) salt was (record was { output = output; disks = disks }) status
not_opened clock days task salt was disks output why status fails =
    let range = between status fails.known in
    record {
      whole = λ named refused is. no_whole_above status refused _ range.0 is;
      early = λ named end is. inl (unopened_by salt was disks output why status fails end is);
      long = λ ten. absurd (omega (arith, ten, range.1));
      jump = λ jumped. absurd (omega (arith, jumped, range.1));
      checked = λ named. inr (ended_unopened salt was disks output why status fails fails.known);
      drilled = λ count seed named. inr (ended_unopened salt was disks output why status fails fails.known);
      broken = λ six. refused_by salt was disks output why fails.broken fails.untouched fails.rests (fails.damage six);
      usage = λ two. absurd (omega (arith, two, range.0));
      unnamed = λ none. no_none task _ none;
      usage_written = λ two. absurd (omega (arith, two, range.0));
      known = known_unopened status fails.known;
      read_fault = λ three. absurd (omega (arith, three, range.0));
      read_quiet = λ other. refl;
      write_fault = λ four. absurd (omega (arith, four, range.0));
      write_quiet = λ refused is. no_whole_above status refused _ range.0 is;
      disk_fault = λ five. fails.cause (fails.failed five);
      disk_quiet = λ other. fails.quiet (fails.other other);
      complete = λ named honest free. inl (complete_unopened salt was disks output why status fails honest free fails.known);
      honesty = fails.honesty;
    }

-- ---- a run

-- what is known of it
pub record IsEnded (clock : ℕ → Type 0) (days : ℕ) (Safe : Type 0) (salt : ℕ) (start : State) (was now : Outside) (state : State) (status : ℕ) : Type 0 where
  pub done : (refused : Bool) → status ≡ status_by refused → IsScriptRun clock days Safe start was now state refused
  pub cut : (end : RunEnd) → status ≡ status_of_end end → IsCutRun clock days Safe start was now state end
  pub recovers : Safe → status ≢ 5 → Recovers (recovered_on now.disks salt) state
  pub durable : Safe → status ≢ 5 → IsDurable now.disks state
  pub passed : (refused : Bool) → status ≡ status_by refused → now.output.faults ≡ was.output.faults
  pub read_fault : status ≡ 3 → RoseByOne was.input.faults now.input.faults
  pub read_quiet : status ≢ 3 → now.input.faults ≡ was.input.faults
  pub disk_fault : status ≡ 5 → HaveFailed was.disks now.disks
  pub disk_quiet : status ≢ 5 → AreQuiet was.disks now.disks
  pub known : IsRunStatus status
  pub honesty : SameHonesty was.disks now.disks

no_two : (status : ℕ) → IsRunStatus status → status ≢ 2
no_two status (inl whole) two = no_two_whole whole.0 _ (sym two ∙ whole.1)
no_two status (inr end) two = no_two_end end.0 _ (sym two ∙ end.1)

no_six : (status : ℕ) → IsRunStatus status → status ≢ 6
no_six status (inl (false, is)) six = absurd (omega (arith, is, six))
no_six status (inl (true, is)) six = absurd (omega (arith, is, six))
no_six status (inr (end, is)) six = by_end end is
  where
    by_end : (end : RunEnd) → status ≡ status_of_end end → ⊥
    by_end ReadFault is = omega (arith, is, six)
    by_end WriteFault is = omega (arith, is, six)
    by_end DiskFault is = omega (arith, is, six)
    by_end OutOfMemory is = omega (arith, is, six)
    by_end LongInput is = omega (arith, is, six)
    by_end TimeJump is = omega (arith, is, six)

-- its output failed
write_cut : (clock : ℕ → Type 0) (days : ℕ) (Safe : Type 0) (start : State) (was now : Outside) (state : State) → IsCutRun clock days Safe start was now state WriteFault → RoseByOne was.output.faults now.output.faults
write_cut clock days Safe start was now state run = by_last run.last run.ends
  where
    by_last : (last : Option LastLine) → EndsAt (state_after_all start run.lines) last run.part was.output.faults now.output.faults WriteFault → RoseByOne was.output.faults now.output.faults
    by_last None ends = absurd ends
    by_last (Some last) ends = ends.1.2

pub short_long : (left left_after : Option (List ℕ)) → IsShort left → IsLong left left_after → ⊥
short_long None left_after short long = short
short_long (Some all) left_after short long =
    let took = long.1 in
    let whole : length all ≡ length (long.0 ++ took.0) = ap length took.1 in
    omega (arith, short, long.2, whole, length-append long.0 took.0)

pub rose_of : (before now : ℕ) → RoseByOne before now → Rose before now
rose_of before now one = omega (arith, one)

-- where nothing keeps a run from taking its input, all its lines are answered or memory is wanting
complete_by : (clock : ℕ → Type 0) (days : ℕ) (Safe : Type 0) (salt : ℕ) (was now : Outside) (ready : Disks) (start state : State) (status : ℕ) → AreQuiet was.disks ready → IsEnded clock days Safe salt start (opened was ready) now state status → IsFree salt was now → IsComplete status ⊎ (status ≡ 14)
complete_by clock days Safe salt was now ready start state status same runs free = by_status runs.known
  where
    by_end : (end : RunEnd) → status ≡ status_of_end end → IsComplete status ⊎ (status ≡ 14)
    by_end ReadFault is = absurd (free.input_quiet (rose_of _ _ (runs.read_fault is)))
    by_end WriteFault is = absurd (free.output_quiet (rose_of _ _ (write_cut clock days Safe start (opened was ready) now state (runs.cut WriteFault is))))
    by_end DiskFault is = absurd (free.disk_quiet (failed_on was.disks ready now.disks same (runs.disk_fault is)))
    by_end OutOfMemory is = inl (inr is)
    by_end LongInput is = absurd (short_long was.input.left now.input.left free.short ((runs.cut LongInput is).long refl))
    by_end TimeJump is = inr is

    by_status : IsRunStatus status → IsComplete status ⊎ (status ≡ 14)
    by_status (inl whole) = inl (inl whole)
    by_status (inr end) = by_end end.0 end.1

pub run_over : (clock : ℕ → Type 0) (days : ℕ) (Safe : Type 0) (salt : ℕ) (was now : Outside) (ready : Disks) (start state : State) (status : ℕ) → IsOpened Safe salt was.disks ready start → IsEnded clock days Safe salt start (opened was ready) now state status → IsCarriedOut clock days (Some Run) salt was now status
run_over clock days Safe salt was now ready start state status opening runs = record {
  whole = λ named refused is. whole_run clock days Safe salt was now ready start state refused status opening (runs.done refused is) (λ honest. runs.recovers (opening.safe honest) (no_five refused status is)) (λ honest. runs.durable (opening.safe honest) (no_five refused status is)) is;
  early = λ named end is. inr (early end is);
  long = λ ten. (runs.cut LongInput ten).long refl;
  jump = λ jumped. (refl, early TimeJump jumped);
  checked = λ named. absurd cc;
  drilled = λ count seed named. absurd cc;
  broken = λ six. absurd (no_six status runs.known six);
  usage = λ two. absurd (no_two status runs.known two);
  unnamed = λ none. no_none Run _ none;
  usage_written = λ two. absurd (no_two status runs.known two);
  known = inl runs.known;
  read_fault = runs.read_fault;
  read_quiet = runs.read_quiet;
  write_fault = λ four. write_cut clock days Safe start (opened was ready) now state (runs.cut WriteFault four);
  write_quiet = runs.passed;
  disk_fault = λ five. failed_on was.disks ready now.disks opening.quiet (runs.disk_fault five);
  disk_quiet = λ other. quiet_on was.disks ready now.disks opening.quiet (runs.disk_quiet other);
  complete = λ named honest free. complete_by clock days Safe salt was now ready start state status opening.quiet runs free;
  honesty = honest_on was.disks ready now.disks opening.honesty runs.honesty;
}
  where
    early : (end : RunEnd) → status ≡ status_of_end end → IsEarlyRun clock days salt was now end
    early end is = early_run clock days Safe salt was now ready start state end opening (runs.cut end is) (λ honest sound. runs.recovers (opening.safe honest) (no_disk_end end status is sound)) (λ honest sound. runs.durable (opening.safe honest) (no_disk_end end status is sound))

-- ---- a check

pub told_status : (line part : List ℕ) (before now status : ℕ) → IsTold line part before now status → (status ≡ 0) ⊎ ((status ≡ 4) ⊎ (status ≡ 7))
told_status line part before now status (inl is) = inl is.0
told_status line part before now status (inr (inl is)) = inr (inl is.0)
told_status line part before now status (inr (inr is)) = inr (inr is.0)

-- no other status
not_told : (status : ℕ) → (status ≡ 0) ⊎ ((status ≡ 4) ⊎ (status ≡ 7)) → (status ≢ 2) × (status ≢ 3) × (status ≢ 5) × (status ≢ 6) × (status ≢ 10) × (status ≢ 14)
not_told status (inl is) = (λ e. omega (arith, is, e), λ e. omega (arith, is, e), λ e. omega (arith, is, e), λ e. omega (arith, is, e), λ e. omega (arith, is, e), λ e. omega (arith, is, e))
not_told status (inr (inl is)) = (λ e. omega (arith, is, e), λ e. omega (arith, is, e), λ e. omega (arith, is, e), λ e. omega (arith, is, e), λ e. omega (arith, is, e), λ e. omega (arith, is, e))
not_told status (inr (inr is)) = (λ e. omega (arith, is, e), λ e. omega (arith, is, e), λ e. omega (arith, is, e), λ e. omega (arith, is, e), λ e. omega (arith, is, e), λ e. omega (arith, is, e))

told_known : (status : ℕ) → (status ≡ 0) ⊎ ((status ≡ 4) ⊎ (status ≡ 7)) → IsStatus status
told_known status (inl is) = inl (inl (false, is))
told_known status (inr (inl is)) = inl (inr (WriteFault, is))
told_known status (inr (inr is)) = inl (inr (OutOfMemory, is))

pub told_fault : (line part : List ℕ) (before now status : ℕ) → IsTold line part before now status → status ≡ 4 → RoseByOne before now
told_fault line part before now status (inl is) four = absurd (omega (arith, is.0, four))
told_fault line part before now status (inr (inl is)) four = is.2
told_fault line part before now status (inr (inr is)) four = absurd (omega (arith, is.0, four))

pub told_quiet : (line part : List ℕ) (before now status : ℕ) (refused : Bool) → IsTold line part before now status → status ≡ status_by refused → now ≡ before
told_quiet line part before now status refused (inl is) by = is.2
told_quiet line part before now status false (inr (inl is)) by = absurd (omega (arith, is.0, by))
told_quiet line part before now status true (inr (inl is)) by = absurd (omega (arith, is.0, by))
told_quiet line part before now status refused (inr (inr is)) by = is.2

pub told_complete : (line part : List ℕ) (before now status : ℕ) → IsTold line part before now status → (Rose before now → ⊥) → IsComplete status
told_complete line part before now status (inl is) quiet = inl (false, is.0)
told_complete line part before now status (inr (inl is)) quiet = absurd (quiet (rose_of _ _ is.2))
told_complete line part before now status (inr (inr is)) quiet = inr is.0

pub check_over : (clock : ℕ → Type 0) (days : ℕ) (Safe : Type 0) (salt last : ℕ) (was : Outside) (ready : Disks) (output : Output) (start : State) (status : ℕ) → IsOpened Safe salt was.disks ready start → (Safe → recovered_on ready salt ≡ recovers start last)
    → IsLineTold (check_line (summary_of start last)) was.output output status → IsCarriedOut clock days (Some Check) salt was (record was { output = output; disks = ready }) status
check_over clock days Safe salt last was ready output start status opening kept told =
    let line = check_line (summary_of start last) in
    let is = told_status line told.part was.output.faults output.faults status told.is in
    let none = not_told status is in
    record {
      whole = λ named. absurd cc;
      early = λ named. absurd cc;
      long = λ ten. absurd (none.4 ten);
      jump = λ jumped. absurd (none.5 jumped);
      checked = λ named. inl (record {
        start = start;
        last = last;
        found = record { recovers = opening.found; consistent = opening.consistent };
        told = told;
        unread = refl;
        kept = λ honest. kept (opening.safe honest);
        durable = opening.holds;
        moments = opening.opens;
      });
      drilled = λ count seed named. absurd cc;
      broken = λ six. absurd (none.3 six);
      usage = λ two. absurd (none.0 two);
      unnamed = λ nothing. no_none Check _ nothing;
      usage_written = λ two. absurd (none.0 two);
      known = told_known status is;
      read_fault = λ three. absurd (none.1 three);
      read_quiet = λ other. refl;
      write_fault = told_fault line told.part was.output.faults output.faults status told.is;
      write_quiet = λ refused by. told_quiet line told.part was.output.faults output.faults status refused told.is by;
      disk_fault = λ five. absurd (none.2 five);
      disk_quiet = λ other. opening.quiet;
      complete = λ named honest free. inl (told_complete line told.part was.output.faults output.faults status told.is free.output_quiet);
      honesty = opening.honesty;
    }
