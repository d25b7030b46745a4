-- A checkpoint behind a run, from what a node says of it.
use Rattle.std.proofs.Common.{◌≡◌, ◌≢◌, ◌≤◌, ◌⊎◌, inl, inr, ℕ, zero, suc, ◌+◌, List, [], ◌∷◌, length, Bool, true, false, Some, None, refl, sym, ◌∙◌, ap, subst, arith}
use Rattle.std.specs.Prelude.{IsTrue}
use Rattle.sb_outside.specs.declared.disk.Disk.{Ghosts as Disk}
use Rattle.sb_machine.specs.declared.reply.Refusal.{Refusal}
use Rattle.sb_machine.specs.declared.reply.Refusal.TheVariants.{DiskFault as FailedDisk, OutOfMemory as WantsMemory, Stopped}
use Rattle.sb_machine.specs.declared.state.State.{State}
use Rattle.sb_journal.specs.declared.found.OpenWhy.{OpenWhy}
use Rattle.sb_journal.specs.declared.found.Side.{Side}
use Rattle.sb_journal.specs.declared.found.Side.TheVariants.{A, B as Other}
use Rattle.sb_journal.specs.declared.journal.Journal.{Journal}
use Rattle.sb_journal.specs.Choosing.{is_unshut, sided, turned}
use Rattle.sb_journal.specs.Disks.{Disks, disks_of, opened_on, AreHonest, AreQuiet, HaveFailed, KeepsAside, SameHonesty}
use Rattle.sb_journal.specs.Framing.{Framing, Whole, framing}
use Rattle.sb_journal.specs.Journals.{journal_disks, journal_side, HoldsFile}
use Rattle.sb_journal.specs.Opened.{Stands, opened, opened_alone, placed}
use Rattle.sb_journal.specs.Text.{File, may_go_on, next_file}
use Rattle.sb_journal.proofs.Choices.{counts_here, not_created}
use Rattle.sb_journal.proofs.Pairs.{both, kept_aside, keeps_still, opened_counts, sided_twice}
use Rattle.sb_journal.proofs.Staging.{stages_read}
use Rattle.sb_journal.proofs.Wholes.{headed_whole}
use Rattle.sb_snapshot.specs.Base.{base_of}
use Rattle.sb_recorder.specs.Recorders.{HasTurned}
use Rattle.sb_node.specs.declared.node.Node.{Node}
use Rattle.sb_node.specs.Recovery.{reaches, recovered_on, recovers, replay_file}
use Rattle.sb_node.specs.Nodes.{node_disk_a, node_disk_b, node_disks, node_journal, node_last, node_state, IsDurable, IsKept, LeadsTo, LeadsToOneOf, TurnOneOf}
use Rattle.sb_node.specs.Turns.{IsCheckpointFault}
use Rattle.sb_app.specs.Outside.{Input, Output, Outside}
use Rattle.sb_app.specs.Openings.{IsFailed, IsFailedStatus}
use Rattle.sb_app.specs.Endings.{status_of_end}
use Rattle.sb_app.specs.Runs.{status_by}
use Rattle.sb_app.specs.Tops.{IsCarriedOut, IsStatus}
use Rattle.sb_app.specs.Checkpoints.{number_behind, status_of_refusal, EndsCheckpoint, HasCheckpoint, HasGoneOn, HasNoNext, IsCheckpointRun, StandsAt}
use Rattle.sb_app.specs.declared.ending.RunEnd.{RunEnd}
use Rattle.sb_app.specs.declared.ending.RunEnd.TheVariants.{ReadFault, WriteFault, DiskFault, OutOfMemory, LongInput, TimeJump}
use Rattle.sb_app.specs.declared.task.Task.TheVariants.{Run}
use Rattle.sb_app.proofs.Carried.{not_opened, unread_alone}
use Rattle.sb_app.proofs.Statuses.{no_five}
use Rattle.sb_app.proofs.Whole.{kept_numbers}

-- ---- the file that counts

-- beside nothing that counts
stands_there : (file : File) (side : Side) (x y : List ℕ) (salt : ℕ) → framing x ≡ Whole file → is_unshut y ≡ false → opened (sided side x y) (sided side y x) salt ≡ Stands side file
stands_there file side x y salt whole shut =
    opened_counts salt (sided side x y) (sided side y x) side (counts_here side file.generation x y (headed_whole x file whole) (not_created y shut))
    ∙ ap (λ (l : List ℕ). placed side (opened_alone salt (framing l))) (sided_twice side x y)
    ∙ ap (λ (r : Framing). placed side (opened_alone salt r)) whole

-- by what both disks say
stands_by : {D : Type 0} (G : Disk D) (side : Side) (c o : D) (file : File) (salt : ℕ) → framing (G.held c).seen ≡ Whole file → is_unshut (G.held o).seen ≡ false → opened_on (both G side c o) salt ≡ Stands side file
stands_by G A c o file salt whole shut = stands_there file A (G.held c).seen (G.held o).seen salt whole shut
stands_by G Other c o file salt whole shut = stands_there file Other (G.held c).seen (G.held o).seen salt whole shut

-- the file that a journal holds counts, on its side
pub held_counts : {D : Type 0} {B : Disk D} (j : Journal D B) (file : File) (salt : ℕ) → HoldsFile j file → opened_on (journal_disks j) salt ≡ Stands (journal_side j) file
held_counts {D} {B} j file salt holds = stands_by B j.side j.current j.other file salt (stages_read (B.held j.current) j.end j.next file holds.written holds.stages) holds.aside.seen

pub kept_stands : {D : Type 0} {B : Disk D} (node : Node D B) (salt : ℕ) (kept : IsKept node) → StandsAt salt (node_disks node) (journal_side (node_journal node)) kept.file (node_state node)
kept_stands node salt kept = record { counts = held_counts (node_journal node) kept.file salt kept.holds; leads = kept.leads }

-- one file counts
same_file : (side at : Side) (f g : File) → Stands side f ≡ Stands at g → f ≡ g
same_file side at f g is = cc

-- ---- the file that goes on

-- with the number that is next
turned_counts : {D : Type 0} {B : Disk D} (old new : Journal D B) (file : File) (number next : ℕ) (base : List ℕ) (salt : ℕ) → number ≡ next → HasTurned file old new number base → opened_on (journal_disks new) salt ≡ Stands (turned (journal_side old)) (next_file file next base)
turned_counts old new file number next base salt same turns =
    held_counts new (next_file file number base) salt turns.holds
    ∙ ap (λ (s : Side). Stands s (next_file file number base)) turns.side
    ∙ ap (λ (n : ℕ). Stands (turned (journal_side old)) (next_file file n base)) same

-- it leads to the state that the node holds
turned_leads : {D : Type 0} {B : Disk D} (new : Node D B) (side : Side) (file : File) (state : State) (salt : ℕ) → node_state new ≡ state → IsKept new → opened_on (node_disks new) salt ≡ Stands side file → replay_file file ≡ reaches state
turned_leads new side file state salt same kept counts =
    let is = same_file side (journal_side (node_journal new)) file kept.file (sym counts ∙ held_counts (node_journal new) kept.file salt kept.holds) in
    ap replay_file is ∙ kept.leads ∙ ap reaches same

pub gone_on : {D : Type 0} {B : Disk D} (old new : Node D B) (kept : IsKept old) (salt : ℕ) → IsKept new → node_state new ≡ node_state old → HasTurned kept.file (node_journal old) (node_journal new) (node_last old + 1) (base_of (node_state old))
    → HasGoneOn salt (journal_side (node_journal old)) kept.file (node_state old) (node_disks new)
gone_on old new kept salt kept_new same turns =
    let next = next_file kept.file (number_behind kept.file) (base_of (node_state old)) in
    let counts = turned_counts (node_journal old) (node_journal new) kept.file (node_last old + 1) (number_behind kept.file) (base_of (node_state old)) salt kept.number turns in
    record { counts = counts; leads = turned_leads new (turned (journal_side (node_journal old))) next (node_state old) salt same kept_new counts }

-- ---- what a crash leaves

-- what is so at each moment of both stretches is so behind them
pub stretch_durable : (side : Side) (was now : Disks) (state : State) → TurnOneOf side was now (state ∷ []) → IsDurable now state
stretch_durable side was now state stay x y on_x on_y = one ((stay.1.present x on_x).present y on_y)
  where
    one : LeadsToOneOf (state ∷ []) x y → LeadsTo state x y
    one (inl is) = is
    one (inr none) = absurd none

-- the numbers are as they were
pub same_numbers : {D : Type 0} {B : Disk D} (old new : Node D B) (salt : ℕ) → IsKept old → IsKept new → node_state new ≡ node_state old → node_last new ≡ node_last old → recovered_on (node_disks new) salt ≡ recovered_on (node_disks old) salt
same_numbers old new salt kept kept_new same_state same_last =
    kept_numbers new salt kept_new ∙ ap (λ (s : State). recovers s (node_last new)) same_state ∙ ap (recovers (node_state old)) same_last ∙ sym (kept_numbers old salt kept)

-- ---- what a checkpoint came to

-- where it wasn't refused
pub made_or_not : {D : Type 0} {B : Disk D} (old new : Node D B) (kept : IsKept old) (salt : ℕ) (turned : Bool) → IsKept new → node_state new ≡ node_state old
    → (turned ≡ true → HasTurned kept.file (node_journal old) (node_journal new) (node_last old + 1) (base_of (node_state old)))
    → turned ≡ may_go_on kept.file.generation (number_behind kept.file) (node_last old + 1) (length (base_of (node_state old)))
    → (turned ≡ false → node_journal new ≡ node_journal old)
    → HasGoneOn salt (journal_side (node_journal old)) kept.file (node_state old) (node_disks new) ⊎ (HasNoNext kept.file (node_state old) × (node_disks new ≡ node_disks old))
made_or_not old new kept salt true kept_new same turns may nothing = inl (gone_on old new kept salt kept_new same (turns refl))
made_or_not old new kept salt false kept_new same turns may nothing =
    inr (sym (may ∙ ap (λ (n : ℕ). may_go_on kept.file.generation (number_behind kept.file) n (length (base_of (node_state old)))) kept.number), ap journal_disks (nothing refl))

pub has_checkpoint : {D : Type 0} {B : Disk D} (old new : Node D B) (kept : IsKept old) (salt run_status status : ℕ) → node_state new ≡ node_state old → node_last new ≡ node_last old → TurnOneOf (journal_side (node_journal old)) (node_disks old) (node_disks new) (node_state old ∷ [])
    → (status ≡ run_status → HasGoneOn salt (journal_side (node_journal old)) kept.file (node_state old) (node_disks new) ⊎ (HasNoNext kept.file (node_state old) × (node_disks new ≡ node_disks old)))
    → (status ≢ 5 → IsKept new) → HasCheckpoint salt (node_disks old) (node_disks new) run_status status
has_checkpoint old new kept salt run_status status same_state same_last moments made kept_new = record {
  side = journal_side (node_journal old);
  file = kept.file;
  state = node_state old;
  stood = kept_stands old salt kept;
  moments = moments;
  durable = stretch_durable (journal_side (node_journal old)) (node_disks old) (node_disks new) (node_state old) moments;
  made = made;
  same = λ other. same_numbers old new salt kept (kept_new other) same_state same_last;
}

-- of a running node, where it was refused
pub ends_refused : (ran now : Disks) (run_status status : ℕ) (e : Refusal) → status ≡ status_of_refusal e → IsCheckpointFault e → ((n : ℕ) → e ≡ Stopped n → ⊥) → (e ≡ FailedDisk → HaveFailed ran now) → (e ≢ FailedDisk → AreQuiet ran now) → EndsCheckpoint ran now run_status status
ends_refused ran now run_status status WantsMemory is cause runs failed quiet = inr (inr (is, quiet (λ same. absurd cc)))
ends_refused ran now run_status status FailedDisk is cause runs failed quiet = inr (inl (is, failed refl))
ends_refused ran now run_status status (Stopped n) is cause runs failed quiet = absurd (runs n refl)
ends_refused ran now run_status status _ is cause runs failed quiet = absurd cause

refused_status : (e : Refusal) → 5 ≤ status_of_refusal e
refused_status WantsMemory = omega arith
refused_status _ = omega arith

-- its status isn't the run's then
pub not_run_status : (run_status status : ℕ) (e : Refusal) (P : Type 0) → run_status ≤ 1 → status ≡ status_of_refusal e → status ≡ run_status → P
not_run_status run_status status e P few is same = let low = refused_status e in absurd (omega (arith, few, is, same, low))

-- ---- the whole run

-- the status of one that answered all its lines
whole_status : (refused : Bool) → status_by refused ≤ 1
whole_status false = omega arith
whole_status true = omega arith

-- and of one that ended early
early_status : (end : RunEnd) → 3 ≤ status_of_end end
early_status ReadFault = omega arith
early_status WriteFault = omega arith
early_status DiskFault = omega arith
early_status OutOfMemory = omega arith
early_status LongInput = omega arith
early_status TimeJump = omega arith

pub not_whole : (status : ℕ) → 2 ≤ status → (refused : Bool) → status ≢ status_by refused
not_whole status low refused is = let few = whole_status refused in omega (arith, low, is, few)

pub is_whole : (status : ℕ) → status ≤ 1 → (refused : Bool) × (status ≡ status_by refused)
is_whole zero few = (false, refl)
is_whole (suc zero) few = (true, refl)
is_whole (suc (suc n)) few = absurd (omega (arith, few))

-- where no line was answered
pub early_checkpoint : (clock : ℕ → Type 0) (days salt : ℕ) (was now : Outside) (status : ℕ) → 2 ≤ status → IsCarriedOut clock days (Some Run) salt was now status → (AreHonest was.disks → KeepsAside salt was.disks now.disks) → IsCheckpointRun clock days salt was now status
early_checkpoint clock days salt was now status low run aside = record {
  ran = now.disks;
  run_status = status;
  run = run;
  whole = λ refused is. absurd (not_whole status low refused is);
  early = λ other. (refl, refl);
  aside = aside;
}

pub unread_checkpoint : (clock : ℕ → Type 0) (days salt : ℕ) (was : Outside) → IsCheckpointRun clock days salt was was 7
unread_checkpoint clock days salt was = early_checkpoint clock days salt was was 7 (omega arith) (unread_alone clock days (Some Run) salt was) (λ honest. keeps_still salt was.disks was.disks ((refl, refl), (refl, refl)))

pub failed_low : (status : ℕ) → IsFailedStatus status → 5 ≤ status
failed_low status (inl five) = omega (arith, five)
failed_low status (inr (inl six)) = omega (arith, six)
failed_low status (inr (inr seven)) = omega (arith, seven)

-- where the journal wasn't opened
pub unopened_checkpoint : (clock : ℕ → Type 0) (days salt : ℕ) (was : Outside) (disks : Disks) (output : Output) (why : OpenWhy) (status : ℕ) → IsFailed salt was.disks disks was.output output why status
    → IsCheckpointRun clock days salt was (record was { output = output; disks = disks }) status
unopened_checkpoint clock days salt was disks output why status fails =
    let low = failed_low status fails.known in
    early_checkpoint clock days salt was (record was { output = output; disks = disks }) status (omega (arith, low)) (not_opened clock days Run salt was disks output why status fails)
    (λ honest side counts. kept_aside salt side was.disks disks counts (fails.keeps honest))

pub unopened_usage : (salt : ℕ) (was now : Disks) (out out_after : Output) (why : OpenWhy) (status : ℕ) → IsFailed salt was now out out_after why status → status ≢ 2
unopened_usage salt was now out out_after why status fails two = let low = failed_low status fails.known in omega (arith, low, two)

-- as the disks are, they were
honest_before : (was later : Disks) → SameHonesty was later → AreHonest later → AreHonest was
honest_before was later same honest = (subst IsTrue same.0 honest.0, subst IsTrue same.1 honest.1)

-- behind a run of this node, which came to that one
pub checkpoint_run : {D : Type 0} {B : Disk D} (clock : ℕ → Type 0) (days salt : ℕ) (was : Outside) (input : Input) (output : Output) (last after : Node D B) (a b : D) (run_status status : ℕ)
    → IsCarriedOut clock days (Some Run) salt was (record { input = input; output = output; disks = node_disks last }) run_status
    → (AreHonest was.disks → run_status ≢ 5 → IsKept last)
    → (((refused : Bool) → run_status ≢ status_by refused) → (status ≡ run_status) × (node_disks after ≡ node_disks last))
    → ((refused : Bool) → run_status ≡ status_by refused → EndsCheckpoint (node_disks last) (node_disks after) run_status status)
    → ((refused : Bool) → run_status ≡ status_by refused → IsKept last → (s : ℕ) → HasCheckpoint s (node_disks last) (node_disks after) run_status status)
    → SameHonesty (node_disks last) (node_disks after)
    → (AreHonest was.disks → KeepsAside salt was.disks (node_disks last))
    → a ≡ node_disk_a after → b ≡ node_disk_b after
    → IsCheckpointRun clock days salt was (record { input = input; output = output; disks = disks_of B a b }) status
checkpoint_run {D} {B} clock days salt was input output last after a b run_status status run kept early ends has honesty aside is_a is_b =
    subst (λ (d : Disks). IsCheckpointRun clock days salt was (record { input = input; output = output; disks = d }) status) there
    (record {
      ran = node_disks last;
      run_status = run_status;
      run = run;
      whole = λ refused is. record {
        ends = ends refused is;
        has = λ honest. has refused is (kept (honest_before was.disks (node_disks last) run.honesty honest) (no_five refused run_status is)) salt;
        honesty = honesty;
      };
      early = early;
      aside = aside;
    })
  where
    there : node_disks after ≡ disks_of B a b
    there i = disks_of B (sym is_a i) (sym is_b i)

-- ---- no status 2

no_task : Some Run ≡ None → ⊥
no_task is = absurd cc

pub ended_usage : (ran now : Disks) (run_status status : ℕ) → EndsCheckpoint ran now run_status status → run_status ≤ 1 → status ≢ 2
ended_usage ran now run_status status (inl is) few two = let same = is.0 in omega (arith, same, few, two)
ended_usage ran now run_status status (inr (inl is)) few two = let five = is.0 in omega (arith, five, two)
ended_usage ran now run_status status (inr (inr is)) few two = let seven = is.0 in omega (arith, seven, two)

pub no_two_checkpoint : (clock : ℕ → Type 0) (days salt : ℕ) (was now : Outside) (status : ℕ) → IsCheckpointRun clock days salt was now status → status ≢ 2
no_two_checkpoint clock days salt was now status ran two = by_known ran.run.known
  where
    by_early : 2 ≤ ran.run_status → ⊥
    by_early low = no_task (ran.run.usage (sym (ran.early (not_whole ran.run_status low)).0 ∙ two))

    by_known : IsStatus ran.run_status → ⊥
    by_known (inl (inl whole)) = let few = whole_status whole.0 in let is = whole.1 in ended_usage ran.ran now.disks ran.run_status status (ran.whole whole.0 is).ends (omega (arith, is, few)) two
    by_known (inl (inr end)) = let low = early_status end.0 in let is = end.1 in by_early (omega (arith, is, low))
    by_known (inr (inl is)) = by_early (omega (arith, is))
    by_known (inr (inr is)) = by_early (omega (arith, is))
