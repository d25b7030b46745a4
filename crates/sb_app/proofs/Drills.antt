-- A drill: from one call to the next, to its end, and to the whole call of the program.
use Rattle.std.proofs.Common.{◌≡◌, ◌≢◌, ◌<◌, ◌⊎◌, inl, inr, ℕ, zero, suc, ◌+◌, ◌-◌, ◌^◌, List, [], ◌∷◌, ◌++◌, filter, length, Bool, true, false, Option, Some, None, Result, Ok, Err, refl, sym, ◌∙◌, ap, subst, arith, add-one, length-append}
use Rattle.std.specs.Prelude.{if◌then◌else◌, is_err, is_some, IfSome}
use Rattle.std.proofs.lemmas.List.Elements.{filter-append}
use Rattle.sb_outside.specs.Causes.{Rose, RoseByOne}
use Rattle.sb_outside.specs.declared.disk.Disk.{Ghosts}
use Rattle.sb_engine.specs.Engines.{summary_of}
use Rattle.sb_engine.specs.declared.summary.Summary.{Summary}
use Rattle.sb_laws.proofs.Outcomes.{answers_no_fault}
use Rattle.sb_laws.specs.Ended.{EndOnce}
use Rattle.sb_machine.specs.Accounts.{ends_of}
use Rattle.sb_machine.specs.Answers.{answer_of, moment_of}
use Rattle.sb_machine.specs.Consistent.{IsConsistent}
use Rattle.sb_machine.specs.Due.{is_due}
use Rattle.sb_machine.specs.History.{Log, IsFaultless, advanced, entries_at, fresh_log, is_fault, is_spent, state_after}
use Rattle.sb_machine.specs.Namespace.{empty_state, live, made}
use Rattle.sb_machine.specs.declared.call.Call.{Call}
use Rattle.sb_machine.specs.declared.call.TimedCall.{TimedCall}
use Rattle.sb_machine.specs.declared.history.Entry.{Entry}
use Rattle.sb_machine.specs.declared.history.Entry.TheVariants.{Ticked, Answered as Replied}
use Rattle.sb_machine.specs.declared.reply.Answered.{Answered}
use Rattle.sb_machine.specs.declared.reply.Refusal.{Refusal}
use Rattle.sb_machine.specs.declared.reply.Refusal.TheVariants.{DiskFault as FailedDisk, OutOfMemory as WantsMemory, Exhausted}
use Rattle.sb_machine.specs.declared.state.State.{State}
use Rattle.sb_journal.specs.Disks.{Disks, AreHonest, HaveFailed, OneFault}
use Rattle.sb_journal.proofs.Pairs.{still_honest}
use Rattle.sb_desk.specs.Entries.{is_refused}
use Rattle.sb_node.specs.declared.node.Node.{Node}
use Rattle.sb_node.specs.Nodes.{node_disks, node_log, node_state, node_stopped, node_ticked}
use Rattle.sb_node.specs.Serving.{node_goes_on, opened_disks, StandsFor}
use Rattle.sb_node.specs.Steps.{IsStep, entries_with}
use Rattle.sb_drill.specs.Calls.{call_at}
use Rattle.sb_drill.specs.Memories.{heard, no_memory}
use Rattle.sb_drill.specs.declared.memory.Memory.{Memory}
use Rattle.sb_app.specs.Checks.{IsLineTold}
use Rattle.sb_app.specs.Drills.{DrillIsCut, DrillsSoFar, EndsDrill, IsDrillCause, IsDrilled, IsDrillOver, IsEachCounted, LastCall, counts_of_drill, drill_call, drill_history, drill_history_to, drill_line, is_accepted, reached}
use Rattle.sb_app.specs.Endings.{status_of_end}
use Rattle.sb_app.specs.Openings.{IsOpened}
use Rattle.sb_app.specs.Outside.{Output, Outside}
use Rattle.sb_app.specs.Runs.{answer_at, status_by}
use Rattle.sb_app.specs.Tops.{IsCarriedOut, IsComplete, IsStatus}
use Rattle.sb_app.specs.declared.drilling.Counts.{Counts}
use Rattle.sb_app.specs.declared.drilling.Drilled.{Drilled}
use Rattle.sb_app.specs.declared.ending.RunEnd.{RunEnd}
use Rattle.sb_app.specs.declared.ending.RunEnd.TheVariants.{ReadFault, WriteFault, DiskFault, OutOfMemory, LongInput, TimeJump}
use Rattle.sb_app.specs.declared.task.Task.{Task}
use Rattle.sb_app.specs.declared.task.Task.TheVariants.{Drill}
use Rattle.sb_app.proofs.Carried.{no_none, told_complete, told_fault, told_quiet, told_status}
use Rattle.sb_app.proofs.Faults.{failed_on, honest_on, quiet_on}
use Rattle.sb_app.proofs.Lawful.{lawful}
use Rattle.sb_app.proofs.Servings.{IsClosed, closed_node}
use Rattle.sb_app.proofs.Steps.{still_runs_wanting, stepped, stepped_entries}

-- ---- the history holds no fault

faultless_on : (h more : List Entry) → IsFaultless h → IsFaultless more → IsFaultless (h ++ more)
faultless_on [] more first next = next
faultless_on (Ticked seat t ∷ h) more first next = faultless_on h more first next
faultless_on (Replied seat reading call answer ∷ h) more first next = (first.0, faultless_on h more first.1 next)

entries_faultless : (s : State) (reading : ℕ) (call : Call) → IsFaultless (entries_at 0 s reading call)
entries_faultless s reading call = by_tests (is_due t s.space) (is_spent s t)
  where
    t : ℕ
    t = moment_of s reading

    by_tests : (b c : Bool) → IsFaultless (if b then (if c then Replied 0 reading call (Err Exhausted) ∷ [] else Ticked 0 t ∷ Replied 0 reading call (answer_of (advanced s t) t call) ∷ []) else Replied 0 reading call (answer_of s t call) ∷ [])
    by_tests true true = (refl, tt)
    by_tests true false = (answers_no_fault (advanced s t) t call, tt)
    by_tests false c = (answers_no_fault s t call, tt)

drill_faultless : (seed : ℕ) (s : State) (n : ℕ) → IsFaultless (drill_history seed s n)
drill_faultless seed s zero = tt
drill_faultless seed s (suc n) =
    let a = drill_call seed s n in
    faultless_on (drill_history seed s n) (entries_at 0 (reached seed s n).state a.reading a.call) (drill_faultless seed s n) (entries_faultless (reached seed s n).state a.reading a.call)

-- ---- counting

counted_more : (p : Entry → Bool) (h es : List Entry) (k n : ℕ) → k ≡ length (filter p h) → length (filter p es) ≡ n → k + n ≡ length (filter p (h ++ es))
counted_more p h es k n is one =
    ap (λ (j : ℕ). j + n) is
    ∙ ap (λ (j : ℕ). length (filter p h) + j) (sym one)
    ∙ sym (length-append (filter p h) (filter p es))
    ∙ ap length (sym (filter-append p h es))

-- a step has one call
pub one_accepted : (tick : Option ℕ) (asked : TimedCall) (a : Result Answered Refusal) → is_err a ≡ false
    → (length (filter is_accepted (entries_with tick 0 asked.reading asked.call a)) ≡ 1) × (length (filter is_refused (entries_with tick 0 asked.reading asked.call a)) ≡ 0)
one_accepted None asked (Ok reply) is = (refl, refl)
one_accepted (Some t) asked (Ok reply) is = (refl, refl)
one_accepted None asked (Err r) is = absurd cc
one_accepted (Some t) asked (Err r) is = absurd cc

pub one_refused : (tick : Option ℕ) (asked : TimedCall) (a : Result Answered Refusal) → is_err a ≡ true
    → (length (filter is_accepted (entries_with tick 0 asked.reading asked.call a)) ≡ 0) × (length (filter is_refused (entries_with tick 0 asked.reading asked.call a)) ≡ 1)
one_refused None asked (Err r) is = (refl, refl)
one_refused (Some t) asked (Err r) is = (refl, refl)
one_refused None asked (Ok reply) is = absurd cc
one_refused (Some t) asked (Ok reply) is = absurd cc

-- ---- one call

-- what is known behind the call of this number
pub record Stepping {D : Type 0} {B : Ghosts D} (seed n : ℕ) (start : State) (old new : Node D B) (so_far : Drilled) (asked : TimedCall) (answer : Result Answered Refusal) : Type 0 where
  pub before : DrillsSoFar seed start n old so_far
  pub says : asked ≡ call_at seed n so_far.memory
  pub stands : StandsFor new start (drill_history seed start n ++ entries_with (node_ticked new) 0 asked.reading asked.call answer)
  pub step : IsStep (node_log old) (entries_with (node_ticked new) 0 asked.reading asked.call answer) (node_log new)
  pub ticked : IfSome (node_ticked new) (λ t. t ≡ moment_of (node_state old) asked.reading)
  pub consistent : IsConsistent (node_state old) → IsConsistent (node_state new)
  pub origin : opened_disks new ≡ opened_disks old

-- nothing yet
pub drills_nothing : {D : Type 0} {B : Ghosts D} (seed : ℕ) (node : Node D B) (so_far : Drilled) → StandsFor node (node_state node) [] → node_stopped node ≡ None → IsConsistent (node_state node)
    → so_far.memory ≡ no_memory → so_far.accepted ≡ 0 → so_far.refused ≡ 0 → DrillsSoFar seed (node_state node) 0 node so_far
drills_nothing seed node so_far stands running consistent memory accepted refused = record {
  stands = stands;
  running = running;
  consistent = consistent;
  leads = refl;
  memory = memory;
  accepted = accepted;
  refused = refused;
  all = omega (arith, accepted, refused);
}

pub few_counted : (a r n : ℕ) → a + r ≡ n → n < 2 ^ 33 → (a < 2 ^ 64 - 1) × (r < 2 ^ 64 - 1)
few_counted a r n all few = (omega (arith, all, few), omega (arith, all, few))

module _ {D : Type 0} {B : Ghosts D} (seed n : ℕ) (start : State) (old new : Node D B) (so_far : Drilled) (asked : TimedCall) (answer : Result Answered Refusal) (is : Stepping seed n start old new so_far asked answer) where
  abbrev entries : List Entry
  entries = entries_with (node_ticked new) 0 asked.reading asked.call answer

  abbrev next_call : TimedCall
  next_call = drill_call seed start n

  asked_is : asked ≡ next_call
  asked_is = is.says ∙ ap (call_at seed n) is.before.memory

  each_so_far : IsEachCounted seed start n
  each_so_far = omega (arith, is.before.accepted, is.before.refused, is.before.all)

  -- where the machine answered
  same_entries : is_fault answer ≡ false → entries ≡ entries_at 0 (reached seed start n).state next_call.reading next_call.call
  same_entries sound =
      stepped_entries (node_state old) (node_state new) (node_stopped old) (node_stopped new) (node_ticked new) asked.reading asked.call answer is.before.consistent is.before.running is.ticked is.step sound
      ∙ ap (λ (a : TimedCall). entries_at 0 (node_state old) a.reading a.call) asked_is
      ∙ ap (λ (s : State). entries_at 0 s next_call.reading next_call.call) is.before.leads

  pub goes_on : (next : Drilled) (a r : ℕ) → is_fault answer ≡ false → next.memory ≡ heard seed n so_far.memory answer → next.accepted ≡ so_far.accepted + a → next.refused ≡ so_far.refused + r
      → (length (filter is_accepted entries) ≡ a) × (length (filter is_refused entries) ≡ r) → a + r ≡ 1 → DrillsSoFar seed start (n + 1) new next
  goes_on next a r sound memory accepted refused counts one =
      let step = stepped (node_state old) (node_state new) (node_stopped old) (node_stopped new) (node_ticked new) asked.reading asked.call answer is.before.consistent is.before.running is.ticked is.step sound in
      let says : answer ≡ answer_at (reached seed start n).state next_call.reading next_call.call =
      step.says ∙ ap (λ (c : TimedCall). answer_at (node_state old) c.reading c.call) asked_is ∙ ap (λ (s : State). answer_at s next_call.reading next_call.call) is.before.leads
      in
      subst (λ (k : ℕ). DrillsSoFar seed start k new next) (sym (add-one n)) (record {
        stands = subst (λ (es : List Entry). StandsFor new start (drill_history seed start n ++ es)) (same_entries sound) is.stands;
        running = step.runs;
        consistent = is.consistent is.before.consistent;
        leads =
            step.leads
            ∙ ap (λ (c : TimedCall). state_after (node_state old) (entries_at 0 (node_state old) c.reading c.call)) asked_is
            ∙ ap (λ (s : State). state_after s (entries_at 0 s next_call.reading next_call.call)) is.before.leads;
        memory =
            memory
            ∙ ap (λ (m : Memory). heard seed n m answer) is.before.memory
            ∙ ap (λ (x : Result Answered Refusal). heard seed n (reached seed start n).memory x) says;
        accepted =
            accepted
            ∙ counted_more is_accepted (drill_history seed start n) entries so_far.accepted a is.before.accepted counts.0
            ∙ ap (λ (es : List Entry). length (filter is_accepted (drill_history seed start n ++ es))) (same_entries sound);
        refused =
            refused
            ∙ counted_more is_refused (drill_history seed start n) entries so_far.refused r is.before.refused counts.1
            ∙ ap (λ (es : List Entry). length (filter is_refused (drill_history seed start n ++ es))) (same_entries sound);
        all = omega (arith, accepted, refused, is.before.all, one);
      })

  -- the history with this call as the last
  stands_to : StandsFor new start (drill_history_to seed start n (Some (record { tick = node_ticked new; answer = answer })))
  stands_to = subst (λ (c : TimedCall). StandsFor new start (drill_history seed start n ++ entries_with (node_ticked new) 0 c.reading c.call answer)) asked_is is.stands

  one_failed : answer ≡ Err FailedDisk → (answer ≡ Err FailedDisk → (m : ℕ) × (node_stopped new ≡ Some m) × OneFault (node_disks old) (node_disks new) m) → HaveFailed (opened_disks new) (node_disks new)
  one_failed is_failed cause =
      let one = cause is_failed in
      let here : HaveFailed (opened_disks old) (node_disks new) = failed_on (opened_disks old) (node_disks old) (node_disks new) (is.before.stands.quiet is.before.running) (one.0, one.2) in
      subst (λ (d : Disks). HaveFailed d (node_disks new)) (sym is.origin) here

  pub failed_cut : answer ≡ Err FailedDisk → (answer ≡ Err FailedDisk → (m : ℕ) × (node_stopped new ≡ Some m) × OneFault (node_disks old) (node_disks new) m) → DrillIsCut seed start n new DiskFault
  failed_cut is_failed cause = record {
    last = Some (record { tick = node_ticked new; answer = answer });
    cause = is_failed;
    stands = stands_to;
    each = each_so_far;
    failed = λ e. one_failed is_failed cause;
    runs = λ other. absurd (other refl);
  }

  pub wanting_cut : answer ≡ Err WantsMemory → DrillIsCut seed start n new OutOfMemory
  wanting_cut wants = record {
    last = Some (record { tick = node_ticked new; answer = answer });
    cause = wants;
    stands = stands_to;
    each = each_so_far;
    failed = λ e. absurd cc;
    runs = λ other. still_runs_wanting (node_state old) (node_state new) (node_stopped old) (node_stopped new) (node_ticked new) asked.reading asked.call answer is.before.running is.step wants;
  }

-- no memory to make the call
pub unasked_cut : {D : Type 0} {B : Ghosts D} (seed n : ℕ) (start : State) (node : Node D B) (so_far : Drilled) → DrillsSoFar seed start n node so_far → DrillIsCut seed start n node OutOfMemory
unasked_cut seed n start node so_far before = record {
  last = None;
  cause = tt;
  stands = before.stands;
  each = omega (arith, before.accepted, before.refused, before.all);
  failed = λ e. absurd cc;
  runs = λ other. before.running;
}

-- ---- its end

-- at a call, or for want of memory before one
cut_by : {D : Type 0} {B : Ghosts D} (count seed n : ℕ) (start : State) (output : Output) (node : Node D B) (last : Option LastCall) (end : RunEnd) (status : ℕ) → IsDrillCause last end → n < count + 5 → status ≡ status_of_end end
    → StandsFor node start (drill_history_to seed start n last) → IsEachCounted seed start n → (end ≡ DiskFault → HaveFailed (opened_disks node) (node_disks node)) → (end ≢ DiskFault → node_stopped node ≡ None) → IsDrillOver count seed start output output node status
cut_by count seed n start output node None OutOfMemory status cause few is stands each failed runs = record {
  answered = n;
  last = None;
  ends = inr (few, is, refl);
  stands = stands;
  each = each;
  failed = λ five. absurd (omega (arith, is, five));
  runs = λ other. runs (λ e. absurd cc);
}
cut_by count seed n start output node (Some last) DiskFault status cause few is stands each failed runs = record {
  answered = n;
  last = Some last;
  ends = (few, refl, inl (is, cause));
  stands = stands;
  each = each;
  failed = λ five. failed refl;
  runs = λ other. absurd (other is);
}
cut_by count seed n start output node (Some last) OutOfMemory status cause few is stands each failed runs = record {
  answered = n;
  last = Some last;
  ends = (few, refl, inr (is, cause));
  stands = stands;
  each = each;
  failed = λ five. absurd (omega (arith, is, five));
  runs = λ other. runs (λ e. absurd cc);
}
cut_by count seed n start output node None ReadFault status cause few is stands each failed runs = absurd cause
cut_by count seed n start output node None WriteFault status cause few is stands each failed runs = absurd cause
cut_by count seed n start output node None DiskFault status cause few is stands each failed runs = absurd cause
cut_by count seed n start output node None LongInput status cause few is stands each failed runs = absurd cause
cut_by count seed n start output node None TimeJump status cause few is stands each failed runs = absurd cause
cut_by count seed n start output node (Some last) ReadFault status cause few is stands each failed runs = absurd cause
cut_by count seed n start output node (Some last) WriteFault status cause few is stands each failed runs = absurd cause
cut_by count seed n start output node (Some last) LongInput status cause few is stands each failed runs = absurd cause
cut_by count seed n start output node (Some last) TimeJump status cause few is stands each failed runs = absurd cause

pub cut_over : {D : Type 0} {B : Ghosts D} (count seed n calls : ℕ) (start : State) (output : Output) (node : Node D B) (end : RunEnd) (status : ℕ) → calls ≡ count + 5 → n < calls → DrillIsCut seed start n node end → status ≡ status_of_end end → IsDrillOver count seed start output output node status
cut_over count seed n calls start output node end status all few cut is =
    let fewer : n < count + 5 = omega (arith, all, few) in
    cut_by count seed n start output node cut.last end status cut.cause fewer is cut.stands cut.each cut.failed cut.runs

not_five : (status : ℕ) → (status ≡ 0) ⊎ ((status ≡ 4) ⊎ (status ≡ 7)) → status ≢ 5
not_five status (inl is) five = omega (arith, is, five)
not_five status (inr (inl is)) five = omega (arith, is, five)
not_five status (inr (inr is)) five = omega (arith, is, five)

counts_same : (a r c m a' r' c' m' : ℕ) → a ≡ a' → r ≡ r' → c ≡ c' → m ≡ m' → ◌≡◌ {A = Counts} (record { accepted = a; refused = r; copies = c; ended = m - c; made = m }) (record { accepted = a'; refused = r'; copies = c'; ended = m' - c'; made = m' })
counts_same a r c m a' r' c' m' p q s t = λ i. record { accepted = p i; refused = q i; copies = s i; ended = t i - s i; made = t i }

-- the counts that were told are those of the history
counts_are : {D : Type 0} {B : Ghosts D} (seed n : ℕ) (start : State) (node : Node D B) (so_far : Drilled) (numbers : Summary) (events : ℕ) (counts : Counts) → DrillsSoFar seed start n node so_far → numbers ≡ summary_of (node_state node) events
    → counts ≡ record { accepted = so_far.accepted; refused = so_far.refused; copies = numbers.copies; ended = numbers.made - numbers.copies; made = numbers.made } → counts ≡ counts_of_drill start (drill_history seed start n)
counts_are seed n start node so_far numbers events counts so numbers_are is =
    let h = drill_history seed start n in
    let state : node_state node ≡ state_after start h = ap (λ (l : Log). l.state) so.stands.leads in
    let copies : numbers.copies ≡ live (state_after start h).space = ap (λ (x : Summary). x.copies) numbers_are ∙ ap (λ (s : State). live s.space) state in
    let all : numbers.made ≡ made (state_after start h).space = ap (λ (x : Summary). x.made) numbers_are ∙ ap (λ (s : State). made s.space) state in
    is ∙ counts_same so_far.accepted so_far.refused numbers.copies numbers.made _ _ _ _ so.accepted so.refused copies all

pub told_over : {D : Type 0} {B : Ghosts D} (count seed calls : ℕ) (start : State) (was now : Output) (node : Node D B) (so_far : Drilled) (numbers : Summary) (events : ℕ) (counts : Counts) (status : ℕ) → calls ≡ count + 5 → DrillsSoFar seed start calls node so_far
    → numbers ≡ summary_of (node_state node) events → counts ≡ record { accepted = so_far.accepted; refused = so_far.refused; copies = numbers.copies; ended = numbers.made - numbers.copies; made = numbers.made }
    → IsLineTold (drill_line counts) was now status → IsDrillOver count seed start was now node status
told_over count seed calls start was now node so_far numbers events counts status all so numbers_are is told =
    let told_so = subst (λ (c : Counts). IsLineTold (drill_line c) was now status) (counts_are seed calls start node so_far numbers events counts so numbers_are is) told in
    record {
      answered = calls;
      last = None;
      ends = inl (all, told_so);
      stands = so.stands;
      each = omega (arith, so.accepted, so.refused, so.all);
      failed = λ five. absurd (not_five status (told_status _ told.part was.faults now.faults status told.is) five);
      runs = λ other. so.running;
    }

-- ---- what its status says

abbrev IsDrillStatus : ℕ → Type 0
IsDrillStatus status = (status ≡ 0) ⊎ ((status ≡ 4) ⊎ ((status ≡ 5) ⊎ (status ≡ 7)))

of_told : (status : ℕ) → (status ≡ 0) ⊎ ((status ≡ 4) ⊎ (status ≡ 7)) → IsDrillStatus status
of_told status (inl is) = inl is
of_told status (inr (inl is)) = inr (inl is)
of_told status (inr (inr is)) = inr (inr (inr is))

ends_status : (count seed : ℕ) (s : State) (n : ℕ) (last : Option LastCall) (was now : Output) (status : ℕ) → EndsDrill count seed s n last was now status → IsDrillStatus status
ends_status count seed s n None was now status (inl told) = of_told status (told_status _ told.1.part was.faults now.faults status told.1.is)
ends_status count seed s n None was now status (inr wants) = inr (inr (inr wants.1))
ends_status count seed s n (Some last) was now status ends = by_cause ends.2
  where
    by_cause : ((status ≡ 5) × (last.answer ≡ Err FailedDisk)) ⊎ ((status ≡ 7) × (last.answer ≡ Err WantsMemory)) → IsDrillStatus status
    by_cause (inl five) = inr (inr (inl five.0))
    by_cause (inr seven) = inr (inr (inr seven.0))

no_other : (status : ℕ) → IsDrillStatus status → (status ≢ 2) × (status ≢ 3) × (status ≢ 6) × (status ≢ 10) × (status ≢ 14)
no_other status (inl is) = (λ e. omega (arith, is, e), λ e. omega (arith, is, e), λ e. omega (arith, is, e), λ e. omega (arith, is, e), λ e. omega (arith, is, e))
no_other status (inr (inl is)) = (λ e. omega (arith, is, e), λ e. omega (arith, is, e), λ e. omega (arith, is, e), λ e. omega (arith, is, e), λ e. omega (arith, is, e))
no_other status (inr (inr (inl is))) = (λ e. omega (arith, is, e), λ e. omega (arith, is, e), λ e. omega (arith, is, e), λ e. omega (arith, is, e), λ e. omega (arith, is, e))
no_other status (inr (inr (inr is))) = (λ e. omega (arith, is, e), λ e. omega (arith, is, e), λ e. omega (arith, is, e), λ e. omega (arith, is, e), λ e. omega (arith, is, e))

known_status : (status : ℕ) → IsDrillStatus status → IsStatus status
known_status status (inl is) = inl (inl (false, is))
known_status status (inr (inl is)) = inl (inr (WriteFault, is))
known_status status (inr (inr (inl is))) = inl (inr (DiskFault, is))
known_status status (inr (inr (inr is))) = inl (inr (OutOfMemory, is))

ends_fault : (count seed : ℕ) (s : State) (n : ℕ) (last : Option LastCall) (was now : Output) (status : ℕ) → EndsDrill count seed s n last was now status → status ≡ 4 → RoseByOne was.faults now.faults
ends_fault count seed s n None was now status (inl told) four = told_fault _ told.1.part was.faults now.faults status told.1.is four
ends_fault count seed s n None was now status (inr wants) four = absurd (omega (arith, wants.1, four))
ends_fault count seed s n (Some last) was now status ends four = by_cause ends.2
  where
    by_cause : ((status ≡ 5) × (last.answer ≡ Err FailedDisk)) ⊎ ((status ≡ 7) × (last.answer ≡ Err WantsMemory)) → RoseByOne was.faults now.faults
    by_cause (inl five) = absurd (omega (arith, five.0, four))
    by_cause (inr seven) = absurd (omega (arith, seven.0, four))

ends_quiet : (count seed : ℕ) (s : State) (n : ℕ) (last : Option LastCall) (was now : Output) (status : ℕ) (refused : Bool) → EndsDrill count seed s n last was now status → status ≡ status_by refused → now.faults ≡ was.faults
ends_quiet count seed s n None was now status refused (inl told) by = told_quiet _ told.1.part was.faults now.faults status refused told.1.is by
ends_quiet count seed s n None was now status refused (inr wants) by = ap (λ (o : Output). o.faults) wants.2
ends_quiet count seed s n (Some last) was now status refused ends by = ap (λ (o : Output). o.faults) ends.1

ends_complete : (count seed : ℕ) (s : State) (n : ℕ) (last : Option LastCall) (was now : Output) (status : ℕ) → EndsDrill count seed s n last was now status → (Rose was.faults now.faults → ⊥) → (status ≡ 5 → ⊥) → IsComplete status
ends_complete count seed s n None was now status (inl told) quiet sound = told_complete _ told.1.part was.faults now.faults status told.1.is quiet
ends_complete count seed s n None was now status (inr wants) quiet sound = inr wants.1
ends_complete count seed s n (Some last) was now status ends quiet sound = by_cause ends.2
  where
    by_cause : ((status ≡ 5) × (last.answer ≡ Err FailedDisk)) ⊎ ((status ≡ 7) × (last.answer ≡ Err WantsMemory)) → IsComplete status
    by_cause (inl five) = absurd (sound five.0)
    by_cause (inr seven) = inr seven.0

-- ---- the numbers of an empty namespace

sum_of : (m0 l0 m l e : ℕ) → m + l0 ≡ m0 + l + e → m0 ≡ 0 → l0 ≡ 0 → (m - l ≡ e) × (m ≡ l + (m - l))
sum_of m0 l0 m l e all none none_live = (omega (arith, all, none, none_live), omega (arith, all, none, none_live))

nothing_made : (salt : ℕ) → made (empty_state salt).space ≡ 0
nothing_made salt = refl

nothing_lives : (salt : ℕ) → live (empty_state salt).space ≡ 0
nothing_lives salt = refl

sums : (salt : ℕ) (start : State) (h : List Entry) → EndOnce start.space (state_after start h).space (ends_of (fresh_log start) h) → start ≡ empty_state salt
    → ((counts_of_drill start h).ended ≡ length (ends_of (fresh_log start) h)) × ((counts_of_drill start h).made ≡ (counts_of_drill start h).copies + (counts_of_drill start h).ended)
sums salt start h once empty =
    sum_of (made start.space) (live start.space) (made (state_after start h).space) (live (state_after start h).space) (length (ends_of (fresh_log start) h)) once.all
    (ap (λ (s : State). made s.space) empty ∙ nothing_made salt) (ap (λ (s : State). live s.space) empty ∙ nothing_lives salt)

-- ---- the call of the program

abbrev drawn_count : Option Task → ℕ
drawn_count (Some (Drill count seed)) = count
drawn_count _ = 0

abbrev drawn_seed : Option Task → ℕ
drawn_seed (Some (Drill count seed)) = seed
drawn_seed _ = 0

module _ {D : Type 0} {B : Ghosts D} (clock : ℕ → Type 0) (days count seed : ℕ) (Safe : Type 0) (salt : ℕ) (was : Outside) (ready : Disks) (start : State) (output : Output) (node : Node D B) (status : ℕ) (opening : IsOpened Safe salt was.disks ready start) (origin : opened_disks node ≡ ready) (alone : node_goes_on node ≡ false) (over : IsDrillOver count seed start was.output output node status) where
  abbrev outside_now : Outside
  outside_now = record was { output = output; disks = node_disks node }

  abbrev history : List Entry
  history = drill_history_to seed start over.answered over.last

  closed : IsClosed false salt start history ready (node_disks node) (is_some (node_stopped node))
  closed =
      subst (λ (b : Bool). IsClosed b salt start history ready (node_disks node) (is_some (node_stopped node))) alone
      (subst (λ (d : Disks). IsClosed (node_goes_on node) salt start history d (node_disks node) (is_some (node_stopped node))) origin (closed_node node salt start history over.stands))

  goes : status ≢ 5 → is_some (node_stopped node) ≡ false
  goes other = ap is_some (over.runs other)

  stays_honest : AreHonest was.disks → AreHonest (node_disks node)
  stays_honest honest = still_honest ready (node_disks node) closed.honesty (still_honest was.disks ready opening.honesty honest)

  is_drilled : IsDrilled count seed salt was outside_now status
  is_drilled =
      let laws = lawful start history opening.consistent closed.legal in
      record {
        start = start;
        found = record { recovers = opening.found; consistent = opening.consistent };
        answered = over.answered;
        last = over.last;
        ends = over.ends;
        chronicle = record { legal = closed.legal; laws = laws };
        faultless = drill_faultless seed start over.answered;
        spares = closed.spares;
        each = over.each;
        sum = sums salt start history laws.ends;
        unread = refl;
        ready = ready;
        opens = opening.opens;
        holds = opening.holds;
        follows = λ honest. closed.follows (stays_honest honest);
        backed = λ honest other. record { recovers = closed.recovers (stays_honest honest) (goes other); durable = closed.durable (stays_honest honest) (goes other) };
        left = λ honest. closed.left (stays_honest honest);
      }

  has_failed : status ≡ 5 → HaveFailed was.disks (node_disks node)
  has_failed five = failed_on was.disks ready (node_disks node) opening.quiet (subst (λ (d : Disks). HaveFailed d (node_disks node)) origin (over.failed five))

  pub drilled_call : IsCarriedOut clock days (Some (Drill count seed)) salt was outside_now status
  drilled_call =
      let is = ends_status count seed start over.answered over.last was.output output status over.ends in
      let none = no_other status is in
      record {
        whole = λ named. absurd cc;
        early = λ named. absurd cc;
        long = λ ten. absurd (none.3 ten);
        jump = λ jumped. absurd (none.4 jumped);
        checked = λ named. absurd cc;
        drilled = λ c s named. inl (subst (λ (k : ℕ). IsDrilled k s salt was outside_now status) (ap drawn_count named) (subst (λ (k : ℕ). IsDrilled count k salt was outside_now status) (ap drawn_seed named) is_drilled));
        broken = λ six. absurd (none.2 six);
        usage = λ two. absurd (none.0 two);
        unnamed = λ nothing. no_none (Drill count seed) _ nothing;
        usage_written = λ two. absurd (none.0 two);
        known = known_status status is;
        read_fault = λ three. absurd (none.1 three);
        read_quiet = λ other. refl;
        write_fault = ends_fault count seed start over.answered over.last was.output output status over.ends;
        write_quiet = λ refused by. ends_quiet count seed start over.answered over.last was.output output status refused over.ends by;
        disk_fault = has_failed;
        disk_quiet = λ other. quiet_on was.disks ready (node_disks node) opening.quiet (closed.quiet (goes other));
        complete = λ named honest free. inl (ends_complete count seed start over.answered over.last was.output output status over.ends free.output_quiet (λ five. free.disk_quiet (has_failed five)));
        honesty = honest_on was.disks ready (node_disks node) opening.honesty closed.honesty;
      }
