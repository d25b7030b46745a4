-- A group behind a rest, in which the journal may have gone on with a new file.
use Rattle.std.proofs.Common.{◌≡◌, ◌≢◌, ℕ, List, [], ◌∷◌, ◌++◌, filter, length, true, false, true≢false, Option, Some, None, Result, Ok, Err, refl, sym, ap, ◌∙◌, subst, arith}
use Rattle.std.specs.Prelude.{is_some, IfErr, IfSome}
use Rattle.sb_desk.specs.Entries.{is_refused}
use Rattle.sb_desk.specs.Spared.{SparesFrom}
use Rattle.sb_desk.specs.declared.post.Post.{Post}
use Rattle.sb_journal.specs.Disks.{AreQuiet, NoneFell, OneFault, SameHonesty}
use Rattle.sb_journal.specs.Journals.{journal_disks}
use Rattle.sb_journal.specs.declared.journal.Journal.{Journal}
use Rattle.sb_journal.proofs.Holding.{fault_behind}
use Rattle.sb_machine.specs.Accounts.{changing}
use Rattle.sb_machine.specs.Answers.{moment_of}
use Rattle.sb_machine.specs.History.{Log, IsLegalFrom, after_entries, stops}
use Rattle.sb_machine.specs.declared.call.Call.{Call}
use Rattle.sb_machine.specs.declared.history.Entry.{Entry}
use Rattle.sb_machine.specs.declared.reply.Answered.{Answered}
use Rattle.sb_machine.specs.declared.reply.Refusal.{Refusal}
use Rattle.sb_machine.specs.declared.reply.Refusal.TheVariants.{DiskFault, Stopped, OutOfMemory}
use Rattle.sb_machine.specs.declared.state.State.{State}
use Rattle.sb_outside.specs.declared.disk.Disk.{Ghosts}
use Rattle.sb_node.specs.Groups.{has_fault, FollowGroups, Rests}
use Rattle.sb_node.specs.declared.node.Node.{Node}
use Rattle.sb_node.specs.Nodes.{node_disks, node_journal, node_log, node_state, node_stopped, node_ticked, IsDurable, IsKept}
use Rattle.sb_node.specs.Posts.{fault_entries}
use Rattle.sb_node.specs.Serving.{node_goes_on, node_report, opened_disks, raised, with_entries, StandsFor}
use Rattle.sb_node.specs.Steps.{entries_with, is_spared, log_of, ticked_to, IsStep}
use Rattle.sb_node.proofs.Counts.{still_numbers}
use Rattle.sb_node.proofs.Following.{behind_rest, failed_rest, rests_still}
use Rattle.sb_node.proofs.Refused.{failed_all, faults_fail, refused_some, refused_spares, refused_still}
use Rattle.sb_node.proofs.Sparing.{step_spares}
use Rattle.sb_node.proofs.Standing.{stands_on, Goes}
use Rattle.sb_node.proofs.Whole.{fell_on, honest_on, quiet_on}

-- ---- a rest

-- what one says in which no disk failed
pub record Rested {D : Type 0} {B : Ghosts D} (old mid : Node D B) : Type 0 where
  pub state : node_state mid ≡ node_state old
  pub report : node_report mid ≡ node_report old
  pub goes_on : node_goes_on mid ≡ node_goes_on old
  pub origin : opened_disks mid ≡ opened_disks old
  pub running : node_stopped mid ≡ node_stopped old
  pub kept : IsKept old → node_stopped mid ≡ None → IsKept mid
  pub rests : IsKept old → Rests (node_goes_on old) (node_state old) (node_disks old) (node_disks mid)
  pub still : (n : ℕ) → node_stopped old ≡ Some n → node_disks mid ≡ node_disks old
  pub quiet : AreQuiet (node_disks old) (node_disks mid)
  pub later : NoneFell (node_disks old) (node_disks mid)
  pub honesty : SameHonesty (node_disks old) (node_disks mid)

-- where there was none
still_rested : {D : Type 0} {B : Ghosts D} (n : Node D B) → Rested n n
still_rested n = record {
  state = refl;
  report = refl;
  goes_on = refl;
  origin = refl;
  running = refl;
  kept = λ kept runs. kept;
  rests = λ kept. rests_still (node_goes_on n) (node_state n) (node_disks n);
  still = λ m is. refl;
  quiet = (refl, refl);
  later = (omega arith, omega arith);
  honesty = (refl, refl);
}

-- the group behind it
module _ {D : Type 0} {B : Ghosts D} (old mid new : Node D B) (es : List Entry) (rested : Rested old mid) (go : Goes false mid new es) where
  same_log : node_log mid ≡ node_log old
  same_log = ap (λ (s : State). log_of s (node_stopped mid)) rested.state ∙ ap (log_of (node_state old)) rested.running

  ran_mid : node_stopped new ≡ None → node_stopped mid ≡ None
  ran_mid runs = by_mid (node_stopped mid) refl
    where
      by_mid : (o : Option ℕ) → node_stopped mid ≡ o → node_stopped mid ≡ None
      by_mid None is = is
      by_mid (Some n) is = let never : Some n ≡ None = sym (go.stays n is).0 ∙ runs in absurd cc

  failed_behind : node_stopped old ≡ None → (n : ℕ) → node_stopped new ≡ Some n → OneFault (node_disks old) (node_disks new) n × (node_state new ≡ node_state old) × (has_fault es ≡ true)
  failed_behind was n is =
      let fault = go.failed (rested.running ∙ was) n is in
      (fault_behind (node_disks old) (node_disks mid) (node_disks new) n rested.quiet fault.0, fault.1 ∙ rested.state, fault.2)

  stays_behind : (n : ℕ) → node_stopped old ≡ Some n → (node_stopped new ≡ Some n) × (node_disks new ≡ node_disks old) × (node_state new ≡ node_state old) × (has_fault es ≡ false) × (changing (node_log old) es ≡ [])
  stays_behind n was =
      let same = go.stays n (rested.running ∙ was) in
      (same.0, same.1 ∙ rested.still n was, same.2 ∙ rested.state, same.3, ap (λ (l : Log). changing l es) (sym same_log) ∙ same.4)

  pub goes_behind : Goes (node_goes_on old) old new es
  goes_behind = record {
    some = go.some;
    step = subst (λ (l : Log). IsStep l es (node_log new)) same_log go.step;
    spares = subst (λ (l : Log). SparesFrom is_spared l es) same_log go.spares;
    numbers = go.numbers ∙ ap (λ r. with_entries r (node_log mid) es) rested.report ∙ ap (λ (l : Log). with_entries (node_report old) l es) same_log;
    origin = go.origin ∙ rested.origin;
    goes_on = go.goes_on ∙ rested.goes_on;
    honesty = honest_on (node_disks old) (node_disks mid) (node_disks new) rested.honesty go.honesty;
    later = fell_on (node_disks old) (node_disks mid) (node_disks new) rested.later go.later;
    quiet = λ runs. quiet_on (node_disks old) (node_disks mid) (node_disks new) rested.quiet (go.quiet runs);
    kept = λ kept runs. go.kept (rested.kept kept (ran_mid runs)) runs;
    follows = λ kept was.
        behind_rest (node_goes_on old) (node_log old) es (node_disks old) (node_disks mid) (node_disks new) (rested.rests kept)
        (subst (λ (l : Log). FollowGroups false l (es ∷ []) (node_disks mid) (node_disks new)) same_log (go.follows (rested.kept kept (rested.running ∙ was)) (rested.running ∙ was)));
    failed = failed_behind;
    stays = stays_behind;
  }

pub stands_behind : {D : Type 0} {B : Ghosts D} (old mid new : Node D B) (es : List Entry) (start : State) (h : List Entry) → Rested old mid → Goes false mid new es → StandsFor old start h → StandsFor new start (h ++ es)
stands_behind old mid new es start h rested go is = stands_on old new es start h (goes_behind old mid new es rested go) is

-- ---- a call alone, with no rest before it

-- what it says of the node before it and behind it
pub record Alone {D : Type 0} {B : Ghosts D} (old new : Node D B) (seat reading : ℕ) (call : Call) (answer : Result Answered Refusal) : Type 0 where
  pub step : IsStep (node_log old) (entries_with (node_ticked new) seat reading call answer) (node_log new)
  pub numbers : node_report new ≡ with_entries (node_report old) (node_log old) (entries_with (node_ticked new) seat reading call answer)
  pub origin : opened_disks new ≡ opened_disks old
  pub goes_on : node_goes_on new ≡ node_goes_on old
  pub honesty : SameHonesty (node_disks old) (node_disks new)
  pub later : NoneFell (node_disks old) (node_disks new)
  pub failed : answer ≡ Err DiskFault → (n : ℕ) × (node_stopped new ≡ Some n) × OneFault (node_disks old) (node_disks new) n
  pub undone : answer ≡ Err DiskFault → (node_ticked new ≡ None) × (node_state new ≡ node_state old)
  pub stopped : (n : ℕ) → answer ≡ Err (Stopped n) → node_stopped old ≡ Some n
  pub stays : (n : ℕ) → node_stopped old ≡ Some n → (answer ≡ Err (Stopped n)) × (node_stopped new ≡ Some n)
  pub kept : IsKept old → node_stopped new ≡ None → IsKept new
  pub untouched : IfErr answer (λ e. e ≢ DiskFault → node_ticked new ≡ None → node_journal new ≡ node_journal old)
  pub refused : IfErr answer (λ e. node_state new ≡ ticked_to (node_ticked new) (node_state old))
  pub follows : IsKept old → FollowGroups false (node_log old) (entries_with (node_ticked new) seat reading call answer ∷ []) (node_disks old) (node_disks new)
  pub quiet : answer ≢ Err DiskFault → AreQuiet (node_disks old) (node_disks new)
  pub ticked : IfSome (node_ticked new) (λ t. t ≡ moment_of (node_state old) reading)
  pub free : is_spared (moment_of (node_state old) reading) call (ticked_to (node_ticked new) (node_state old)) ≡ true → answer ≢ Err OutOfMemory

made_some : (tick : Option ℕ) (seat reading : ℕ) (call : Call) (answer : Result Answered Refusal) → entries_with tick seat reading call answer ≡ [] → ⊥
made_some None seat reading call answer none = absurd cc
made_some (Some t) seat reading call answer none = absurd cc

-- no time goes on where it has stopped
no_tick : (tick : Option ℕ) (s : State) (n seat reading : ℕ) (call : Call) (answer : Result Answered Refusal) → IsLegalFrom (log_of s (Some n)) (entries_with tick seat reading call answer) → tick ≡ None
no_tick None s n seat reading call answer legal = refl
no_tick (Some t) s n seat reading call answer legal = absurd (true≢false legal.0.0)

stops_by : (tick : Option ℕ) (s : State) (seat reading : ℕ) (call : Call) (answer : Result Answered Refusal) → (after_entries (log_of s None) (entries_with tick seat reading call answer)).stopped ≡ stops answer
stops_by None s seat reading call answer = refl
stops_by (Some t) s seat reading call answer = refl

untouched_by : {D : Type 0} {B : Ghosts D} (old new : Journal D B) (tick : Option ℕ) (n : ℕ) (answer : Result Answered Refusal) → answer ≡ Err (Stopped n) → tick ≡ None → IfErr answer (λ e. e ≢ DiskFault → tick ≡ None → new ≡ old) → new ≡ old
untouched_by old new tick n (Ok reply) is none left = absurd cc
untouched_by old new tick n (Err e) is none left = left (λ fault. absurd cc) none

refused_by : (old new : State) (tick : Option ℕ) (n : ℕ) (answer : Result Answered Refusal) → answer ≡ Err (Stopped n) → tick ≡ None → IfErr answer (λ e. new ≡ ticked_to tick old) → new ≡ old
refused_by old new tick n (Ok reply) is none left = absurd cc
refused_by old new tick n (Err e) is none left = left ∙ ap (λ (o : Option ℕ). ticked_to o old) none

pub same_count : (n m : ℕ) (o : Option ℕ) → o ≡ Some m → o ≡ Some n → m ≡ n
same_count n m o one other = let same : Some m ≡ Some n = sym one ∙ other in cc

module _ {D : Type 0} {B : Ghosts D} (old new : Node D B) (seat reading : ℕ) (call : Call) (answer : Result Answered Refusal) (alone : Alone old new seat reading call answer) where
  abbrev made : List Entry
  made = entries_with (node_ticked new) seat reading call answer

  -- where it ran before and runs no more, a disk failed
  has_failed : (n : ℕ) → node_stopped new ≡ Some n → node_stopped old ≡ None → answer ≡ Err DiskFault
  has_failed n has before = by_answer answer refl stops_now
    where
      stops_now : stops answer ≡ true
      stops_now =
          sym (stops_by (node_ticked new) (node_state old) seat reading call answer)
          ∙ ap (λ (o : Option ℕ). (after_entries (log_of (node_state old) o) made).stopped) (sym before)
          ∙ ap (λ (l : Log). l.stopped) (sym alone.step.leads)
          ∙ ap is_some has

      by_answer : (a : Result Answered Refusal) → answer ≡ a → stops a ≡ true → answer ≡ Err DiskFault
      by_answer (Err DiskFault) is stop = is
      by_answer (Err (Stopped m)) is stop = let never : Some m ≡ None = sym (alone.stopped m is) ∙ before in absurd cc
      by_answer _ is stop = absurd cc

  failed_alone : node_stopped old ≡ None → (n : ℕ) → node_stopped new ≡ Some n → OneFault (node_disks old) (node_disks new) n × (node_state new ≡ node_state old) × (has_fault made ≡ true)
  failed_alone was n has =
      let is = has_failed n has was in
      let fault = alone.failed is in
      let undone = alone.undone is in
      let as_one : made ≡ entries_with None seat reading call (Err DiskFault) =
      ap (λ (o : Option ℕ). entries_with o seat reading call answer) undone.0 ∙ ap (λ (a : Result Answered Refusal). entries_with None seat reading call a) is in
      (subst (λ (m : ℕ). OneFault (node_disks old) (node_disks new) m) (same_count n fault.0 (node_stopped new) fault.1 has) fault.2, undone.1, ap has_fault as_one)

  stays_alone : (n : ℕ) → node_stopped old ≡ Some n → (node_stopped new ≡ Some n) × (node_disks new ≡ node_disks old) × (node_state new ≡ node_state old) × (has_fault made ≡ false) × (changing (node_log old) made ≡ [])
  stays_alone n was =
      let stays = alone.stays n was in
      let none : node_ticked new ≡ None = no_tick (node_ticked new) (node_state old) n seat reading call answer (subst (λ (o : Option ℕ). IsLegalFrom (log_of (node_state old) o) made) was alone.step.legal) in
      let as_one : made ≡ entries_with None seat reading call (Err (Stopped n)) =
      ap (λ (o : Option ℕ). entries_with o seat reading call answer) none ∙ ap (λ (a : Result Answered Refusal). entries_with None seat reading call a) stays.0 in (
        stays.1,
        ap (λ (j : Journal D B). journal_disks j) (untouched_by (node_journal old) (node_journal new) (node_ticked new) n answer stays.0 none alone.untouched),
        refused_by (node_state old) (node_state new) (node_ticked new) n answer stays.0 none alone.refused,
        ap has_fault as_one,
        ap (changing (node_log old)) as_one,
      )

  quiet_alone : node_stopped new ≡ None → AreQuiet (node_disks old) (node_disks new)
  quiet_alone runs = alone.quiet (λ is. let fault = alone.failed is in let never : Some fault.0 ≡ None = sym fault.1 ∙ runs in absurd cc)

  goes_alone : Goes false old new made
  goes_alone = record {
    some = made_some (node_ticked new) seat reading call answer;
    step = alone.step;
    spares = step_spares (node_ticked new) (node_log old) seat reading call answer alone.ticked alone.step.legal alone.free;
    numbers = alone.numbers;
    origin = alone.origin;
    goes_on = alone.goes_on;
    honesty = alone.honesty;
    later = alone.later;
    quiet = quiet_alone;
    kept = alone.kept;
    follows = λ kept was. alone.follows kept;
    failed = failed_alone;
    stays = stays_alone;
  }

pub stands_alone : {D : Type 0} {B : Ghosts D} (old new : Node D B) (seat reading : ℕ) (call : Call) (answer : Result Answered Refusal) (start : State) (h : List Entry) → Alone old new seat reading call answer → StandsFor old start h
    → StandsFor new start (h ++ entries_with (node_ticked new) seat reading call answer)
stands_alone old new seat reading call answer start h alone is = stands_behind old old new (entries_with (node_ticked new) seat reading call answer) start h (still_rested old) (goes_alone old new seat reading call answer alone) is

-- ---- a rest in which a disk failed

-- what it says, and the refusal of the calls behind it
pub record Fails {D : Type 0} {B : Ghosts D} (old new : Node D B) (posts : List Post) : Type 0 where
  pub some : posts ≡ [] → ⊥
  pub ran : node_stopped old ≡ None
  pub state : node_state new ≡ node_state old
  pub entries : (node_report new).entries ≡ raised (node_report old).entries (length (fault_entries posts))
  pub changing_is : (node_report new).changing ≡ (node_report old).changing
  pub refused : (node_report new).refused ≡ raised (node_report old).refused (length (filter is_refused (fault_entries posts)))
  pub goes_on : node_goes_on new ≡ node_goes_on old
  pub origin : opened_disks new ≡ opened_disks old
  pub failed : (n : ℕ) × (node_stopped new ≡ Some n) × OneFault (node_disks old) (node_disks new) n
  pub rests : IsKept old → Rests (node_goes_on old) (node_state old) (node_disks old) (node_disks new)
  pub durable : IsKept old → IsDurable (node_disks new) (node_state new)
  pub later : NoneFell (node_disks old) (node_disks new)
  pub honesty : SameHonesty (node_disks old) (node_disks new)

module _ {D : Type 0} {B : Ghosts D} (old new : Node D B) (posts : List Post) (fails : Fails old new posts) where
  none_stays : (n : ℕ) → node_stopped old ≡ Some n → ⊥
  none_stays n is = let never : Some n ≡ None = sym is ∙ fails.ran in absurd cc

  none_runs : node_stopped new ≡ None → ⊥
  none_runs runs = let never : Some fails.failed.0 ≡ None = sym fails.failed.1 ∙ runs in absurd cc

  fault_step : IsStep (node_log old) (fault_entries posts) (node_log new)
  fault_step =
      subst (λ (o : Option ℕ). IsStep (log_of (node_state old) o) (fault_entries posts) (node_log new)) (sym fails.ran)
      (subst (λ (o : Option ℕ). IsStep (log_of (node_state old) None) (fault_entries posts) (log_of (node_state new) o)) (sym fails.failed.1)
      (subst (λ (s : State). IsStep (log_of (node_state old) None) (fault_entries posts) (log_of s (Some fails.failed.0))) (sym fails.state) (failed_all (node_state old) fails.failed.0 posts fails.some)))

  goes_failed : Goes (node_goes_on old) old new (fault_entries posts)
  goes_failed = record {
    some = refused_some None posts fails.some;
    step = fault_step;
    spares = refused_spares None (node_log old) posts;
    numbers = still_numbers (node_report old) (node_report new) (node_log old) (fault_entries posts) (refused_still None (node_log old) posts) fails.entries fails.changing_is fails.refused;
    origin = fails.origin;
    goes_on = fails.goes_on;
    honesty = fails.honesty;
    later = fails.later;
    quiet = λ runs. absurd (none_runs runs);
    kept = λ kept runs. absurd (none_runs runs);
    follows = λ kept was.
        failed_rest (node_goes_on old) (node_log old) (fault_entries posts) (node_disks old) (node_disks new) (faults_fail posts fails.some) (fails.rests kept) (subst (λ (s : State). IsDurable (node_disks new) s) fails.state (fails.durable kept));
    failed = λ was n is. (subst (λ (m : ℕ). OneFault (node_disks old) (node_disks new) m) (same_count n fails.failed.0 (node_stopped new) fails.failed.1 is) fails.failed.2, fails.state, faults_fail posts fails.some);
    stays = λ n is. absurd (none_stays n is);
  }

pub stands_failed : {D : Type 0} {B : Ghosts D} (old new : Node D B) (posts : List Post) (es : List Entry) (start : State) (h : List Entry) → es ≡ fault_entries posts → Fails old new posts → StandsFor old start h → StandsFor new start (h ++ es)
stands_failed old new posts es start h same fails is = subst (λ (l : List Entry). StandsFor new start (h ++ l)) (sym same) (stands_on old new (fault_entries posts) start h (goes_failed old new posts fails) is)
