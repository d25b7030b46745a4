-- Calls that are carried out one behind another, and made safe at once or not at all.
use Rattle.std.proofs.Common.{◌≡◌, inl, ℕ, List, [], ◌∷◌, ◌++◌, Bool, true, false, Option, Some, None, Result, Err, refl, sym, ◌∙◌, ap, subst, append_assoc}
use Rattle.std.proofs.lemmas.List.{append-nil}
use Rattle.std.specs.Bool.{MatchBool}
use Rattle.std.specs.Prelude.{◌||◌}
use Rattle.sb_journal.specs.Disks.{Disks}
use Rattle.sb_laws.proofs.Histories.{goes_on}
use Rattle.sb_machine.specs.Accounts.{changing}
use Rattle.sb_machine.specs.Answers.{moment_of}
use Rattle.sb_machine.specs.Events.{replayed, AreUndecided, MayLeave}
use Rattle.sb_machine.specs.History.{Log, Follows, IsLegalFrom, after_entries, after_entry, is_disk_fault, is_end, is_fault, settled}
use Rattle.sb_machine.specs.declared.call.Call.{Call}
use Rattle.sb_machine.specs.declared.call.Event.{Event}
use Rattle.sb_machine.specs.declared.history.Entry.{Entry}
use Rattle.sb_machine.specs.declared.history.Entry.TheVariants.{Ticked, Answered as Replied}
use Rattle.sb_machine.specs.declared.reply.Answered.{Answered}
use Rattle.sb_machine.specs.declared.reply.Refusal.{Refusal}
use Rattle.sb_machine.specs.declared.reply.Refusal.TheVariants.{DiskFault}
use Rattle.sb_machine.specs.declared.state.State.{State}
use Rattle.sb_node.specs.Ahead.{made_events, IsMadeBy}
use Rattle.sb_node.specs.Groups.{failed, has_fault, FollowGroups, HaveRun, Rests}
use Rattle.sb_node.specs.Nodes.{StayOneOf}
use Rattle.sb_node.specs.Steps.{entries_with, log_of, IsStep}
use Rattle.sb_node.proofs.ByGroups.{more_undecided}
use Rattle.sb_node.proofs.Counts.{after_on, changing_on}
use Rattle.sb_node.proofs.Made.{replayed_on}
use Rattle.sb_node.proofs.Settled.{changing_settled, legal_settled, settled_on}

pub none_runs : (s : State) → HaveRun s [] s
none_runs s = record { step = record { legal = refl; leads = refl }; leads = refl; may = refl }

-- ---- one more

pub failed_on : (h es : List Entry) → failed (h ++ es) ≡ failed h ++ failed es
failed_on [] es = refl
failed_on (Ticked seat t ∷ h) es = failed_on h es
failed_on (Replied seat reading call answer ∷ h) es = ap (λ (l : List Entry). Replied seat reading call (Err DiskFault) ∷ l) (failed_on h es)

pub failed_one : (tick : Option ℕ) (seat reading : ℕ) (call : Call) (answer : Result Answered Refusal) → failed (entries_with tick seat reading call answer) ≡ Replied seat reading call (Err DiskFault) ∷ []
failed_one None seat reading call answer = refl
failed_one (Some t) seat reading call answer = refl

-- its entries behind those before it
step_on : (s0 s1 s2 : State) (made es : List Entry) → IsStep (log_of s0 None) made (log_of s1 None) → IsStep (log_of s1 None) es (log_of s2 None) → IsStep (log_of s0 None) (made ++ es) (log_of s2 None)
step_on s0 s1 s2 made es first second =
    let l0 = log_of s0 None in
    let l1 = after_entries l0 made in
    record {
      legal = goes_on l0 made es first.legal (legal_settled l1 es (subst (λ (l : Log). IsLegalFrom l es) first.leads second.legal));
      leads = second.leads ∙ ap (λ (l : Log). settled (after_entries l es)) first.leads ∙ settled_on l1 es ∙ ap settled (sym (after_on l0 made es));
    }

-- and its events
pub events_on : (s0 s1 : State) (made es : List Entry) → log_of s1 None ≡ settled (after_entries (log_of s0 None) made) → changing (log_of s0 None) (made ++ es) ≡ changing (log_of s0 None) made ++ changing (log_of s1 None) es
events_on s0 s1 made es leads =
    let l0 = log_of s0 None in
    changing_on l0 made es ∙ ap (λ (e : List Event). changing l0 made ++ e) (sym (changing_settled (after_entries l0 made) es) ∙ ap (λ (l : Log). changing l es) (sym leads))

pub runs_on : (old mid new : State) (made : List Entry) (tick : Option ℕ) (seat reading : ℕ) (call : Call) (answer : Result Answered Refusal) → HaveRun old made mid → IsStep (log_of mid None) (entries_with tick seat reading call answer) (log_of new None)
    → IsMadeBy mid reading call (made_events mid tick seat reading call answer) new → HaveRun old (made ++ entries_with tick seat reading call answer) new
runs_on old mid new made tick seat reading call answer run step by =
    let es = entries_with tick seat reading call answer in
    let before = changing (log_of old None) made in
    let own = made_events mid tick seat reading call answer in
    let all : changing (log_of old None) (made ++ es) ≡ before ++ own = events_on old mid made es run.step.leads in
    let calls : failed (made ++ es) ≡ failed made ++ Replied seat reading call (Err DiskFault) ∷ [] = failed_on made es ∙ ap (λ (l : List Entry). failed made ++ l) (failed_one tick seat reading call answer) in
    record {
      step = step_on old mid new made es run.step step;
      leads = by.leads ∙ ap (λ (s : State). replayed s own) run.leads ∙ sym (replayed_on old before own) ∙ ap (replayed old) (sym all);
      may = subst (λ (h : List Entry). AreUndecided old h (changing (log_of old None) (made ++ es))) (sym calls)
          (subst (λ (e : List Event). AreUndecided old (failed made ++ Replied seat reading call (Err DiskFault) ∷ []) e) (sym all)
          (more_undecided old (failed made) before own seat reading call run.may (subst (λ (s : State). MayLeave s reading call own) run.leads by.may)));
    }

-- ---- where the disk failed

fault_allowed : (stopped failing : Bool) (Sound : Type 0) → (stopped ≡ true → failing ≡ true) → MatchBool stopped (is_end failing (Err DiskFault) ≡ true) (is_fault (Err DiskFault) ≡ false → Sound)
fault_allowed true failing Sound on = ap (λ (b : Bool). is_end b (Err DiskFault)) (on refl)
fault_allowed false failing Sound on = λ sound. absurd cc

failed_legal : (l : Log) (es : List Entry) → l.tick ≡ None → (l.stopped ≡ true → l.failing ≡ true) → IsLegalFrom l (failed es)
failed_legal l [] none on = none
failed_legal l (Ticked seat t ∷ es) none on = failed_legal l es none on
failed_legal l (Replied seat reading call answer ∷ es) none on = (
  (subst (λ (o : Option (ℕ × ℕ)). Follows o seat (moment_of l.state reading)) (sym none) tt, fault_allowed l.stopped l.failing _ on),
  failed_legal (after_entry l (Replied seat reading call (Err DiskFault))) es refl (λ stopped. refl),
)

failed_stays : (s : State) (failing : Bool) (es : List Entry) → ◌≡◌ {A = Log} (settled (after_entries (record { state = s; stopped = true; failing = failing; tick = None }) (failed es))) (record { state = s; stopped = true; failing = false; tick = None })
failed_stays s failing [] = refl
failed_stays s failing (Ticked seat t ∷ es) = failed_stays s failing es
failed_stays s failing (Replied seat reading call answer ∷ es) = failed_stays s true es

failed_leads : (s : State) (faults : ℕ) (es : List Entry) → has_fault (failed es) ≡ true → log_of s (Some faults) ≡ settled (after_entries (log_of s None) (failed es))
failed_leads s faults [] some = absurd cc
failed_leads s faults (Ticked seat t ∷ es) some = failed_leads s faults es some
failed_leads s faults (Replied seat reading call answer ∷ es) some = sym (failed_stays s true es)

pub fail_together : (old new : State) (made others : List Entry) (faults : ℕ) → HaveRun old made new → has_fault (failed (made ++ others)) ≡ true → IsStep (log_of old None) (failed (made ++ others)) (log_of old (Some faults))
fail_together old new made others faults run some = record {
  legal = failed_legal (log_of old None) (made ++ others) refl (λ never. absurd cc);
  leads = failed_leads old faults (made ++ others) some;
}

-- those that weren't carried out leave nothing
others_left : (s : State) (h others : List Entry) (events : List Event) → AreUndecided s h events → AreUndecided s (h ++ failed others) events
others_left s h [] events are = subst (λ (l : List Entry). AreUndecided s l events) (sym (append-nil h)) are
others_left s h (Ticked seat t ∷ es) events are = others_left s h es events are
others_left s h (Replied seat reading call answer ∷ es) events are =
    let more : AreUndecided s (h ++ Replied seat reading call (Err DiskFault) ∷ []) events = subst (λ (l : List Event). AreUndecided s (h ++ Replied seat reading call (Err DiskFault) ∷ []) l) (append-nil events) (more_undecided s h events [] seat reading call are (inl refl)) in
    subst (λ (l : List Entry). AreUndecided s l events) (append_assoc h (Replied seat reading call (Err DiskFault) ∷ []) (failed es)) (others_left s (h ++ Replied seat reading call (Err DiskFault) ∷ []) es events more)

-- ---- the moments of a group

pub when_fault : (b : Bool) (A B : Type 0) → b ≡ true → A → MatchBool b A B
when_fault true A B is here = here
when_fault false A B is here = absurd cc

pub when_none : (b : Bool) (A B : Type 0) → b ≡ false → B → MatchBool b A B
when_none false A B is here = here
when_none true A B is here = absurd cc

pub sealed_follows : (on : Bool) (old new : State) (made : List Entry) (was turned now : Disks) → HaveRun old made new → has_fault made ≡ false → Rests on old was turned → StayOneOf turned now (old ∷ new ∷ []) → FollowGroups on (log_of old None) (made ∷ []) was now
sealed_follows on old new made was turned now run none rests stay =
    let l = log_of old None in
    let events = changing l made in (
      turned,
      now,
      events,
      rests,
      when_none (has_fault made) (AreUndecided old made events) (events ≡ changing l made) none refl,
      subst (λ (s : State). StayOneOf turned now (old ∷ s ∷ [])) run.leads stay,
      when_none (has_fault made) (now ≡ now) (FollowGroups on (after_entries l made) [] now now) none refl,
    )

pub failed_follows : (on : Bool) (old new : State) (made others : List Entry) (was turned now : Disks) → HaveRun old made new → has_fault (failed (made ++ others)) ≡ true → Rests on old was turned → StayOneOf turned now (old ∷ new ∷ []) → FollowGroups on (log_of old None) (failed (made ++ others) ∷ []) was now
failed_follows on old new made others was turned now run some rests stay =
    let l = log_of old None in
    let all = failed (made ++ others) in
    let events = changing l made in (
      turned,
      now,
      events,
      rests,
      when_fault (has_fault all) (AreUndecided old all events) (events ≡ changing l all) some (subst (λ (h : List Entry). AreUndecided old h events) (sym (failed_on made others)) (others_left old (failed made) others events run.may)),
      subst (λ (s : State). StayOneOf turned now (old ∷ s ∷ [])) run.leads stay,
      when_fault (has_fault all) (now ≡ now) (FollowGroups on (after_entries l all) [] now now) some refl,
    )

-- ---- whether the disk failed in them

pub fault_on : (h es : List Entry) → has_fault h ≡ false → has_fault es ≡ false → has_fault (h ++ es) ≡ false
fault_on [] es none more = more
fault_on (Ticked seat t ∷ h) es none more = fault_on h es none more
fault_on (Replied seat reading call answer ∷ h) es none more = neither_fault (is_disk_fault answer) (has_fault h) (has_fault (h ++ es)) none (λ rest. fault_on h es rest more)
  where
    neither_fault : (b c d : Bool) → (b || c) ≡ false → (c ≡ false → d ≡ false) → (b || d) ≡ false
    neither_fault true c d never on = absurd cc
    neither_fault false c d is on = on is

pub fault_one : (tick : Option ℕ) (seat reading : ℕ) (call : Call) (answer : Result Answered Refusal) → is_disk_fault answer ≡ false → has_fault (entries_with tick seat reading call answer) ≡ false
fault_one None seat reading call answer none = ap (λ (b : Bool). b || false) none
fault_one (Some t) seat reading call answer none = ap (λ (b : Bool). b || false) none
