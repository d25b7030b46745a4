-- A node stands for a history, and after a group for that with the group's entries.
use Rattle.std.proofs.Common.{◌≡◌, inl, ℕ, List, [], ◌∷◌, ◌++◌, map, Bool, true, false, true≢false, Option, Some, None, refl, sym, ap, ◌∙◌, subst, arith}
use Rattle.std.specs.Prelude.{is_some}
use Rattle.sb_desk.specs.Spared.{SparesFrom}
use Rattle.sb_desk.specs.declared.report.DiskMoment.{DiskMoment}
use Rattle.sb_desk.specs.declared.report.DiskOrigin.{DiskOrigin}
use Rattle.sb_desk.specs.declared.report.Origin.{Origin}
use Rattle.sb_desk.proofs.Sparing.{spares_on}
use Rattle.sb_journal.specs.Disks.{disks_of, Disks, OneDisk, AreHonest, AreQuiet, HaveFailed, NoneFell, OneFault, SameHonesty}
use Rattle.sb_journal.proofs.Pairs.{fault_on, still_honest}
use Rattle.sb_laws.proofs.Histories.{goes_on}
use Rattle.sb_machine.specs.Accounts.{changing}
use Rattle.sb_machine.specs.Consistent.{IsConsistent}
use Rattle.sb_machine.specs.History.{Log, IsLegalFrom, after_entries, fresh_log, settled, state_after}
use Rattle.sb_machine.specs.declared.history.Entry.{Entry}
use Rattle.sb_machine.specs.declared.state.State.{State}
use Rattle.sb_outside.specs.Held.{Held}
use Rattle.sb_outside.specs.declared.disk.Disk.{Ghosts}
use Rattle.sb_node.specs.Groups.{after_groups, has_fault, have_fault, FollowByGroups, FollowGroups}
use Rattle.sb_node.specs.declared.node.Node.{Node}
use Rattle.sb_node.specs.Nodes.{node_disk_a, node_disk_b, node_disks, node_journal, node_last, node_log, node_state, node_stopped, IsDurable, IsKept}
use Rattle.sb_node.specs.Serving.{disk_moment, disk_origin, node_goes_on, node_report, opened_disks, origin_of, with_entries, IsLeft, IsWithOrNot, StandsFor}
use Rattle.sb_node.specs.Steps.{is_spared, log_of, IsStep}
use Rattle.sb_node.proofs.ByGroups.{fault_in, flattened_on, groups_end, groups_on, none_undecided, some_on}
use Rattle.sb_node.proofs.Counts.{after_on, numbers_on}
use Rattle.sb_node.proofs.Crashes.{kept_leads}
use Rattle.sb_node.proofs.Failing.{failed_left, none_failed, none_left, stopped_left}
use Rattle.sb_node.proofs.Following.{fault_leaves, group_settled, still_group}
use Rattle.sb_node.proofs.Settled.{changing_settled, legal_settled, settled_on, spares_settled}
use Rattle.sb_node.proofs.Whole.{fell_on, honest_on, quiet_on}

-- ---- a group

-- What a group of calls says of the node before and behind it, where before it the node rests or doesn't: its entries, and that a disk failed in it
-- where it stopped.
pub record Goes {D : Type 0} {B : Ghosts D} (on : Bool) (old new : Node D B) (es : List Entry) : Type 0 where
  pub some : es ≡ [] → ⊥
  pub step : IsStep (node_log old) es (node_log new)
  pub spares : SparesFrom is_spared (node_log old) es
  pub numbers : node_report new ≡ with_entries (node_report old) (node_log old) es
  pub origin : opened_disks new ≡ opened_disks old
  pub goes_on : node_goes_on new ≡ node_goes_on old
  pub honesty : SameHonesty (node_disks old) (node_disks new)
  pub later : NoneFell (node_disks old) (node_disks new)
  pub quiet : node_stopped new ≡ None → AreQuiet (node_disks old) (node_disks new)
  pub kept : IsKept old → node_stopped new ≡ None → IsKept new
  pub follows : IsKept old → node_stopped old ≡ None → FollowGroups on (node_log old) (es ∷ []) (node_disks old) (node_disks new)
  pub failed : node_stopped old ≡ None → (n : ℕ) → node_stopped new ≡ Some n → OneFault (node_disks old) (node_disks new) n × (node_state new ≡ node_state old) × (has_fault es ≡ true)
  pub stays : (n : ℕ) → node_stopped old ≡ Some n → (node_stopped new ≡ Some n) × (node_disks new ≡ node_disks old) × (node_state new ≡ node_state old) × (has_fault es ≡ false) × (changing (node_log old) es ≡ [])

-- it ran before, where it runs behind it
pub ran : {D : Type 0} {B : Ghosts D} (on : Bool) (old new : Node D B) (es : List Entry) → Goes on old new es → node_stopped new ≡ None → node_stopped old ≡ None
ran on old new es go runs = by_old (node_stopped old) refl
  where
    by_old : (o : Option ℕ) → node_stopped old ≡ o → node_stopped old ≡ None
    by_old None is = is
    by_old (Some n) is = let never : Some n ≡ None = sym (go.stays n is).0 ∙ runs in absurd cc

with_none : (disks : Disks) (s : State) → IsDurable disks s → IsWithOrNot disks s []
with_none disks s durable = λ x y on_x on_y. inl (durable x y on_x on_y)

leads_on : (old new : Log) (start : State) (h es : List Entry) → new ≡ settled (after_entries old es) → old ≡ settled (after_entries (fresh_log start) h) → new ≡ settled (after_entries (fresh_log start) (h ++ es))
leads_on old new start h es step leads =
    step
    ∙ ap (λ (l : Log). settled (after_entries l es)) leads
    ∙ settled_on (after_entries (fresh_log start) h) es
    ∙ ap settled (sym (after_on (fresh_log start) h es))

-- ---- behind a history

module _ {D : Type 0} {B : Ghosts D} (old new : Node D B) (es : List Entry) (start : State) (h : List Entry) (go : Goes (node_goes_on old) old new es) (is : StandsFor old start h) where
  led_to : node_log new ≡ settled (after_entries (fresh_log start) (h ++ es))
  led_to = leads_on (node_log old) (node_log new) start h es go.step.leads is.leads

  state_then : node_state old ≡ state_after start h
  state_then = ap (λ (l : Log). l.state) is.leads

  state_now : node_state new ≡ state_after start (h ++ es)
  state_now = ap (λ (l : Log). l.state) led_to

  no_fault_then : node_stopped old ≡ None → has_fault h ≡ false
  no_fault_then runs = none_failed (fresh_log start) h (ap (λ (l : Log). l.stopped) (sym is.leads) ∙ ap is_some runs)

  -- what a crash leaves then
  module _ (honest : AreHonest (node_disks new)) where
    were_honest : AreHonest (node_disks old)
    were_honest = still_honest (node_disks new) (node_disks old) (sym go.honesty.0, sym go.honesty.1) honest

    leaves : (before now : Option ℕ) → node_stopped old ≡ before → node_stopped new ≡ now → IsLeft (node_disks new) start (h ++ es)
    leaves (Some n) now was has =
        let same = go.stays n was in
        subst (λ (d : Disks). IsLeft d start (h ++ es)) (sym same.1) (stopped_left (node_disks old) start h es same.3 (sym state_now ∙ same.2 ∙ state_then) (is.left were_honest))
    leaves None (Some n) was has =
        let fault = go.failed was n has in
        failed_left (node_disks new) start (node_state old) h es (sym state_now ∙ fault.1) (no_fault_then was)
        (fault_leaves (node_goes_on old) (node_log old) es (node_disks old) (node_disks new) fault.2 (go.follows (is.kept were_honest was) was))
    leaves None None was runs = (
      [],
      none_undecided (state_after start (h ++ es)) (h ++ es),
      subst (λ (s : State). IsWithOrNot (node_disks new) s []) state_now (with_none (node_disks new) (node_state new) (kept_leads (node_journal new) (node_last new) (node_state new) (go.kept (is.kept were_honest was) runs))),
    )

    -- and at each moment since it was opened
    abbrev before : Log
    before = after_entries (fresh_log start) h

    group_follows : (o : Option ℕ) → node_stopped old ≡ o → has_fault h ≡ false → FollowGroups (node_goes_on old) before (es ∷ []) (node_disks old) (node_disks new)
    group_follows None was none =
        group_settled (node_goes_on old) before es (node_disks old) (node_disks new)
        (subst (λ (l : Log). FollowGroups (node_goes_on old) l (es ∷ []) (node_disks old) (node_disks new)) is.leads (go.follows (is.kept were_honest was) was))
    group_follows (Some n) was none =
        let same = go.stays n was in
        subst (λ (d : Disks). FollowGroups (node_goes_on old) before (es ∷ []) (node_disks old) d) (sym same.1)
        (still_group (node_goes_on old) (node_disks old) before es same.3 (sym (changing_settled before es) ∙ ap (λ (l : Log). changing l es) (sym is.leads) ∙ same.4)
        (none_left (node_disks old) start h none (is.left were_honest)))

    stays_then : (o : Option ℕ) → node_stopped old ≡ o → has_fault h ≡ true → node_disks new ≡ node_disks old
    stays_then None was failed = absurd (true≢false (sym failed ∙ no_fault_then was))
    stays_then (Some n) was failed = (go.stays n was).1

    moments : FollowByGroups (node_goes_on old) start (h ++ es) (opened_disks old) (node_disks new)
    moments =
        let had = is.follows were_honest in
        let groups = had.0 in
        let fault : have_fault groups ≡ has_fault h = fault_in groups ∙ ap has_fault had.2 in
        let end : after_groups (fresh_log start) groups ≡ before = groups_end (fresh_log start) groups ∙ ap (after_entries (fresh_log start)) had.2 in (
          groups ++ es ∷ [],
          some_on groups es had.1 go.some,
          flattened_on groups es ∙ ap (λ (l : List Entry). l ++ es) had.2,
          groups_on (node_goes_on old) (fresh_log start) groups es (opened_disks old) (node_disks old) (node_disks new) had.3
              (λ failed. stays_then (node_stopped old) refl (sym fault ∙ failed))
              (λ none. subst (λ (l : Log). FollowGroups (node_goes_on old) l (es ∷ []) (node_disks old) (node_disks new)) (sym end) (group_follows (node_stopped old) refl (sym fault ∙ none))),
        )

  -- no count rose, if it runs
  stays_quiet : node_stopped new ≡ None → AreQuiet (opened_disks old) (node_disks new)
  stays_quiet runs = quiet_on (opened_disks old) (node_disks old) (node_disks new) (is.quiet (ran (node_goes_on old) old new es go runs)) (go.quiet runs)

  -- one call failed, if it has stopped: none had before, and none is made any more
  causes : (before now : Option ℕ) → node_stopped old ≡ before → node_stopped new ≡ now → is_some now ≡ true → HaveFailed (opened_disks old) (node_disks new)
  causes before None was runs has = absurd cc
  causes None (Some n) was stopped has = fault_on (opened_disks old) (node_disks old) (node_disks new) (is.quiet was) (n, (go.failed was n stopped).0)
  causes (Some m) (Some n) was stopped has = subst (λ (d : Disks). HaveFailed (opened_disks old) d) (sym (go.stays m was).1) (is.cause (ap is_some was))

  pub stands_on : StandsFor new start (h ++ es)
  stands_on = record {
    consistent = is.consistent;
    legal = goes_on (fresh_log start) h es is.legal (legal_settled (after_entries (fresh_log start) h) es (subst (λ (l : Log). IsLegalFrom l es) is.leads go.step.legal));
    spares = spares_on is_spared (fresh_log start) h es is.spares (spares_settled is_spared (after_entries (fresh_log start) h) es (subst (λ (l : Log). SparesFrom is_spared l es) is.leads go.spares));
    leads = led_to;
    numbers = numbers_on start h es (node_log old) (node_report old) (node_report new) is.leads is.numbers go.numbers;
    honesty = subst (λ (d : Disks). SameHonesty d (node_disks new)) (sym go.origin) (honest_on (opened_disks old) (node_disks old) (node_disks new) is.honesty go.honesty);
    later = subst (λ (d : Disks). NoneFell d (node_disks new)) (sym go.origin) (fell_on (opened_disks old) (node_disks old) (node_disks new) is.later go.later);
    cause = λ has. subst (λ (d : Disks). HaveFailed d (node_disks new)) (sym go.origin) (causes (node_stopped old) (node_stopped new) refl refl has);
    kept = λ honest runs. go.kept (is.kept (were_honest honest) (ran (node_goes_on old) old new es go runs)) runs;
    quiet = λ runs. subst (λ (d : Disks). AreQuiet d (node_disks new)) (sym go.origin) (stays_quiet runs);
    began = λ honest. subst (λ (d : Disks). IsDurable d start) (sym go.origin) (is.began (were_honest honest));
    follows = λ honest.
        subst (λ (on : Bool). FollowByGroups on start (h ++ es) (opened_disks new) (node_disks new)) (sym go.goes_on)
        (subst (λ (d : Disks). FollowByGroups (node_goes_on old) start (h ++ es) d (node_disks new)) (sym go.origin) (moments honest));
    left = λ honest. leaves honest (node_stopped old) (node_stopped new) refl refl;
  }

-- ---- as it was opened

pub were_honest_first : (was mid later : Disks) → SameHonesty was mid → SameHonesty mid later → AreHonest later → AreHonest was
were_honest_first was mid later first second honest = still_honest later was (sym (second.0 ∙ first.0), sym (second.1 ∙ first.1)) honest

-- ---- disks of one origin are the same

abbrev held_of : DiskMoment → Held
held_of m = record { seen = m.seen; synced = m.synced; ranges = m.ranges; least = m.least; greatest = m.greatest }

past_of : (past : List Held) → map held_of (map disk_moment past) ≡ past
past_of [] = refl
past_of (h ∷ hs) = ap (λ (l : List Held). h ∷ l) (past_of hs)

abbrev disk_of_origin : DiskOrigin → OneDisk
disk_of_origin o = record { honest = o.honest; held = held_of o.held; past = map held_of o.past; faults = o.faults }

disk_there : (disk : OneDisk) → disk_of_origin (disk_origin disk) ≡ disk
disk_there disk = ap (λ (past : List Held). record { honest = disk.honest; held = disk.held; past = past; faults = disk.faults }) (past_of disk.past)

pub same_found : (on before : Bool) (was now : Disks) → origin_of on now ≡ origin_of before was → now ≡ was
same_found on before was now same =
    let a : now.a ≡ was.a = sym (disk_there now.a) ∙ ap (λ (o : Origin). disk_of_origin o.disk_a) same ∙ disk_there was.a in
    let b : now.b ≡ was.b = sym (disk_there now.b) ∙ ap (λ (o : Origin). disk_of_origin o.disk_b) same ∙ disk_there was.b in
    λ i. record { a = a i; b = b i }

pub begins : {D : Type 0} {B : Ghosts D} (n : Node D B) → IsConsistent (node_state n) → node_stopped n ≡ None → (node_report n).entries ≡ 0 → (node_report n).changing ≡ 0 → (node_report n).refused ≡ 0
    → opened_disks n ≡ node_disks n → (AreHonest (node_disks n) → IsKept n) → (AreHonest (node_disks n) → IsDurable (node_disks n) (node_state n)) → StandsFor n (node_state n) []
begins n consistent runs entries changed refused opened kept durable = record {
  consistent = consistent;
  legal = refl;
  spares = tt;
  leads = ap (log_of (node_state n)) runs;
  numbers = record { entries = entries; changing = changed; refused = refused };
  honesty = (ap (λ (d : Disks). d.a.honest) (sym opened), ap (λ (d : Disks). d.b.honest) (sym opened));
  later = let same_a = ap (λ (d : Disks). d.a.faults) opened in let same_b = ap (λ (d : Disks). d.b.faults) opened in (omega (arith, same_a), omega (arith, same_b));
  cause = λ has. absurd (true≢false (sym has ∙ ap is_some runs));
  kept = λ honest still. kept honest;
  quiet = λ still. (ap (λ (d : Disks). d.a.faults) (sym opened), ap (λ (d : Disks). d.b.faults) (sym opened));
  began = λ honest. subst (λ (d : Disks). IsDurable d (node_state n)) (sym opened) (durable honest);
  follows = λ honest. ([], tt, refl, sym opened);
  left = λ honest. ([], refl, with_none (node_disks n) (node_state n) (durable honest));
}

-- ---- the disks handed back

pub left_closed : {D : Type 0} {B : Ghosts D} (n : Node D B) (a b : D) (start : State) (h : List Entry) → a ≡ node_disk_a n → b ≡ node_disk_b n → StandsFor n start h → AreHonest (disks_of B a b) → IsLeft (disks_of B a b) start h
left_closed {D} {B} n a b start h same_a same_b is honest =
    let same : disks_of B a b ≡ node_disks n = λ i. disks_of B (same_a i) (same_b i) in
    subst (λ (d : Disks). IsLeft d start h) (sym same) (is.left (subst AreHonest same honest))
