use Rattle.std.proofs.Common.{[], ◌∷◌, length, false, ℕ, List, Some, None, refl, sym, ap, ◌∙◌, subst}
use Rattle.sb_desk.specs.Posts.{group_entries}
use Rattle.sb_desk.specs.Spared.{SparesFrom}
use Rattle.sb_engine.specs.Engines.{engine_state}
use Rattle.sb_journal.specs.Disks.{OneFault}
use Rattle.sb_machine.specs.Accounts.{changing}
use Rattle.sb_machine.specs.History.{Log}
use Rattle.sb_machine.specs.declared.history.Entry.{Entry}
use Rattle.sb_machine.specs.declared.state.State.{State}
use Rattle.sb_node.specs.Ahead.{ahead_disks, ahead_journal, ahead_last, ahead_state}
use Rattle.sb_node.specs.Groups.{has_fault, FollowGroups}
use Rattle.sb_node.specs.Nodes.{node_disks, node_journal, node_last, node_log, node_state, HoldsState}
use Rattle.sb_node.specs.Serving.{raised}
use Rattle.sb_node.specs.Steps.{is_spared, log_of}
use Rattle.sb_node.proofs.Counts.{made_numbers, still_numbers}
use Rattle.sb_node.proofs.Keeping.{none_given}
use Rattle.sb_node.proofs.Refused.{asked_same, failed_group, faults_fail, refused_spares, refused_still, some_asked, stopped_group, stopped_none}
use Rattle.sb_node.proofs.Resting.{same_count}
use Rattle.sb_node.proofs.Sealed.{log_same, step_same}
use Rattle.sb_node.proofs.node.Node.make_all.Goals as goal

-- ---- a node that had stopped

pub returns-in-Some-clause-step : goal.returns-in-Some-clause-step
returns-in-Some-clause-step g c =
    let n = c.args.self.now in
    let posts = c.refuse_all.new.posts in
    stopped_group (node_state n) c.in-Some.faults n.stopped posts (group_entries posts) c.in-Some.is c.refuse_all.ensures.refused

pub returns-in-Some-clause-spares : goal.returns-in-Some-clause-spares
returns-in-Some-clause-spares g c =
    let l = node_log c.args.self.now in
    subst (λ (es : List Entry). SparesFrom is_spared l es) (sym c.refuse_all.ensures.refused) (refused_spares (Some c.in-Some.faults) l c.refuse_all.new.posts)

pub returns-in-Some-clause-numbers : goal.returns-in-Some-clause-numbers
returns-in-Some-clause-numbers g c =
    let n = c.args.self.now in
    let l = node_log n in
    let posts = c.refuse_all.new.posts in
    still_numbers n.numbers c.refuse_all.new.numbers l (group_entries posts) (ap (changing l) c.refuse_all.ensures.refused ∙ refused_still (Some c.in-Some.faults) l posts) c.refuse_all.ensures.entries c.refuse_all.ensures.changing c.refuse_all.ensures.refusals

pub returns-in-Some-clause-stays : goal.returns-in-Some-clause-stays
returns-in-Some-clause-stays g c m was =
    let l = node_log c.args.self.now in
    let posts = c.refuse_all.new.posts in (
      was,
      refl,
      refl,
      ap has_fault c.refuse_all.ensures.refused ∙ stopped_none c.in-Some.faults posts,
      ap (changing l) c.refuse_all.ensures.refused ∙ refused_still (Some c.in-Some.faults) l posts,
    )

-- ---- where the disk failed

pub returns-in_default-carry_out-clause-step : goal.returns-in_default-carry_out-clause-step
returns-in_default-carry_out-clause-step g c =
    let n = c.args.self.now in
    let refused = c.refuse_all-in_default-carry_out.ensures in
    let posts = c.refuse_all-in_default-carry_out.new.posts in
    failed_group (node_state n) c.faults.result n.stopped posts (group_entries posts) (none_given _ c.in_default.not-Some) refused.refused (some_asked posts c.args.posts.now (refused.asked ∙ c.carry_out.ensures.asked) c.requires.some)

pub returns-in_default-carry_out-clause-spares : goal.returns-in_default-carry_out-clause-spares
returns-in_default-carry_out-clause-spares g c =
    let l = node_log c.args.self.now in
    subst (λ (es : List Entry). SparesFrom is_spared l es) (sym c.refuse_all-in_default-carry_out.ensures.refused) (refused_spares None l c.refuse_all-in_default-carry_out.new.posts)

pub returns-in_default-carry_out-clause-numbers : goal.returns-in_default-carry_out-clause-numbers
returns-in_default-carry_out-clause-numbers g c =
    let n = c.args.self.now in
    let l = node_log n in
    let refused = c.refuse_all-in_default-carry_out.ensures in
    let posts = c.refuse_all-in_default-carry_out.new.posts in
    still_numbers n.numbers c.refuse_all-in_default-carry_out.new.numbers l (group_entries posts) (ap (changing l) refused.refused ∙ refused_still None l posts) refused.entries refused.changing refused.refusals

pub returns-in_default-carry_out-clause-follows : goal.returns-in_default-carry_out-clause-follows
returns-in_default-carry_out-clause-follows g c kept was =
    let n = c.args.self.now in
    let none = none_given _ c.in_default.not-Some in
    let refused = c.refuse_all-in_default-carry_out.ensures in
    let posts = c.refuse_all-in_default-carry_out.new.posts in
    let disks = ahead_disks c.carry_out.new.self in
    subst (λ (l : Log). FollowGroups false l (group_entries posts ∷ []) (node_disks n) disks) (sym (log_same (node_state n) (ahead_state n.ahead) n.stopped (n.same none) none))
    (subst (λ (es : List Entry). FollowGroups false (log_of (ahead_state n.ahead) None) (es ∷ []) (node_disks n) disks) (sym (refused.refused ∙ asked_same None posts c.carry_out.new.posts refused.asked))
    (c.in_default-carry_out.ensures.fails (n.unstaged none) (subst (λ (s : State). HoldsState (node_journal n) (node_last n) s) (n.same none) kept)))

pub returns-in_default-carry_out-clause-failed : goal.returns-in_default-carry_out-clause-failed
returns-in_default-carry_out-clause-failed g c was m is =
    let fault = c.carry_out.ensures.account.cause c.in_default-carry_out.ensures.failed in
    let refused = c.refuse_all-in_default-carry_out.ensures in
    let posts = c.refuse_all-in_default-carry_out.new.posts in (
      subst (λ (k : ℕ). OneFault (node_disks c.args.self.now) (ahead_disks c.carry_out.new.self) k) (sym c.faults.ensures ∙ same_count m c.faults.result (Some c.faults.result) refl is) fault,
      refl,
      ap has_fault refused.refused ∙ faults_fail posts (some_asked posts c.args.posts.now (refused.asked ∙ c.carry_out.ensures.asked) c.requires.some),
    )

-- ---- where they were made safe

pub returns-clause-step : goal.returns-clause-step
returns-clause-step g c =
    let n = c.args.self.now in
    let none = none_given _ c.in_default.not-Some in
    let s = engine_state c.of.result.value in
    let b = ahead_state c.carry_out.new.self in
    step_same (node_log n) (log_of (ahead_state n.ahead) None) (log_of s n.stopped) (log_of b None) (group_entries c.carry_out.new.posts)
    (log_same (node_state n) (ahead_state n.ahead) n.stopped (n.same none) none) (log_same s b n.stopped (ap engine_state c.of.ensures) none) c.in-Ok.ensures.run.step

pub returns-clause-spares : goal.returns-clause-spares
returns-clause-spares g c =
    let n = c.args.self.now in
    let none = none_given _ c.in_default.not-Some in
    subst (λ (l : Log). SparesFrom is_spared l (group_entries c.carry_out.new.posts)) (sym (log_same (node_state n) (ahead_state n.ahead) n.stopped (n.same none) none)) c.in-Ok.ensures.free

pub returns-clause-numbers : goal.returns-clause-numbers
returns-clause-numbers g c =
    let n = c.args.self.now in
    let none = none_given _ c.in_default.not-Some in
    let es = group_entries c.carry_out.new.posts in
    let all = c.in-Ok.ensures.count (n.unstaged none) ∙ ap (λ (l : Log). raised 0 (length (changing l es))) (sym (log_same (node_state n) (ahead_state n.ahead) n.stopped (n.same none) none)) in
    made_numbers n.numbers c.count_sealed.new.numbers c.count_posts.new.numbers (node_log n) es (c.count_sealed.ensures (length (changing (node_log n) es)) all) c.count_posts.ensures.entries c.count_posts.ensures.changing c.count_posts.ensures.refused

pub returns-clause-kept : goal.returns-clause-kept
returns-clause-kept g c kept runs =
    let n = c.args.self.now in
    let none = none_given _ c.in_default.not-Some in
    let b = c.carry_out.new.self in
    subst (λ (s : State). HoldsState (ahead_journal b) (ahead_last b) s) (sym (ap engine_state c.of.ensures))
    (c.in-Ok.ensures.kept (n.unstaged none) (subst (λ (s : State). HoldsState (node_journal n) (node_last n) s) (n.same none) kept))

pub returns-clause-follows : goal.returns-clause-follows
returns-clause-follows g c kept was =
    let n = c.args.self.now in
    let none = none_given _ c.in_default.not-Some in
    subst (λ (l : Log). FollowGroups false l (group_entries c.carry_out.new.posts ∷ []) (node_disks n) (ahead_disks c.carry_out.new.self)) (sym (log_same (node_state n) (ahead_state n.ahead) n.stopped (n.same none) none))
    (c.in-Ok.ensures.follows (n.unstaged none) (subst (λ (s : State). HoldsState (node_journal n) (node_last n) s) (n.same none) kept))
