use Rattle.std.proofs.Common.{◌∙◌, refl, sym, ap, subst}
use Rattle.sb_journal.specs.declared.found.Side.{Side}
use Rattle.sb_journal.specs.Disks.{Disks, disks_of, opened_on, AreHonest, KeepFound, SameHonesty}
use Rattle.sb_journal.specs.Opened.{Stands, judged_file}
use Rattle.sb_journal.specs.Unopened.{unopened_disks}
use Rattle.sb_journal.specs.Journals.{has_failed, journal_disks, journal_side, fault_disks}
use Rattle.sb_journal.proofs.Pairs.{still_honest, fault_on, opening_stays_pair, opening_finishes_pair}
use Rattle.sb_engine.specs.Engines.{engine_state}
use Rattle.sb_machine.specs.Consistent.{IsConsistent}
use Rattle.sb_machine.specs.declared.state.State.{State}
use Rattle.sb_node.specs.Ahead.{ahead_journal, ahead_last}
use Rattle.sb_node.specs.Nodes.{HoldsState}
use Rattle.sb_node.specs.Recovery.{reaches, recovers, IsReplayed}
use Rattle.sb_node.proofs.Crashes.{kept_leads}
use Rattle.sb_node.proofs.Keeping.{last_number, same_kept}
use Rattle.sb_node.proofs.Reaching.{judged_consistent, judged_last, judged_recovers, judged_damaged}
use Rattle.sb_node.proofs.Standing.{begins, were_honest_first}
use Rattle.sb_node.proofs.node.Node.open.Goals as goal

pub returns-in-Ok-finish-clause-found : goal.returns-in-Ok-finish-clause-found
returns-in-Ok-finish-clause-found g c honest =
    let was = disks_of g.D.Disk c.args.disk_a c.args.disk_b in
    let j = c.in-Ok.read.1 in
    let is = c.in-Ok.ensures.ok in
    let s = engine_state c.reached_by-engine.result.engine in
    let leads : IsReplayed s j.salt is.base is.payloads = λ place. is.taken place ∙ ap (λ e. reaches (engine_state e)) (sym c.reached_by-engine.ensures.engine) in
    (c.reached_by-engine.result.last, judged_recovers _ _ (opened_on was c.args.salt) j is s leads c.reached_by-engine.result.last c.reached_by-engine.ensures.last honest ∙ ap (λ (x : State). recovers x c.reached_by-engine.result.last) (sym (ap engine_state c.of-sealed.ensures)))

pub over-ahead-requires : goal.over-ahead-requires
over-ahead-requires g c =
    let was = disks_of g.D.Disk c.args.disk_a c.args.disk_b in
    let j = c.in-Ok.read.1 in
    let is = c.in-Ok.ensures.ok in
    let s = engine_state c.reached_by-engine.result.engine in
    let leads : IsReplayed s j.salt is.base is.payloads = λ place. is.taken place ∙ ap (λ e. reaches (engine_state e)) (sym c.reached_by-engine.ensures.engine) in
    judged_consistent _ _ (opened_on was c.args.salt) j is s leads

pub returns-in-Ok-finish-clause-consistent : goal.returns-in-Ok-finish-clause-consistent
returns-in-Ok-finish-clause-consistent g c =
    let was = disks_of g.D.Disk c.args.disk_a c.args.disk_b in
    let j = c.in-Ok.read.1 in
    let is = c.in-Ok.ensures.ok in
    let s = engine_state c.reached_by-engine.result.engine in
    let leads : IsReplayed s j.salt is.base is.payloads = λ place. is.taken place ∙ ap (λ e. reaches (engine_state e)) (sym c.reached_by-engine.ensures.engine) in
    subst IsConsistent (sym (ap engine_state c.of-sealed.ensures)) (judged_consistent _ _ (opened_on was c.args.salt) j is s leads)

pub returns-in-Ok-finish-clause-kept : goal.returns-in-Ok-finish-clause-kept
returns-in-Ok-finish-clause-kept g c honest =
    let was = disks_of g.D.Disk c.args.disk_a c.args.disk_b in
    let is = c.in-Ok.ensures.ok in
    let file = judged_file c.in-Ok.read.1 is.base is.payloads in
    let s = engine_state c.reached_by-engine.result.engine in
    let leads : IsReplayed s c.in-Ok.read.1.salt is.base is.payloads = λ place. is.taken place ∙ ap (λ e. reaches (engine_state e)) (sym c.reached_by-engine.ensures.engine) in
    let honest_1 = still_honest was (unopened_disks c.in-Ok.read.0) c.in-Ok.ensures.honesty honest in
    let holds = c.in-Ok-finish.ensures.ok c.in-Ok.read.1.disk file honest_1 (c.in-Ok.ensures.stands honest ∙ is.stands honest) in
    let j = c.in-Ok-finish.journal in
    let kept : HoldsState j c.reached_by-engine.result.last s = record {
      file = file;
      holds = holds;
      leads = leads _;
      number = last_number j file c.reached_by-engine.result.last holds (judged_last _ _ (opened_on was c.args.salt) c.in-Ok.read.1 is s leads c.reached_by-engine.result.last c.reached_by-engine.ensures.last (is.within honest));
    } in
    same_kept j (ahead_journal c.over-ahead.result) c.reached_by-engine.result.last (ahead_last c.over-ahead.result) s (engine_state c.of-sealed.result.value) kept (c.over-ahead.ensures.journal ∙ c.over-recorder.ensures) c.over-ahead.ensures.last (ap engine_state c.of-sealed.ensures)

pub returns-in-Ok-finish-clause-durable : goal.returns-in-Ok-finish-clause-durable
returns-in-Ok-finish-clause-durable g c honest x y on_x on_y =
    kept_leads (ahead_journal c.over-ahead.result) _ (engine_state c.of-sealed.result.value) (returns-in-Ok-finish-clause-kept g c honest) x y on_x on_y

pub returns-in-Ok-finish-clause-any_moment : goal.returns-in-Ok-finish-clause-any_moment
returns-in-Ok-finish-clause-any_moment g c honest =
    let was = disks_of g.D.Disk c.args.disk_a c.args.disk_b in
    let mid = unopened_disks c.in-Ok.read.0 in
    let honest_1 = still_honest was mid c.in-Ok.ensures.honesty honest in
    subst (λ j. KeepFound c.args.salt was (journal_disks j)) (sym (c.over-ahead.ensures.journal ∙ c.over-recorder.ensures))
    (opening_finishes_pair c.args.salt _ was mid (journal_disks c.in-Ok-finish.journal) c.in-Ok.ensures.salt (c.in-Ok.ensures.synced honest) (c.in-Ok-finish.ensures.any_moment _ _ honest_1 (c.in-Ok.ensures.stands honest ∙ c.in-Ok.ensures.ok.stands honest)))

pub returns-in-Ok-finish-clause-counts : goal.returns-in-Ok-finish-clause-counts
returns-in-Ok-finish-clause-counts g c honest =
    let is = c.in-Ok.ensures.ok in
    let file = judged_file c.in-Ok.read.1 is.base is.payloads in
    (file, is.stands honest ∙ ap (λ (s : Side). Stands s file) (c.in-Ok.ensures.side ∙ sym c.in-Ok-finish.ensures.side ∙ ap (λ j. journal_side j) (sym (c.over-ahead.ensures.journal ∙ c.over-recorder.ensures))))

pub returns-in-Err-finish-clause-any_moment : goal.returns-in-Err-finish-clause-any_moment
returns-in-Err-finish-clause-any_moment g c honest =
    let was = disks_of g.D.Disk c.args.disk_a c.args.disk_b in
    let mid = unopened_disks c.in-Ok.read.0 in
    let honest_1 = still_honest was mid c.in-Ok.ensures.honesty honest in
    opening_finishes_pair c.args.salt _ was mid (fault_disks g.D.Disk c.in-Err-finish.fault) c.in-Ok.ensures.salt (c.in-Ok.ensures.synced honest) (c.in-Err-finish.ensures.any_moment _ _ honest_1 (c.in-Ok.ensures.stands honest ∙ c.in-Ok.ensures.ok.stands honest))

pub returns-in-Err-finish-clause-cause : goal.returns-in-Err-finish-clause-cause
returns-in-Err-finish-clause-cause g c failed =
    fault_on (disks_of g.D.Disk c.args.disk_a c.args.disk_b) (unopened_disks c.in-Ok.read.0) (fault_disks g.D.Disk c.in-Err-finish.fault) c.in-Ok.ensures.quiet c.in-Err-finish.ensures.cause

pub returns-in-Err-clause-any_moment : goal.returns-in-Err-clause-any_moment
returns-in-Err-clause-any_moment g c honest =
    opening_stays_pair c.args.salt (disks_of g.D.Disk c.args.disk_a c.args.disk_b) (fault_disks g.D.Disk c.in-Err.fault) (c.in-Err.ensures.untouched honest)

pub returns-in_default-clause-any_moment : goal.returns-in_default-clause-any_moment
returns-in_default-clause-any_moment g c honest =
    let was = disks_of g.D.Disk c.args.disk_a c.args.disk_b in
    subst (λ (d : Disks). KeepFound c.args.salt was d) (sym c.given_up.ensures.disks) (opening_stays_pair c.args.salt was (unopened_disks c.in-Ok.read.0) (c.in-Ok.ensures.untouched honest))

pub returns-in-Err-clause-broken : goal.returns-in-Err-clause-broken
returns-in-Err-clause-broken g c honest side place is =
    let was = disks_of g.D.Disk c.args.disk_a c.args.disk_b in
    judged_damaged _ (opened_on was c.args.salt) side place (c.in-Err.ensures.damaged honest side place is).0 (λ salt base refused. refused) (λ salt base before p refused. refused)

pub invariant_of-result : goal.invariant_of-result
invariant_of-result g c =
    let was = disks_of g.D.Disk c.args.disk_a c.args.disk_b in
    let j = c.in-Ok.read.1 in
    let is = c.in-Ok.ensures.ok in
    let s = engine_state c.reached_by-engine.result.engine in
    let leads : IsReplayed s j.salt is.base is.payloads = λ place. is.taken place ∙ ap (λ e. reaches (engine_state e)) (sym c.reached_by-engine.ensures.engine) in
    record {
      runs = λ none. ap (λ j. has_failed j) (c.over-ahead.ensures.journal ∙ c.over-recorder.ensures) ∙ c.in-Ok-finish.ensures.running;
      unstaged = λ none. c.over-ahead.ensures.staged;
      same = λ none. ap engine_state c.of-sealed.ensures ∙ sym c.over-ahead.ensures.state;
      consistent = ∣ subst IsConsistent (sym (ap engine_state c.of-sealed.ensures)) (judged_consistent _ _ (opened_on was c.args.salt) j is s leads) ∣₁;
    }

pub returns-in-Ok-finish-clause-stands : goal.returns-in-Ok-finish-clause-stands
returns-in-Ok-finish-clause-stands g c =
    let was = disks_of g.D.Disk c.args.disk_a c.args.disk_b in
    let mid = unopened_disks c.in-Ok.read.0 in
    let later = journal_disks (ahead_journal c.over-ahead.result) in
    let honesty : SameHonesty mid later = subst (λ j. SameHonesty mid (journal_disks j)) (sym (c.over-ahead.ensures.journal ∙ c.over-recorder.ensures)) c.in-Ok-finish.ensures.honesty in
    let were : AreHonest later → AreHonest was = were_honest_first was mid later c.in-Ok.ensures.honesty honesty in
    begins _ (returns-in-Ok-finish-clause-consistent g c) refl c.no_numbers.ensures.0 c.no_numbers.ensures.1 c.no_numbers.ensures.2 (ap (λ j. journal_disks j) (c.of-opened.ensures ∙ sym (c.over-ahead.ensures.journal ∙ c.over-recorder.ensures)))
    (λ honest. returns-in-Ok-finish-clause-kept g c (were honest)) (λ honest. returns-in-Ok-finish-clause-durable g c (were honest))

pub returns-in-Ok-finish-clause-origin : goal.returns-in-Ok-finish-clause-origin
returns-in-Ok-finish-clause-origin g c = ap (λ j. journal_disks j) (c.of-opened.ensures ∙ sym (c.over-ahead.ensures.journal ∙ c.over-recorder.ensures))
