use Rattle.std.proofs.Common.{◌≡◌, [], ◌∷◌, ◌+◌, true, false, length, sym, subst}
use Rattle.sb_engine.specs.Engines.{engine_state}
use Rattle.sb_journal.specs.Journals.{has_failed, journal_disks, journal_side}
use Rattle.sb_journal.specs.Text.{may_go_on}
use Rattle.sb_machine.specs.declared.state.State.{State}
use Rattle.sb_recorder.specs.Recorders.{recorder_journal, HasTurned}
use Rattle.sb_snapshot.specs.Base.{base_of}
use Rattle.sb_node.specs.Nodes.{node_disks, node_journal, node_last, node_state, HoldsState, TurnOneOf}
use Rattle.sb_node.proofs.Crashes.{kept_leads}
use Rattle.sb_node.proofs.Keeping.{none_given}
use Rattle.sb_node.proofs.Turning.{surely_consistent, turn_none, turn_now, turned_events}
use Rattle.sb_node.proofs.node.Node.checkpoint.Goals as goal

pub returns-in-Some-clause-any_moment : goal.returns-in-Some-clause-any_moment
returns-in-Some-clause-any_moment g c kept = turn_none (node_journal c.args.self.now) (node_last c.args.self.now) (node_state c.args.self.now) kept

pub returns-in-Some-clause-durable : goal.returns-in-Some-clause-durable
returns-in-Some-clause-durable g c kept = kept_leads (node_journal c.args.self.now) (node_last c.args.self.now) (node_state c.args.self.now) kept

pub go_on-requires : goal.go_on-requires
go_on-requires g c = record {
  running = c.args.self.now.runs (none_given _ c.in_default.not-Some);
  consistent = surely_consistent (engine_state c.args.self.now.ahead.engine) c.args.self.now.ahead.consistent;
}

-- ---- once the journal goes on, or doesn't

pub returns-in-Ok-clause-any_moment : goal.returns-in-Ok-clause-any_moment
returns-in-Ok-clause-any_moment g c =
    let n = c.args.self.now in
    let j = recorder_journal c.go_on.new.recorder in
    subst (λ (s : State). HoldsState (node_journal n) (node_last n) s → TurnOneOf (journal_side (node_journal n)) (node_disks n) (journal_disks j) (s ∷ [])) (sym (n.same (none_given _ c.in_default.not-Some))) c.go_on.ensures.any_moment

pub returns-in-Err-Memory-clause-any_moment : goal.returns-in-Err-Memory-clause-any_moment
returns-in-Err-Memory-clause-any_moment g c =
    let n = c.args.self.now in
    let j = recorder_journal c.go_on.new.recorder in
    subst (λ (s : State). HoldsState (node_journal n) (node_last n) s → TurnOneOf (journal_side (node_journal n)) (node_disks n) (journal_disks j) (s ∷ [])) (sym (n.same (none_given _ c.in_default.not-Some))) c.go_on.ensures.any_moment

pub returns-in-Err-Refused-clause-any_moment : goal.returns-in-Err-Refused-clause-any_moment
returns-in-Err-Refused-clause-any_moment g c =
    let n = c.args.self.now in
    let j = recorder_journal c.go_on.new.recorder in
    subst (λ (s : State). HoldsState (node_journal n) (node_last n) s → TurnOneOf (journal_side (node_journal n)) (node_disks n) (journal_disks j) (s ∷ [])) (sym (n.same (none_given _ c.in_default.not-Some))) c.go_on.ensures.any_moment

pub returns-in-Ok-clause-kept : goal.returns-in-Ok-clause-kept
returns-in-Ok-clause-kept g c kept runs =
    let n = c.args.self.now in
    let j = recorder_journal c.go_on.new.recorder in
    subst (λ (s : State). HoldsState (node_journal n) (node_last n) s → has_failed j ≡ false → HoldsState j (node_last n) s) (sym (n.same (none_given _ c.in_default.not-Some))) c.go_on.ensures.kept kept c.in-Ok.ensures.failed

pub returns-in-Err-Memory-clause-kept : goal.returns-in-Err-Memory-clause-kept
returns-in-Err-Memory-clause-kept g c kept runs =
    let n = c.args.self.now in
    let j = recorder_journal c.go_on.new.recorder in
    subst (λ (s : State). HoldsState (node_journal n) (node_last n) s → has_failed j ≡ false → HoldsState j (node_last n) s) (sym (n.same (none_given _ c.in_default.not-Some))) c.go_on.ensures.kept kept (rw c.in-Err-Memory.field-0-is at c.in-Err-Memory.ensures.failed)

pub returns-in-Ok-clause-turned : goal.returns-in-Ok-clause-turned
returns-in-Ok-clause-turned g c file holds =
    let n = c.args.self.now in
    subst (λ (s : State). c.in-Ok.turned ≡ true → HasTurned file (node_journal n) (recorder_journal c.go_on.new.recorder) (node_last n + 1) (base_of s)) (sym (n.same (none_given _ c.in_default.not-Some))) (c.in-Ok.ensures.turned file holds)

pub returns-in-Ok-clause-may : goal.returns-in-Ok-clause-may
returns-in-Ok-clause-may g c file holds =
    let n = c.args.self.now in
    subst (λ (s : State). c.in-Ok.turned ≡ may_go_on file.generation (file.first + length file.payloads) (node_last n + 1) (length (base_of s))) (sym (n.same (none_given _ c.in_default.not-Some))) (c.in-Ok.ensures.may file holds)

pub returns-in-Ok-clause-events : goal.returns-in-Ok-clause-events
returns-in-Ok-clause-events g c kept so salt =
    turned_events kept.file (node_journal c.args.self.now) (recorder_journal c.go_on.new.recorder) (node_last c.args.self.now + 1) salt (base_of (node_state c.args.self.now)) (returns-in-Ok-clause-turned g c kept.file kept.holds so)

pub returns-in-Ok-clause-durable : goal.returns-in-Ok-clause-durable
returns-in-Ok-clause-durable g c kept = turn_now (node_journal c.args.self.now) (recorder_journal c.go_on.new.recorder) (node_state c.args.self.now) (returns-in-Ok-clause-any_moment g c kept)

pub returns-in-Err-Memory-clause-durable : goal.returns-in-Err-Memory-clause-durable
returns-in-Err-Memory-clause-durable g c kept = turn_now (node_journal c.args.self.now) (recorder_journal c.go_on.new.recorder) (node_state c.args.self.now) (returns-in-Err-Memory-clause-any_moment g c kept)

pub returns-in-Err-Refused-clause-durable : goal.returns-in-Err-Refused-clause-durable
returns-in-Err-Refused-clause-durable g c kept = turn_now (node_journal c.args.self.now) (recorder_journal c.go_on.new.recorder) (node_state c.args.self.now) (returns-in-Err-Refused-clause-any_moment g c kept)
