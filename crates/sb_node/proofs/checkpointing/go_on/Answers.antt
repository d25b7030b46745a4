use Rattle.std.proofs.Common.{rules, ◌≡◌, ◌+◌, [], length, ℕ, Bool, sym, ◌∙◌, ap, subst}
use Rattle.sb_engine.specs.Engines.{engine_state}
use Rattle.sb_machine.specs.declared.state.State.{State}
use Rattle.sb_snapshot.specs.Base.{base_of, IsSpellable}
use Rattle.sb_snapshot.proofs.Asked.{state_written}
use Rattle.sb_checkpoint.specs.Counts.{IsCount}
use Rattle.sb_checkpoint.specs.Stores.{held_state}
use Rattle.sb_journal.specs.Journals.{has_failed}
use Rattle.sb_recorder.specs.Recorders.{begun_at, recorder_journal, HasBase, HasTurned}
use Rattle.sb_recorder.proofs.Beside.{no_account}
use Rattle.sb_node.proofs.Turning.{fails_same, left_kept, left_moments, next_may, same_moments, still_moments, turn_moments, turn_none, turned_kept}
use Rattle.sb_node.proofs.checkpointing.go_on.Goals as goal

pub base_length-requires : goal.base_length-requires
base_length-requires g c = subst IsSpellable (sym c.held_by-held.ensures) (state_written (engine_state c.args.engine.now) c.requires.consistent)

-- ---- where nothing is begun

pub returns-in_default-clause-any_moment : goal.returns-in_default-clause-any_moment
returns-in_default-clause-any_moment g c kept = turn_none (recorder_journal c.args.recorder.now) c.args.last (engine_state c.args.engine.now) kept

pub returns-in_default-clause-account : goal.returns-in_default-clause-account
returns-in_default-clause-account g c = no_account (recorder_journal c.args.recorder.now) c.requires.running

pub returns-in_default-counted-clause-any_moment : goal.returns-in_default-counted-clause-any_moment
returns-in_default-counted-clause-any_moment g c kept = turn_none (recorder_journal c.args.recorder.now) c.args.last (engine_state c.args.engine.now) kept

-- ---- where a file may not be, or isn't begun

pub returns-in-Ok-false-clause-may : goal.returns-in-Ok-false-clause-may
returns-in-Ok-false-clause-may g c file held =
    let s = engine_state c.args.engine.now in
    let first_is : c.in-Some-checked_add.first ≡ c.args.last + 1 = search rules in
    let total_is : c.in-Some.total ≡ length (base_of s) = subst (λ o. IsCount o (length (base_of (held_state c.held_by-held.result)))) c.in-Some.is c.in-Ok.ensures ∙ ap (λ (x : State). length (base_of x)) c.held_by-held.ensures in
    sym c.in-Ok-false.field-0-test ∙ next_may file.generation (file.first + length file.payloads) c.in-Some-checked_add.first c.args.last c.in-Some.total (length (base_of s)) c.in-Ok-false.field-0 first_is total_is (c.in-Ok-false.ensures.may file held)

pub returns-in-Ok-false-clause-any_moment : goal.returns-in-Ok-false-clause-any_moment
returns-in-Ok-false-clause-any_moment g c kept =
    same_moments (recorder_journal c.args.recorder.now) (recorder_journal c.start.new.self) c.args.last (engine_state c.args.engine.now) (c.in-Ok-false.ensures.nothing c.in-Ok-false.field-0-test) kept

pub returns-in-Err-clause-any_moment : goal.returns-in-Err-clause-any_moment
returns-in-Err-clause-any_moment g c kept =
    let was = recorder_journal c.args.recorder.now in
    still_moments was (recorder_journal c.start.new.self) c.args.last c.in-Some-checked_add.first (engine_state c.args.engine.now) kept (c.in-Err.ensures.stays.beside.counts kept.file kept.holds)

-- ---- where its base is written

pub write_whole-requires-clause-spellable : goal.write_whole-requires-clause-spellable
write_whole-requires-clause-spellable g c = subst IsSpellable (sym c.held_by-held.ensures) (state_written (engine_state c.args.engine.now) c.requires.consistent)

pub write_whole-requires-clause-empty : goal.write_whole-requires-clause-empty
write_whole-requires-clause-empty g c =
    subst (λ b. HasBase c.start.new.self b []) (sym c.start.ensures.since) (c.in-Ok-true.ensures.has c.in-Ok-true.field-0-test).1

pub returns-in-Ok-write_whole-clause-kept : goal.returns-in-Ok-write_whole-clause-kept
returns-in-Ok-write_whole-clause-kept g c kept running =
    let was = recorder_journal c.args.recorder.now in
    let first = c.in-Some-checked_add.first in
    let first_is : first ≡ c.args.last + 1 = search rules in
    let s = engine_state c.args.engine.now in
    let turns = c.in-Ok-write_whole.ensures.turns s (begun_at was first c.in-Some.total) kept.file c.held_by-held.ensures c.start.ensures.since kept.holds in
    turned_kept was (recorder_journal c.write_whole.new.recorder) c.args.last first s kept first_is c.requires.consistent turns.1.0 turns.0

pub returns-in-Ok-write_whole-clause-turned : goal.returns-in-Ok-write_whole-clause-turned
returns-in-Ok-write_whole-clause-turned g c file held so =
    let was = recorder_journal c.args.recorder.now in
    let first = c.in-Some-checked_add.first in
    let first_is : first ≡ c.args.last + 1 = search rules in
    let s = engine_state c.args.engine.now in
    let turns = c.in-Ok-write_whole.ensures.turns s (begun_at was first c.in-Some.total) file c.held_by-held.ensures c.start.ensures.since held in
    subst (λ (n : ℕ). HasTurned file was (recorder_journal c.write_whole.new.recorder) n (base_of s)) first_is turns.0

pub returns-in-Ok-write_whole-clause-may : goal.returns-in-Ok-write_whole-clause-may
returns-in-Ok-write_whole-clause-may g c file held =
    let s = engine_state c.args.engine.now in
    let first_is : c.in-Some-checked_add.first ≡ c.args.last + 1 = search rules in
    let total_is : c.in-Some.total ≡ length (base_of s) = subst (λ o. IsCount o (length (base_of (held_state c.held_by-held.result)))) c.in-Some.is c.in-Ok.ensures ∙ ap (λ (x : State). length (base_of x)) c.held_by-held.ensures in
    sym c.in-Ok-true.field-0-test ∙ next_may file.generation (file.first + length file.payloads) c.in-Some-checked_add.first c.args.last c.in-Some.total (length (base_of s)) c.in-Ok-true.field-0 first_is total_is (c.in-Ok-true.ensures.may file held)

pub returns-in-Ok-write_whole-clause-any_moment : goal.returns-in-Ok-write_whole-clause-any_moment
returns-in-Ok-write_whole-clause-any_moment g c kept =
    let was = recorder_journal c.args.recorder.now in
    let first = c.in-Some-checked_add.first in
    let s = engine_state c.args.engine.now in
    let turns = c.in-Ok-write_whole.ensures.turns s (begun_at was first c.in-Some.total) kept.file c.held_by-held.ensures c.start.ensures.since kept.holds in
    turn_moments was (recorder_journal c.write_whole.new.recorder) c.args.last first s kept c.requires.consistent turns.1

pub returns-in-Ok-write_whole-clause-account : goal.returns-in-Ok-write_whole-clause-account
returns-in-Ok-write_whole-clause-account g c = c.write_whole.ensures.account (begun_at (recorder_journal c.args.recorder.now) c.in-Some-checked_add.first c.in-Some.total) c.start.ensures.since

pub returns-in-Err-write_whole-clause-kept : goal.returns-in-Err-write_whole-clause-kept
returns-in-Err-write_whole-clause-kept g c kept running =
    let was = recorder_journal c.args.recorder.now in
    let first = c.in-Some-checked_add.first in
    let s = engine_state c.args.engine.now in
    let turns = c.in-Err-write_whole.ensures.turns s (begun_at was first c.in-Some.total) kept.file c.held_by-held.ensures c.start.ensures.since kept.holds in
    left_kept was (recorder_journal c.write_whole.new.recorder) c.args.last first s kept c.in-Err-write_whole.unput turns c.in-Err-write_whole.ensures.failed running

pub returns-in-Err-write_whole-clause-any_moment : goal.returns-in-Err-write_whole-clause-any_moment
returns-in-Err-write_whole-clause-any_moment g c kept =
    let was = recorder_journal c.args.recorder.now in
    let first = c.in-Some-checked_add.first in
    let s = engine_state c.args.engine.now in
    let turns = c.in-Err-write_whole.ensures.turns s (begun_at was first c.in-Some.total) kept.file c.held_by-held.ensures c.start.ensures.since kept.holds in
    left_moments was (recorder_journal c.write_whole.new.recorder) c.args.last first s kept c.requires.consistent c.in-Err-write_whole.unput turns

pub returns-in-Err-write_whole-clause-account : goal.returns-in-Err-write_whole-clause-account
returns-in-Err-write_whole-clause-account g c = c.write_whole.ensures.account (begun_at (recorder_journal c.args.recorder.now) c.in-Some-checked_add.first c.in-Some.total) c.start.ensures.since

pub returns-in-Err-write_whole-clause-failed : goal.returns-in-Err-write_whole-clause-failed
returns-in-Err-write_whole-clause-failed g c = fails_same (Unit {0}) Bool (has_failed (recorder_journal c.write_whole.new.recorder)) c.in-Err-write_whole.unput c.in-Err-write_whole.ensures.failed
