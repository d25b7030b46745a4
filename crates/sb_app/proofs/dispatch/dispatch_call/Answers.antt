use Rattle.std.proofs.Common.{◌≢◌, sym}
use Rattle.sb_journal.specs.Disks.{AreQuiet}
use Rattle.sb_node.specs.Nodes.{node_state, node_stopped, node_ticked, node_disks}
use Rattle.sb_app.specs.Outside.{output_of}
use Rattle.sb_app.specs.declared.script_line.ScriptLine.TheVariants.{Request}
use Rattle.sb_app.specs.declared.dispatch.AnswerKind.TheVariants.{Accepted, Refused, Wanting}
use Rattle.sb_app.specs.declared.ending.RunEnd.{RunEnd}
use Rattle.sb_app.specs.declared.ending.RunEnd.TheVariants.{DiskFault}
use Rattle.sb_app.specs.Runs.{states_left}
use Rattle.sb_app.proofs.Steps.{accepted_answer, refused_answer, stepped, answered_call, called_left, called_moments, failed_left, still_runs_wanting, wanting_left}
use Rattle.sb_app.proofs.Cuts.{step_at, not_failed, failed_answer, wanting_answer, disk_cut, memory_cut, reply_cut_at}
use Rattle.sb_input.proofs.Errors.{passed_on}
use Rattle.sb_app.proofs.Faults.{present_one}
use Rattle.sb_app.proofs.dispatch.dispatch_call.Goals as goal

pub returns-in_ok-write_answer-in-Accepted-clause-done : goal.returns-in_ok-write_answer-in-Accepted-clause-done
returns-in_ok-write_answer-in-Accepted-clause-done g c =
    let kind = accepted_answer c.step-answer.result (sym c.in-Accepted.ensures) in
    let step = stepped (node_state c.args.node.now) _ (node_stopped c.args.node.now) (node_stopped c.step-answer.new.self) (node_ticked c.step-answer.new.self) c.args.asked.now.reading c.args.asked.now.call c.step-answer.result c.requires.consistent c.requires.running c.step-answer.ensures.ticked (c.step-answer.ensures.step 0) kind.0 in
    answered_call (node_state c.args.node.now) _ c.args.asked.now c.args.form c.step-answer.result (node_stopped c.step-answer.new.self) (output_of g.K.Sink c.args.output.now) (output_of g.K.Sink c.write_answer.new.output) _ step c.in_ok-write_answer-in-Accepted.ensures.ok kind.1

pub returns-in_ok-write_answer-in-Accepted-clause-running : goal.returns-in_ok-write_answer-in-Accepted-clause-running
returns-in_ok-write_answer-in-Accepted-clause-running g c =
    let kind = accepted_answer c.step-answer.result (sym c.in-Accepted.ensures) in
    (stepped (node_state c.args.node.now) _ (node_stopped c.args.node.now) (node_stopped c.step-answer.new.self) (node_ticked c.step-answer.new.self) c.args.asked.now.reading c.args.asked.now.call c.step-answer.result c.requires.consistent c.requires.running c.step-answer.ensures.ticked (c.step-answer.ensures.step 0) kind.0).runs

pub returns-in_ok-write_answer-in-Accepted-clause-kept : goal.returns-in_ok-write_answer-in-Accepted-clause-kept
returns-in_ok-write_answer-in-Accepted-clause-kept g c safe sound =
    let kind = accepted_answer c.step-answer.result (sym c.in-Accepted.ensures) in
    let step = stepped (node_state c.args.node.now) _ (node_stopped c.args.node.now) (node_stopped c.step-answer.new.self) (node_ticked c.step-answer.new.self) c.args.asked.now.reading c.args.asked.now.call c.step-answer.result c.requires.consistent c.requires.running c.step-answer.ensures.ticked (c.step-answer.ensures.step 0) kind.0 in
    c.step-answer.ensures.kept safe step.runs

pub returns-in_ok-write_answer-in-Refused-clause-done : goal.returns-in_ok-write_answer-in-Refused-clause-done
returns-in_ok-write_answer-in-Refused-clause-done g c =
    let kind = refused_answer c.step-answer.result (sym c.in-Refused.ensures) in
    let step = stepped (node_state c.args.node.now) _ (node_stopped c.args.node.now) (node_stopped c.step-answer.new.self) (node_ticked c.step-answer.new.self) c.args.asked.now.reading c.args.asked.now.call c.step-answer.result c.requires.consistent c.requires.running c.step-answer.ensures.ticked (c.step-answer.ensures.step 0) kind.0 in
    answered_call (node_state c.args.node.now) _ c.args.asked.now c.args.form c.step-answer.result (node_stopped c.step-answer.new.self) (output_of g.K.Sink c.args.output.now) (output_of g.K.Sink c.write_answer-in-Refused.new.output) _ step c.in_ok-write_answer-in-Refused.ensures.ok kind.1

pub returns-in_ok-write_answer-in-Refused-clause-running : goal.returns-in_ok-write_answer-in-Refused-clause-running
returns-in_ok-write_answer-in-Refused-clause-running g c =
    let kind = refused_answer c.step-answer.result (sym c.in-Refused.ensures) in
    (stepped (node_state c.args.node.now) _ (node_stopped c.args.node.now) (node_stopped c.step-answer.new.self) (node_ticked c.step-answer.new.self) c.args.asked.now.reading c.args.asked.now.call c.step-answer.result c.requires.consistent c.requires.running c.step-answer.ensures.ticked (c.step-answer.ensures.step 0) kind.0).runs

pub returns-in_ok-write_answer-in-Refused-clause-kept : goal.returns-in_ok-write_answer-in-Refused-clause-kept
returns-in_ok-write_answer-in-Refused-clause-kept g c safe sound =
    let kind = refused_answer c.step-answer.result (sym c.in-Refused.ensures) in
    let step = stepped (node_state c.args.node.now) _ (node_stopped c.args.node.now) (node_stopped c.step-answer.new.self) (node_ticked c.step-answer.new.self) c.args.asked.now.reading c.args.asked.now.call c.step-answer.result c.requires.consistent c.requires.running c.step-answer.ensures.ticked (c.step-answer.ensures.step 0) kind.0 in
    c.step-answer.ensures.kept safe step.runs

pub returns-in-Failed-clause-cut : goal.returns-in-Failed-clause-cut
returns-in-Failed-clause-cut g c =
    let step = step_at (node_state c.args.node.now) _ (node_stopped c.args.node.now) (node_stopped c.step-answer.new.self) (node_ticked c.step-answer.new.self) c.args.asked.now c.args.form c.step-answer.result c.requires.running c.step-answer.ensures.ticked (c.step-answer.ensures.step 0) c.step-answer.ensures.free in
    let failed = failed_answer c.step-answer.result (node_stopped c.args.node.now) c.requires.running c.step-answer.ensures.stopped (sym c.in-Failed.ensures) in
    disk_cut _ _ c.args.asked.now c.args.form (node_ticked c.step-answer.new.self) c.step-answer.result c.disk_fault_line.result.now (output_of g.K.Sink c.args.output.now) (output_of g.K.Sink c.write_final_line.new.output) failed c.disk_fault_line.ensures c.write_final_line.ensures step.0 step.1

pub returns-in-Wanting-clause-cut : goal.returns-in-Wanting-clause-cut
returns-in-Wanting-clause-cut g c =
    let step = step_at (node_state c.args.node.now) _ (node_stopped c.args.node.now) (node_stopped c.step-answer.new.self) (node_ticked c.step-answer.new.self) c.args.asked.now c.args.form c.step-answer.result c.requires.running c.step-answer.ensures.ticked (c.step-answer.ensures.step 0) c.step-answer.ensures.free in
    let wants = wanting_answer c.step-answer.result (sym c.in-Wanting.ensures) in
    memory_cut _ _ c.args.asked.now c.args.form (node_ticked c.step-answer.new.self) c.step-answer.result c.out_of_memory_line.result.now (output_of g.K.Sink c.args.output.now) (output_of g.K.Sink c.write_final_line-in-Wanting.new.output) wants c.out_of_memory_line.ensures c.write_final_line-in-Wanting.ensures step.0 step.1

pub returns-in-Wanting-clause-kept : goal.returns-in-Wanting-clause-kept
returns-in-Wanting-clause-kept g c safe sound =
    let wants = wanting_answer c.step-answer.result (sym c.in-Wanting.ensures) in
    c.step-answer.ensures.kept safe (still_runs_wanting _ _ _ _ _ _ _ _ c.requires.running (c.step-answer.ensures.step 0) wants)

pub returns-in_err-write_answer-in-Accepted-clause-cut : goal.returns-in_err-write_answer-in-Accepted-clause-cut
returns-in_err-write_answer-in-Accepted-clause-cut g c =
    let kind = accepted_answer c.step-answer.result (sym c.in-Accepted.ensures) in
    let step = step_at (node_state c.args.node.now) _ (node_stopped c.args.node.now) (node_stopped c.step-answer.new.self) (node_ticked c.step-answer.new.self) c.args.asked.now c.args.form c.step-answer.result c.requires.running c.step-answer.ensures.ticked (c.step-answer.ensures.step 0) c.step-answer.ensures.free in
    passed_on _ c.in_err-write_answer-in-Accepted.field-0.0 c.from_residual.result c.from_residual.ensures
    (reply_cut_at _ _ (Request c.args.asked.now c.args.form) (node_ticked c.step-answer.new.self) c.step-answer.result (output_of g.K.Sink c.args.output.now) (output_of g.K.Sink c.write_answer.new.output) _ step.0 kind.0 step.1 c.in_err-write_answer-in-Accepted.ensures.err)

pub returns-in_err-write_answer-in-Accepted-clause-kept : goal.returns-in_err-write_answer-in-Accepted-clause-kept
returns-in_err-write_answer-in-Accepted-clause-kept g c safe sound =
    let kind = accepted_answer c.step-answer.result (sym c.in-Accepted.ensures) in
    let step = stepped (node_state c.args.node.now) _ (node_stopped c.args.node.now) (node_stopped c.step-answer.new.self) (node_ticked c.step-answer.new.self) c.args.asked.now.reading c.args.asked.now.call c.step-answer.result c.requires.consistent c.requires.running c.step-answer.ensures.ticked (c.step-answer.ensures.step 0) kind.0 in
    c.step-answer.ensures.kept safe step.runs

pub returns-in_err-write_answer-in-Refused-clause-cut : goal.returns-in_err-write_answer-in-Refused-clause-cut
returns-in_err-write_answer-in-Refused-clause-cut g c =
    let kind = refused_answer c.step-answer.result (sym c.in-Refused.ensures) in
    let step = step_at (node_state c.args.node.now) _ (node_stopped c.args.node.now) (node_stopped c.step-answer.new.self) (node_ticked c.step-answer.new.self) c.args.asked.now c.args.form c.step-answer.result c.requires.running c.step-answer.ensures.ticked (c.step-answer.ensures.step 0) c.step-answer.ensures.free in
    passed_on _ c.in_err-write_answer-in-Refused.field-0.0 c.from_residual-in_err-write_answer-in-Refused.result c.from_residual-in_err-write_answer-in-Refused.ensures
    (reply_cut_at _ _ (Request c.args.asked.now c.args.form) (node_ticked c.step-answer.new.self) c.step-answer.result (output_of g.K.Sink c.args.output.now) (output_of g.K.Sink c.write_answer-in-Refused.new.output) _ step.0 kind.0 step.1 c.in_err-write_answer-in-Refused.ensures.err)

pub returns-in_err-write_answer-in-Refused-clause-kept : goal.returns-in_err-write_answer-in-Refused-clause-kept
returns-in_err-write_answer-in-Refused-clause-kept g c safe sound =
    let kind = refused_answer c.step-answer.result (sym c.in-Refused.ensures) in
    let step = stepped (node_state c.args.node.now) _ (node_stopped c.args.node.now) (node_stopped c.step-answer.new.self) (node_ticked c.step-answer.new.self) c.args.asked.now.reading c.args.asked.now.call c.step-answer.result c.requires.consistent c.requires.running c.step-answer.ensures.ticked (c.step-answer.ensures.step 0) kind.0 in
    c.step-answer.ensures.kept safe step.runs

pub returns-in-Failed-clause-disk_fault : goal.returns-in-Failed-clause-disk_fault
returns-in-Failed-clause-disk_fault g c is =
    let one = c.step-answer.ensures.disk_fault (failed_answer c.step-answer.result (node_stopped c.args.node.now) c.requires.running c.step-answer.ensures.stopped (sym c.in-Failed.ensures)) in
    (one.0, one.2)

pub returns-in-Wanting-clause-disk_quiet : goal.returns-in-Wanting-clause-disk_quiet
returns-in-Wanting-clause-disk_quiet g c other = c.step-answer.ensures.quiet (not_failed c.step-answer.result Wanting (sym c.in-Wanting.ensures) (λ e. absurd cc))

pub returns-in_err-write_answer-in-Accepted-clause-disk_quiet : goal.returns-in_err-write_answer-in-Accepted-clause-disk_quiet
returns-in_err-write_answer-in-Accepted-clause-disk_quiet g c =
    let was = node_disks c.args.node.now in
    let now = node_disks c.step-answer.new.self in
    passed_on (λ (e : RunEnd). e ≢ DiskFault → AreQuiet was now) c.in_err-write_answer-in-Accepted.field-0.0 c.from_residual.result c.from_residual.ensures
    (λ other. c.step-answer.ensures.quiet (not_failed c.step-answer.result Accepted (sym c.in-Accepted.ensures) (λ e. absurd cc)))

pub returns-in_err-write_answer-in-Refused-clause-disk_quiet : goal.returns-in_err-write_answer-in-Refused-clause-disk_quiet
returns-in_err-write_answer-in-Refused-clause-disk_quiet g c =
    let was = node_disks c.args.node.now in
    let now = node_disks c.step-answer.new.self in
    passed_on (λ (e : RunEnd). e ≢ DiskFault → AreQuiet was now) c.in_err-write_answer-in-Refused.field-0.0 c.from_residual-in_err-write_answer-in-Refused.result c.from_residual-in_err-write_answer-in-Refused.ensures
    (λ other. c.step-answer.ensures.quiet (not_failed c.step-answer.result Refused (sym c.in-Refused.ensures) (λ e. absurd cc)))

pub returns-in_ok-write_answer-in-Accepted-clause-consistent : goal.returns-in_ok-write_answer-in-Accepted-clause-consistent
returns-in_ok-write_answer-in-Accepted-clause-consistent g c = c.step-answer.ensures.consistent c.requires.consistent

pub returns-in_err-write_answer-in-Accepted-clause-consistent : goal.returns-in_err-write_answer-in-Accepted-clause-consistent
returns-in_err-write_answer-in-Accepted-clause-consistent g c = c.step-answer.ensures.consistent c.requires.consistent

pub returns-in_ok-write_answer-in-Refused-clause-consistent : goal.returns-in_ok-write_answer-in-Refused-clause-consistent
returns-in_ok-write_answer-in-Refused-clause-consistent g c = c.step-answer.ensures.consistent c.requires.consistent

pub returns-in_err-write_answer-in-Refused-clause-consistent : goal.returns-in_err-write_answer-in-Refused-clause-consistent
returns-in_err-write_answer-in-Refused-clause-consistent g c = c.step-answer.ensures.consistent c.requires.consistent

pub returns-in-Failed-clause-consistent : goal.returns-in-Failed-clause-consistent
returns-in-Failed-clause-consistent g c = c.step-answer.ensures.consistent c.requires.consistent

pub returns-in-Wanting-clause-consistent : goal.returns-in-Wanting-clause-consistent
returns-in-Wanting-clause-consistent g c = c.step-answer.ensures.consistent c.requires.consistent

pub returns-in_ok-write_answer-in-Accepted-clause-any_moment : goal.returns-in_ok-write_answer-in-Accepted-clause-any_moment
returns-in_ok-write_answer-in-Accepted-clause-any_moment g c safe =
    let kind = accepted_answer c.step-answer.result (sym c.in-Accepted.ensures) in
    let step = stepped (node_state c.args.node.now) _ (node_stopped c.args.node.now) (node_stopped c.step-answer.new.self) (node_ticked c.step-answer.new.self) c.args.asked.now.reading c.args.asked.now.call c.step-answer.result c.requires.consistent c.requires.running c.step-answer.ensures.ticked (c.step-answer.ensures.step 0) kind.0 in
    called_moments (node_state c.args.node.now) (node_state c.step-answer.new.self) c.args.asked.now c.args.form (node_disks c.args.node.now) (node_disks c.step-answer.new.self) step.leads
    (c.step-answer.ensures.any_moment safe (not_failed c.step-answer.result Accepted (sym c.in-Accepted.ensures) (λ e. absurd cc)))

pub returns-in_ok-write_answer-in-Accepted-clause-last_moments : goal.returns-in_ok-write_answer-in-Accepted-clause-last_moments
returns-in_ok-write_answer-in-Accepted-clause-last_moments g c safe =
    let kind = accepted_answer c.step-answer.result (sym c.in-Accepted.ensures) in
    let step = stepped (node_state c.args.node.now) _ (node_stopped c.args.node.now) (node_stopped c.step-answer.new.self) (node_ticked c.step-answer.new.self) c.args.asked.now.reading c.args.asked.now.call c.step-answer.result c.requires.consistent c.requires.running c.step-answer.ensures.ticked (c.step-answer.ensures.step 0) kind.0 in
    called_left (node_state c.args.node.now) (node_state c.step-answer.new.self) c.args.asked.now c.args.form (node_disks c.args.node.now) (node_disks c.step-answer.new.self) step.leads
    (c.step-answer.ensures.any_moment safe (not_failed c.step-answer.result Accepted (sym c.in-Accepted.ensures) (λ e. absurd cc)))

pub returns-in_ok-write_answer-in-Refused-clause-any_moment : goal.returns-in_ok-write_answer-in-Refused-clause-any_moment
returns-in_ok-write_answer-in-Refused-clause-any_moment g c safe =
    let kind = refused_answer c.step-answer.result (sym c.in-Refused.ensures) in
    let step = stepped (node_state c.args.node.now) _ (node_stopped c.args.node.now) (node_stopped c.step-answer.new.self) (node_ticked c.step-answer.new.self) c.args.asked.now.reading c.args.asked.now.call c.step-answer.result c.requires.consistent c.requires.running c.step-answer.ensures.ticked (c.step-answer.ensures.step 0) kind.0 in
    called_moments (node_state c.args.node.now) (node_state c.step-answer.new.self) c.args.asked.now c.args.form (node_disks c.args.node.now) (node_disks c.step-answer.new.self) step.leads
    (c.step-answer.ensures.any_moment safe (not_failed c.step-answer.result Refused (sym c.in-Refused.ensures) (λ e. absurd cc)))

pub returns-in_ok-write_answer-in-Refused-clause-last_moments : goal.returns-in_ok-write_answer-in-Refused-clause-last_moments
returns-in_ok-write_answer-in-Refused-clause-last_moments g c safe =
    let kind = refused_answer c.step-answer.result (sym c.in-Refused.ensures) in
    let step = stepped (node_state c.args.node.now) _ (node_stopped c.args.node.now) (node_stopped c.step-answer.new.self) (node_ticked c.step-answer.new.self) c.args.asked.now.reading c.args.asked.now.call c.step-answer.result c.requires.consistent c.requires.running c.step-answer.ensures.ticked (c.step-answer.ensures.step 0) kind.0 in
    called_left (node_state c.args.node.now) (node_state c.step-answer.new.self) c.args.asked.now c.args.form (node_disks c.args.node.now) (node_disks c.step-answer.new.self) step.leads
    (c.step-answer.ensures.any_moment safe (not_failed c.step-answer.result Refused (sym c.in-Refused.ensures) (λ e. absurd cc)))

pub returns-in_err-write_answer-in-Accepted-clause-last_moments : goal.returns-in_err-write_answer-in-Accepted-clause-last_moments
returns-in_err-write_answer-in-Accepted-clause-last_moments g c safe =
    let kind = accepted_answer c.step-answer.result (sym c.in-Accepted.ensures) in
    let step = stepped (node_state c.args.node.now) _ (node_stopped c.args.node.now) (node_stopped c.step-answer.new.self) (node_ticked c.step-answer.new.self) c.args.asked.now.reading c.args.asked.now.call c.step-answer.result c.requires.consistent c.requires.running c.step-answer.ensures.ticked (c.step-answer.ensures.step 0) kind.0 in
    called_left (node_state c.args.node.now) (node_state c.step-answer.new.self) c.args.asked.now c.args.form (node_disks c.args.node.now) (node_disks c.step-answer.new.self) step.leads
    (c.step-answer.ensures.any_moment safe (not_failed c.step-answer.result Accepted (sym c.in-Accepted.ensures) (λ e. absurd cc)))

pub returns-in_err-write_answer-in-Refused-clause-last_moments : goal.returns-in_err-write_answer-in-Refused-clause-last_moments
returns-in_err-write_answer-in-Refused-clause-last_moments g c safe =
    let kind = refused_answer c.step-answer.result (sym c.in-Refused.ensures) in
    let step = stepped (node_state c.args.node.now) _ (node_stopped c.args.node.now) (node_stopped c.step-answer.new.self) (node_ticked c.step-answer.new.self) c.args.asked.now.reading c.args.asked.now.call c.step-answer.result c.requires.consistent c.requires.running c.step-answer.ensures.ticked (c.step-answer.ensures.step 0) kind.0 in
    called_left (node_state c.args.node.now) (node_state c.step-answer.new.self) c.args.asked.now c.args.form (node_disks c.args.node.now) (node_disks c.step-answer.new.self) step.leads
    (c.step-answer.ensures.any_moment safe (not_failed c.step-answer.result Refused (sym c.in-Refused.ensures) (λ e. absurd cc)))

pub returns-in-Wanting-clause-last_moments : goal.returns-in-Wanting-clause-last_moments
returns-in-Wanting-clause-last_moments g c safe =
    let old = c.args.node.now in
    let new = c.step-answer.new.self in
    let wants = wanting_answer c.step-answer.result (sym c.in-Wanting.ensures) in
    wanting_left (node_state old) (node_state new) c.args.asked.now c.args.form c.step-answer.result (node_stopped old) (node_stopped new) (node_ticked new) (node_disks old) (node_disks new) c.requires.running wants c.step-answer.ensures.ticked (c.step-answer.ensures.step 0) c.step-answer.ensures.refused
    (c.step-answer.ensures.any_moment safe (not_failed c.step-answer.result Wanting (sym c.in-Wanting.ensures) (λ e. absurd cc)))

pub returns-in-Failed-clause-last_moments : goal.returns-in-Failed-clause-last_moments
returns-in-Failed-clause-last_moments g c safe =
    let old = c.args.node.now in
    let new = c.step-answer.new.self in
    let failed = failed_answer c.step-answer.result (node_stopped old) c.requires.running c.step-answer.ensures.stopped (sym c.in-Failed.ensures) in
    failed_left (node_state old) c.args.asked.now c.args.form (node_stopped old) (node_ticked new) c.step-answer.result (node_disks old) (node_disks new) failed (c.step-answer.ensures.undone failed).0 (c.step-answer.ensures.follows safe 0)

pub returns-in-Failed-clause-undecided : goal.returns-in-Failed-clause-undecided
returns-in-Failed-clause-undecided g c safe is =
    present_one (node_disks c.args.node.now) (node_disks c.step-answer.new.self) (states_left (node_state c.args.node.now) (Request c.args.asked.now c.args.form)) (returns-in-Failed-clause-last_moments g c safe)

pub returns-in_err-write_answer-in-Accepted-clause-undecided : goal.returns-in_err-write_answer-in-Accepted-clause-undecided
returns-in_err-write_answer-in-Accepted-clause-undecided g c safe is =
    present_one (node_disks c.args.node.now) (node_disks c.step-answer.new.self) (states_left (node_state c.args.node.now) (Request c.args.asked.now c.args.form)) (returns-in_err-write_answer-in-Accepted-clause-last_moments g c safe)

pub returns-in_err-write_answer-in-Refused-clause-undecided : goal.returns-in_err-write_answer-in-Refused-clause-undecided
returns-in_err-write_answer-in-Refused-clause-undecided g c safe is =
    present_one (node_disks c.args.node.now) (node_disks c.step-answer.new.self) (states_left (node_state c.args.node.now) (Request c.args.asked.now c.args.form)) (returns-in_err-write_answer-in-Refused-clause-last_moments g c safe)
