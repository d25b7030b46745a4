use Rattle.std.proofs.Common.{refl, subst}
use Rattle.sb_journal.specs.Disks.{disks_of}
use Rattle.sb_node.specs.Nodes.{node_disk_a, node_disk_b, node_disks, node_state, IsKept}
use Rattle.sb_app.specs.Outside.{input_of, output_of, outside_of}
use Rattle.sb_app.specs.Nodes.{outside_with}
use Rattle.sb_app.proofs.Whole.{closed_aside, kept_recovers, kept_durable}
use Rattle.sb_app.proofs.Carried.{IsEnded, run_over}
use Rattle.sb_app.proofs.Checkpoints.{checkpoint_run, no_two_checkpoint, unopened_checkpoint, unopened_usage}
use Rattle.sb_app.proofs.checkpointing.run_then_checkpoint.Goals as goal

pub returns-in-Err-clause-done : goal.returns-in-Err-clause-done
returns-in-Err-clause-done g c =
    let was = outside_of g.D.Disk g.S.Source g.K.Sink c.args.disk_a c.args.disk_b c.args.input.now c.args.output.now in
    let failed = c.in-Err.failed in
    let fails = c.in-Err.ensures.failed in
    unopened_checkpoint (g.C.Clock.reads c.args.clock.now) c.args.max_jump c.args.salt was (disks_of g.D.Disk failed.1 failed.2) (output_of g.K.Sink c.open_node.new.output) fails.0 failed.0 fails.1

pub returns-in-Err-clause-usage : goal.returns-in-Err-clause-usage
returns-in-Err-clause-usage g c = let fails = c.in-Err.ensures.failed in unopened_usage _ _ _ _ _ fails.0 c.in-Err.failed.0 fails.1

pub returns-clause-done : goal.returns-clause-done
returns-clause-done g c =
    let was = outside_of g.D.Disk g.S.Source g.K.Sink c.args.disk_a c.args.disk_b c.args.input.now c.args.output.now in
    let first = c.in-Ok.node in
    let last = c.run_status-ran.new.node in
    let after = c.end_run-status.new.node in
    let input = c.run_status-ran.new.input in
    let output = c.run_status-ran.new.output in
    let now = outside_with g.S.Source g.K.Sink last input output in
    let status = c.run_status-ran.result in
    let ran = c.run_status-ran.ensures in
    let ended : IsEnded (g.C.Clock.reads c.args.clock.now) c.args.max_jump (IsKept first) c.args.salt (node_state first) (outside_with g.S.Source g.K.Sink first c.args.input.now c.open_node.new.output) now (node_state last) status =
    record {
      done = ran.done;
      cut = ran.cut;
      recovers = λ safe sound. kept_recovers last c.args.salt (ran.kept safe sound);
      durable = λ safe sound. kept_durable last (ran.kept safe sound);
      passed = λ refused is. (ran.passed refused is).1;
      read_fault = ran.read_fault;
      read_quiet = ran.read_quiet;
      disk_fault = ran.disk_fault;
      disk_quiet = ran.disk_quiet;
      known = ran.known;
      honesty = ran.honesty;
    }
    in
    let from_here = subst (λ o. IsEnded (g.C.Clock.reads c.args.clock.now) c.args.max_jump (IsKept first) c.args.salt (node_state first) (outside_with g.S.Source g.K.Sink first c.args.input.now o) now (node_state last) status) c.in-Ok.ensures.unsaid ended in
    let over = run_over (g.C.Clock.reads c.args.clock.now) c.args.max_jump (IsKept first) c.args.salt was now (node_disks first) (node_state first) (node_state last) status c.in-Ok.ensures.opened from_here in
    let then_made = c.end_run-status.ensures in
    checkpoint_run (g.C.Clock.reads c.args.clock.now) c.args.max_jump c.args.salt was (input_of g.S.Source input) (output_of g.K.Sink output) last after c.close-disk_a.result.0 c.close-disk_a.result.1 status c.end_run-status.result over
    (λ honest sound. ran.kept (c.in-Ok.ensures.opened.safe honest) sound) then_made.early then_made.ends then_made.has then_made.honesty
    (λ honest. closed_aside first last (node_disk_a last) (node_disk_b last) c.args.salt was.disks ran.aside refl refl (c.in-Ok.ensures.counts honest) (c.in-Ok.ensures.opened.opens honest)) c.close-disk_a.ensures.disk_a c.close-disk_a.ensures.disk_b

pub returns-clause-usage : goal.returns-clause-usage
returns-clause-usage g c = no_two_checkpoint _ _ _ _ _ _ (returns-clause-done g c)
