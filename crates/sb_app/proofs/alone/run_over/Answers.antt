use Rattle.std.proofs.Common.{Some, sym, subst}
use Rattle.sb_journal.proofs.Pairs.{kept_aside}
use Rattle.sb_journal.specs.Disks.{disks_of}
use Rattle.sb_node.specs.Nodes.{node_state, node_disk_a, node_disks, IsKept}
use Rattle.sb_app.specs.Outside.{output_of, outside_of}
use Rattle.sb_app.specs.Nodes.{outside_with}
use Rattle.sb_app.specs.Tops.{IsCarriedOut}
use Rattle.sb_app.specs.declared.task.Task.TheVariants.{Run}
use Rattle.sb_app.proofs.Whole.{closed_aside, kept_recovers, kept_durable}
use Rattle.sb_app.proofs.Carried.{not_opened, IsEnded, run_over}
use Rattle.sb_app.proofs.alone.run_over.Goals as goal

pub returns-in-Err-clause-done : goal.returns-in-Err-clause-done
returns-in-Err-clause-done g c =
    let was = outside_of g.D.Disk g.S.Source g.K.Sink c.args.disk_a c.args.disk_b c.args.input.now c.args.output.now in
    let failed = c.in-Err.failed in
    let fails = c.in-Err.ensures.failed in
    not_opened (g.C.Clock.reads c.args.clock.now) c.args.max_jump Run c.args.salt was (disks_of g.D.Disk failed.1 failed.2) (output_of g.K.Sink c.open_node.new.output) fails.0 failed.0 fails.1

pub returns-clause-done : goal.returns-clause-done
returns-clause-done g c =
    let was = outside_of g.D.Disk g.S.Source g.K.Sink c.args.disk_a c.args.disk_b c.args.input.now c.args.output.now in
    let first = c.in-Ok.node in
    let last = c.run_status-status.new.node in
    let input = c.run_status-status.new.input in
    let output = c.run_status-status.new.output in
    let now = outside_with g.S.Source g.K.Sink last input output in
    let status = c.run_status-status.result in
    let ran = c.run_status-status.ensures in
    let ended : IsEnded (g.C.Clock.reads c.args.clock.now) c.args.max_jump (IsKept first) c.args.salt (node_state first) (outside_with g.S.Source g.K.Sink first c.args.input.now c.open_node.new.output) now (node_state last) status =
    record {
      done = ran.done;
      cut = ran.cut;
      recovers = λ safe sound. kept_recovers last c.args.salt (ran.kept safe sound);
      durable = λ safe sound. kept_durable last (ran.kept safe sound);
      passed = λ refused is. (ran.passed refused is).1;
      read_fault = ran.read_fault;
      read_quiet = ran.read_quiet;
      disk_fault = ran.disk_fault;
      disk_quiet = ran.disk_quiet;
      known = ran.known;
      honesty = ran.honesty;
    }
    in
    let from_here = subst (λ o. IsEnded (g.C.Clock.reads c.args.clock.now) c.args.max_jump (IsKept first) c.args.salt (node_state first) (outside_with g.S.Source g.K.Sink first c.args.input.now o) now (node_state last) status) c.in-Ok.ensures.unsaid ended in
    let over = run_over (g.C.Clock.reads c.args.clock.now) c.args.max_jump (IsKept first) c.args.salt was now (node_disks first) (node_state first) (node_state last) status c.in-Ok.ensures.opened from_here in
    subst (λ a. IsCarriedOut (g.C.Clock.reads c.args.clock.now) c.args.max_jump (Some Run) c.args.salt was (outside_of g.D.Disk g.S.Source g.K.Sink a c.close-disk_a.result.1 input output) status) (sym c.close-disk_a.ensures.disk_a)
    (subst (λ b. IsCarriedOut (g.C.Clock.reads c.args.clock.now) c.args.max_jump (Some Run) c.args.salt was (outside_of g.D.Disk g.S.Source g.K.Sink (node_disk_a last) b input output) status) (sym c.close-disk_a.ensures.disk_b) over)

pub returns-in-Err-clause-aside : goal.returns-in-Err-clause-aside
returns-in-Err-clause-aside g c honest side counts =
    let fails = c.in-Err.ensures.failed in
    kept_aside c.args.salt side (disks_of g.D.Disk c.args.disk_a c.args.disk_b) (disks_of g.D.Disk c.in-Err.failed.1 c.in-Err.failed.2) counts (fails.1.keeps honest)

pub returns-clause-aside : goal.returns-clause-aside
returns-clause-aside g c honest =
    closed_aside c.in-Ok.node c.run_status-status.new.node c.close-disk_a.result.0 c.close-disk_a.result.1 c.args.salt (disks_of g.D.Disk c.args.disk_a c.args.disk_b) c.run_status-status.ensures.aside c.close-disk_a.ensures.disk_a c.close-disk_a.ensures.disk_b (c.in-Ok.ensures.counts honest) (c.in-Ok.ensures.opened.opens honest)
