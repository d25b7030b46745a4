use Rattle.std.proofs.Common.{refl, Some, sym, subst}
use Rattle.sb_journal.proofs.Pairs.{kept_aside}
use Rattle.sb_journal.specs.Disks.{disks_of}
use Rattle.sb_engine.specs.Engines.{summary_of}
use Rattle.sb_node.specs.Nodes.{node_state, node_disk_a, node_disks, node_last, IsKept}
use Rattle.sb_app.specs.Checks.{check_line, IsLineTold}
use Rattle.sb_app.specs.Outside.{output_of, outside_of}
use Rattle.sb_app.specs.Tops.{IsCarriedOut}
use Rattle.sb_app.specs.declared.task.Task.TheVariants.{Check}
use Rattle.sb_app.proofs.Whole.{closed_aside, kept_numbers}
use Rattle.sb_app.proofs.Carried.{not_opened, check_over}
use Rattle.sb_app.proofs.alone.check_over.Goals as goal

pub returns-in-Err-clause-done : goal.returns-in-Err-clause-done
returns-in-Err-clause-done g c =
    let was = outside_of g.D.Disk g.S.Source g.K.Sink c.args.disk_a c.args.disk_b c.args.input.now c.args.output.now in
    let failed = c.in-Err.failed in
    let fails = c.in-Err.ensures.failed in
    not_opened (g.C.Clock.reads c.args.clock.now) c.args.max_jump Check c.args.salt was (disks_of g.D.Disk failed.1 failed.2) (output_of g.K.Sink c.open_node.new.output) fails.0 failed.0 fails.1

pub returns-clause-done : goal.returns-clause-done
returns-clause-done g c =
    let was = outside_of g.D.Disk g.S.Source g.K.Sink c.args.disk_a c.args.disk_b c.args.input.now c.args.output.now in
    let node = c.in-Ok.node in
    let output = c.check_status-status.new.output in
    let status = c.check_status-status.result in
    let told = subst (λ o. IsLineTold (check_line (summary_of (node_state node) (node_last node))) (output_of g.K.Sink o) (output_of g.K.Sink output) status) c.in-Ok.ensures.unsaid (c.check_status-status.ensures c.in-Ok.ensures.running) in
    let over = check_over (g.C.Clock.reads c.args.clock.now) c.args.max_jump (IsKept node) c.args.salt (node_last node) was (node_disks node) (output_of g.K.Sink output) (node_state node) status c.in-Ok.ensures.opened (kept_numbers node c.args.salt) told in
    subst (λ a. IsCarriedOut (g.C.Clock.reads c.args.clock.now) c.args.max_jump (Some Check) c.args.salt was (outside_of g.D.Disk g.S.Source g.K.Sink a c.close-disk_a.result.1 c.args.input.now output) status) (sym c.close-disk_a.ensures.disk_a)
    (subst (λ b. IsCarriedOut (g.C.Clock.reads c.args.clock.now) c.args.max_jump (Some Check) c.args.salt was (outside_of g.D.Disk g.S.Source g.K.Sink (node_disk_a node) b c.args.input.now output) status) (sym c.close-disk_a.ensures.disk_b) over)

pub returns-in-Err-clause-aside : goal.returns-in-Err-clause-aside
returns-in-Err-clause-aside g c honest side counts =
    let fails = c.in-Err.ensures.failed in
    kept_aside c.args.salt side (disks_of g.D.Disk c.args.disk_a c.args.disk_b) (disks_of g.D.Disk c.in-Err.failed.1 c.in-Err.failed.2) counts (fails.1.keeps honest)

pub returns-clause-aside : goal.returns-clause-aside
returns-clause-aside g c honest =
    closed_aside c.in-Ok.node c.in-Ok.node c.close-disk_a.result.0 c.close-disk_a.result.1 c.args.salt (disks_of g.D.Disk c.args.disk_a c.args.disk_b) refl c.close-disk_a.ensures.disk_a c.close-disk_a.ensures.disk_b (c.in-Ok.ensures.counts honest) (c.in-Ok.ensures.opened.opens honest)
