use Rattle.std.proofs.Common.{Some, sym, subst, ◌∙◌}
use Rattle.sb_journal.proofs.Pairs.{kept_aside}
use Rattle.sb_journal.specs.Disks.{disks_of}
use Rattle.sb_node.specs.Nodes.{node_state, node_disk_a, node_disks, IsKept}
use Rattle.sb_app.specs.Drills.{IsDrillOver}
use Rattle.sb_app.specs.Outside.{output_of, outside_of}
use Rattle.sb_app.specs.Tops.{IsCarriedOut}
use Rattle.sb_app.specs.declared.task.Task.TheVariants.{Drill}
use Rattle.sb_app.proofs.Carried.{not_opened}
use Rattle.sb_app.proofs.Drills.{drilled_call}
use Rattle.sb_app.proofs.Whole.{closed_aside}
use Rattle.sb_app.proofs.drilling.drill_over.Goals as goal

pub returns-in-Err-clause-done : goal.returns-in-Err-clause-done
returns-in-Err-clause-done g c =
    let was = outside_of g.D.Disk g.S.Source g.K.Sink c.args.disk_a c.args.disk_b c.args.input.now c.args.output.now in
    let failed = c.in-Err.failed in
    let fails = c.in-Err.ensures.failed in
    not_opened (g.C.Clock.reads c.args.clock.now) c.args.max_jump (Drill c.args.count c.args.seed) c.args.salt was (disks_of g.D.Disk failed.1 failed.2) (output_of g.K.Sink c.open_node.new.output) fails.0 failed.0 fails.1

pub returns-clause-done : goal.returns-clause-done
returns-clause-done g c =
    let was = outside_of g.D.Disk g.S.Source g.K.Sink c.args.disk_a c.args.disk_b c.args.input.now c.args.output.now in
    let first = c.in-Ok.node in
    let last = c.drill_status-status.new.node in
    let output = c.drill_status-status.new.output in
    let status = c.drill_status-status.result in
    let over = subst (λ o. IsDrillOver c.args.count c.args.seed (node_state first) (output_of g.K.Sink o) (output_of g.K.Sink output) last status) c.in-Ok.ensures.unsaid c.drill_status-status.ensures.done in
    let done = drilled_call (g.C.Clock.reads c.args.clock.now) c.args.max_jump c.args.count c.args.seed (IsKept first) c.args.salt was (node_disks first) (node_state first) (output_of g.K.Sink output) last status c.in-Ok.ensures.opened (c.drill_status-status.ensures.origin ∙ c.in-Ok.ensures.origin) (c.drill_status-status.ensures.goes_on ∙ c.in-Ok.ensures.rests_alone) over in
    subst (λ a. IsCarriedOut (g.C.Clock.reads c.args.clock.now) c.args.max_jump (Some (Drill c.args.count c.args.seed)) c.args.salt was (outside_of g.D.Disk g.S.Source g.K.Sink a c.close-disk_a.result.1 c.args.input.now output) status) (sym c.close-disk_a.ensures.disk_a)
    (subst (λ b. IsCarriedOut (g.C.Clock.reads c.args.clock.now) c.args.max_jump (Some (Drill c.args.count c.args.seed)) c.args.salt was (outside_of g.D.Disk g.S.Source g.K.Sink (node_disk_a last) b c.args.input.now output) status) (sym c.close-disk_a.ensures.disk_b) done)

pub returns-in-Err-clause-aside : goal.returns-in-Err-clause-aside
returns-in-Err-clause-aside g c honest side counts =
    let fails = c.in-Err.ensures.failed in
    kept_aside c.args.salt side (disks_of g.D.Disk c.args.disk_a c.args.disk_b) (disks_of g.D.Disk c.in-Err.failed.1 c.in-Err.failed.2) counts (fails.1.keeps honest)

pub returns-clause-aside : goal.returns-clause-aside
returns-clause-aside g c honest =
    closed_aside c.in-Ok.node c.drill_status-status.new.node c.close-disk_a.result.0 c.close-disk_a.result.1 c.args.salt (disks_of g.D.Disk c.args.disk_a c.args.disk_b) c.drill_status-status.ensures.aside c.close-disk_a.ensures.disk_a c.close-disk_a.ensures.disk_b (c.in-Ok.ensures.counts honest) (c.in-Ok.ensures.opened.opens honest)
