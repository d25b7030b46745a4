use Rattle.std.proofs.Common.{[], ap, refl, sym, subst, ◌∙◌}
use Rattle.std.specs.Prelude.{nat_lt}
use Rattle.sb_machine.specs.declared.state.State.{State}
use Rattle.sb_journal.specs.Disks.{disks_of}
use Rattle.sb_journal.specs.Journals.{journal_disk_a, journal_disk_b}
use Rattle.sb_node.specs.Nodes.{node_disk_a, node_disk_b}
use Rattle.sb_node.specs.Serving.{StandsFor}
use Rattle.sb_desk.specs.Desks.{Open}
use Rattle.sb_server.specs.Serves.{Worker, WorkerDid}
use Rattle.sb_server.specs.Works.{ConnectionServed}
use Rattle.sb_app.specs.Outside.{Outside, output_of}
use Rattle.sb_app.proofs.Stages.{deskless_server, served_server}
use Rattle.sb_app.proofs.serving.serve_node.Goals as goal

pub serve_desk-requires-clause-stands : goal.serve_desk-requires-clause-stands
serve_desk-requires-clause-stands g c κs within =
    let told_node = c.go_on_after.new.self in
    subst (λ (s : State). StandsFor told_node s []) (sym c.go_on_after.ensures.state) (c.go_on_after.ensures.stands _ c.requires.stands)

pub returns-in-Ok : goal.returns-in-Ok
returns-in-Ok g c input days salt disks may =
    let works : Open → Worker g.row.R.Denot → Type 0 = λ desk. WorkerDid g.R.Door (ConnectionServed g.R.Conn.Conn (g.C.Clock.reads c.args.clock.now) c.args.access.now c.args.limits) desk c.args.most in
    let was : Outside = record { input = input; output = output_of g.K.Sink c.args.output.now; disks = disks } in
    let now : Outside = record { input = input; output = output_of g.K.Sink c.end_serving.new.output; disks = disks_of g.D.Disk c.end_serving.result.1 c.end_serving.result.2 } in
    let as_told = c.go_on_after.ensures in
    served_server c.args.checkpoint (g.C.Clock.reads c.args.clock.now) days (nat_lt 0 c.args.checkpoint_after) works g.R.Door.count salt was now c.args.doors.now.items c.serve_desk.new.doors.items c.args.node c.go_on_after.new.self c.in-Ok.node c.in-Ok.report c.in-Ok.ending c.end_serving.result.0
    (λ desk w does. does.stops.faults) may as_told.goes_on as_told.state as_told.origin refl c.in-Ok.ensures.ok c.end_serving.ensures

pub returns-in-Err : goal.returns-in-Err
returns-in-Err g c input days salt disks may =
    let works : Open → Worker g.row.R.Denot → Type 0 = λ desk. WorkerDid g.R.Door (ConnectionServed g.R.Conn.Conn (g.C.Clock.reads c.args.clock.now) c.args.access.now c.args.limits) desk c.args.most in
    let was : Outside = record { input = input; output = output_of g.K.Sink c.args.output.now; disks = disks } in
    let back = c.in-Err.ensures.err in
    let same = c.go_on_after.ensures.journal in
    deskless_server c.args.checkpoint (g.C.Clock.reads c.args.clock.now) days (nat_lt 0 c.args.checkpoint_after) works g.R.Door.count salt was c.args.doors.now.items c.serve_desk.new.doors.items c.args.node c.close-disk_a.result.0 c.close-disk_a.result.1 may back.1 (c.close-disk_a.ensures.disk_a ∙ ap node_disk_a back.0 ∙ ap journal_disk_a same) (c.close-disk_a.ensures.disk_b ∙ ap node_disk_b back.0 ∙ ap journal_disk_b same)
