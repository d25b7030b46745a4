use Rattle.std.proofs.Common.{subst}
use Rattle.std.specs.Prelude.{nat_lt}
use Rattle.sb_journal.specs.Disks.{disks_of, Disks}
use Rattle.sb_desk.specs.Desks.{Open}
use Rattle.sb_server.specs.Serves.{Worker, WorkerDid}
use Rattle.sb_server.specs.Works.{ConnectionServed}
use Rattle.sb_app.specs.Outside.{Outside, output_of}
use Rattle.sb_app.specs.Servings.{IsServer}
use Rattle.sb_app.proofs.Stages.{unopened_server}
use Rattle.sb_app.proofs.serving.serve_over.Goals as goal

pub returns-in-Err : goal.returns-in-Err
returns-in-Err g c input =
    let was : Outside = record { input = input; output = output_of g.K.Sink c.args.output.now; disks = disks_of g.D.Disk c.args.disk_a c.args.disk_b } in
    let works : Open → Worker g.row.R.Denot → Type 0 = λ desk. WorkerDid g.R.Door (ConnectionServed g.R.Conn.Conn (g.C.Clock.reads c.args.clock.now) c.args.access.now c.args.limits) desk c.args.most in
    let failed = c.in-Err.failed in
    unopened_server c.args.checkpoint (g.C.Clock.reads c.args.clock.now) c.args.max_jump (nat_lt 0 c.args.checkpoint_after) works g.R.Door.count c.args.salt was (disks_of g.D.Disk failed.1 failed.2) (output_of g.K.Sink c.open_held.new.output) c.args.doors.now.items failed.0 c.in-Err.ensures.err

pub returns : goal.returns
returns g c input =
    let before : Disks = disks_of g.D.Disk c.args.disk_a c.args.disk_b in
    let works : Open → Worker g.row.R.Denot → Type 0 = λ desk. WorkerDid g.R.Door (ConnectionServed g.R.Conn.Conn (g.C.Clock.reads c.args.clock.now) c.args.access.now c.args.limits) desk c.args.most in
    let served = c.serve_node-served in
    let now : Outside = record { input = input; output = output_of g.K.Sink served.new.output; disks = disks_of g.D.Disk served.result.1 served.result.2 } in
    let may = c.in-Ok-open_held.ensures.ok in
    subst (λ o. IsServer c.args.checkpoint (g.C.Clock.reads c.args.clock.now) c.args.max_jump (nat_lt 0 c.args.checkpoint_after) works g.R.Door.count c.args.salt (record { input = input; output = output_of g.K.Sink o; disks = before }) now c.args.doors.now.items served.new.doors.items served.result.0) may.1
    (served.ensures input c.args.max_jump c.args.salt before may.0)
