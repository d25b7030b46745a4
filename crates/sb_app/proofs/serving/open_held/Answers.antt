use Rattle.std.proofs.Common.{inl, ap}
use Rattle.sb_journal.specs.Disks.{disks_of}
use Rattle.sb_engine.specs.declared.summary.Summary.{Summary}
use Rattle.sb_app.specs.Outside.{output_of}
use Rattle.sb_app.proofs.Stages.{held_back, may_serve}
use Rattle.sb_app.proofs.serving.open_held.Goals as goal

pub returns-in-Err-clause-err : goal.returns-in-Err-clause-err
returns-in-Err-clause-err g c = inl c.in-Err.ensures.failed

pub returns-in-Ok-hold_server-clause-ok : goal.returns-in-Ok-hold_server-clause-ok
returns-in-Ok-hold_server-clause-ok g c =
    let was = disks_of g.D.Disk c.args.disk_a c.args.disk_b in
    let node = c.in-Ok.node in
    let opened = c.in-Ok.ensures in
    let moment = ap (λ (o : Summary). o.now) (c.summary.ensures.numbers opened.running) in
    (may_serve (g.C.Clock.reads c.args.clock.now) c.args.max_jump c.args.salt was node c.summary.result opened.opened opened.stands opened.origin moment c.in-Ok-hold_server.ensures.ok, opened.unsaid)

pub returns-in-Err-hold_server-clause-err : goal.returns-in-Err-hold_server-clause-err
returns-in-Err-hold_server-clause-err g c =
    let was = disks_of g.D.Disk c.args.disk_a c.args.disk_b in
    let node = c.in-Ok.node in
    let opened = c.in-Ok.ensures in
    let moment = ap (λ (o : Summary). o.now) (c.summary.ensures.numbers opened.running) in
    let out = output_of g.K.Sink c.args.output.now in
    let out_told = output_of g.K.Sink c.open_node.new.output in
    let out_after = output_of g.K.Sink c.jump_status-status.new.output in
    held_back (g.C.Clock.reads c.args.clock.now) c.args.max_jump c.args.salt was out out_told out_after node c.summary.result c.in-Err-hold_server.jump c.close-disk_a.result.0 c.close-disk_a.result.1 c.jump_status-status.result opened.opened (ap (output_of g.K.Sink) opened.unsaid) moment c.in-Err-hold_server.ensures.err
    c.jump_status-status.ensures c.close-disk_a.ensures.disk_a c.close-disk_a.ensures.disk_b
