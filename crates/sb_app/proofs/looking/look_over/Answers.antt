use Rattle.std.proofs.Common.{ap}
use Rattle.sb_journal.specs.Disks.{disks_of}
use Rattle.sb_app.specs.Outside.{output_of, outside_of}
use Rattle.sb_app.proofs.Looks.{look_told, look_failed, not_usage}
use Rattle.sb_app.proofs.looking.look_over.Goals as goal

pub returns-in-Err-clause-done : goal.returns-in-Err-clause-done
returns-in-Err-clause-done g c =
    let was = outside_of g.D.Disk g.S.Source g.K.Sink c.args.disk_a c.args.disk_b c.args.input.now c.args.output.now in
    let said = c.failed_status-status.ensures in
    look_failed c.args.salt was (disks_of g.D.Disk c.look.new.disk_a c.look.new.disk_b) (output_of g.K.Sink c.failed_status-status.new.output) c.in-Err.why c.failed_status-status.result
    (record {
      known = said.known;
      damage = said.damaged;
      silent = λ other. ap (output_of g.K.Sink) (said.silent other);
      failed = said.disk_fault;
      other = said.other;
      broken = c.in-Err.ensures.broken;
      still = c.look.ensures.still;
      cause = c.in-Err.ensures.cause;
      quiet = c.in-Err.ensures.memory;
      honesty = c.look.ensures.honesty;
    })

pub returns-clause-done : goal.returns-clause-done
returns-clause-done g c =
    let was = outside_of g.D.Disk g.S.Source g.K.Sink c.args.disk_a c.args.disk_b c.args.input.now c.args.output.now in
    look_told c.args.salt was (disks_of g.D.Disk c.look.new.disk_a c.look.new.disk_b) (output_of g.K.Sink c.tell_numbers-status.new.output) c.in-Ok.numbers c.tell_numbers-status.result
    c.in-Ok.ensures.seen c.tell_numbers-status.ensures c.look.ensures.still c.in-Ok.ensures.quiet c.look.ensures.honesty

pub returns-in-Err-clause-usage : goal.returns-in-Err-clause-usage
returns-in-Err-clause-usage g c = not_usage _ (returns-in-Err-clause-done g c).known

pub returns-clause-usage : goal.returns-clause-usage
returns-clause-usage g c = not_usage _ (returns-clause-done g c).known
