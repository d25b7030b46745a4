use Rattle.std.proofs.Common.{ap}
use Rattle.sb_app.specs.Outside.{output_of}
use Rattle.sb_app.proofs.opening.open_node.Goals as goal

pub returns-in-Err-clause-failed : goal.returns-in-Err-clause-failed
returns-in-Err-clause-failed g c =
    let fails = c.in-Err.ensures in
    let told = c.failed_status-status.ensures in (
      c.in-Err.fault.why,
      record {
        known = told.known;
        damage = told.damaged;
        silent = λ other. ap (output_of g.K.Sink) (told.silent other);
        failed = told.disk_fault;
        other = told.other;
        broken = fails.broken;
        untouched = fails.untouched;
        rests = fails.rests;
        keeps = fails.any_moment;
        cause = fails.cause;
        quiet = fails.quiet;
        honesty = fails.honesty;
      },
    )
