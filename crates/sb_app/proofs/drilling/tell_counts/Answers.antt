use Rattle.std.proofs.Common.{◌∙◌}
use Rattle.sb_app.specs.Outside.{output_of}
use Rattle.sb_app.proofs.Telling.{cut_told}
use Rattle.sb_app.proofs.drilling.tell_counts.Goals as goal

pub returns : goal.returns
returns g c =
    cut_told _ c.as_bytes.result.now (output_of g.K.Sink c.args.output.now) (output_of g.K.Sink c.write_all.new.sink) (c.as_bytes.ensures.value ∙ c.in-Ok.ensures) c.in-Err.ensures.err c.in-Err.ensures.cause.failed
