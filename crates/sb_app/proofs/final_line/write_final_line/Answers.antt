use Rattle.sb_app.specs.Outside.{output_of}
use Rattle.sb_app.proofs.Cuts.{line_written}
use Rattle.sb_app.proofs.final_line.write_final_line.Goals as goal

pub returns : goal.returns
returns g c =
    line_written _ c.as_bytes.result.now (output_of g.K.Sink c.args.output.now) (output_of g.K.Sink c.write_all.new.sink) c.write_all.result c.as_bytes.ensures.value c.write_all.ensures.ok c.write_all.ensures.err c.write_all.ensures.cause.passed c.write_all.ensures.cause.failed
