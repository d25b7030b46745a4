use Rattle.std.proofs.Common.{◌∙◌}
use Rattle.sb_client.proofs.Serving.{served_long, cut_long}
use Rattle.sb_client.proofs.asking.refuse_long.Goals as goal

pub returns-in-Ok-clause-done : goal.returns-in-Ok-clause-done
returns-in-Ok-clause-done g c key line told kind = served_long key line c.as_bytes.result.now told (g.K.Sink.given c.args.sink.now) (g.K.Sink.given c.write_all.new.sink) kind (c.as_bytes.ensures.value ∙ c.long_line.ensures) c.in-Ok.ensures.ok

pub returns-in-Err-clause-cut : goal.returns-in-Err-clause-cut
returns-in-Err-clause-cut g c key line told kind = cut_long key line c.as_bytes.result.now told (g.K.Sink.given c.args.sink.now) (g.K.Sink.given c.write_all.new.sink) kind (c.as_bytes.ensures.value ∙ c.long_line.ensures) c.in-Err.ensures.err
