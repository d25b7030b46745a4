use Rattle.std.proofs.Common.{subst}
use Rattle.sb_app.specs.Outside.{output_of}
use Rattle.sb_app.specs.Checks.{check_line, IsLineTold}
use Rattle.sb_app.proofs.checking.check_status.Goals as goal

pub returns : goal.returns
returns g c runs =
    subst (λ s. IsLineTold (check_line s) (output_of g.K.Sink c.args.output.now) (output_of g.K.Sink c.tell_numbers.new.output) c.tell_numbers.result) (c.summary.ensures.numbers runs) c.tell_numbers.ensures
