use Rattle.std.proofs.Common.{◌∙◌, subst}
use Rattle.sb_app.specs.declared.ending.RunEnd.TheVariants.{WriteFault}
use Rattle.sb_app.specs.Outside.{output_of}
use Rattle.sb_app.specs.Endings.{IsReplyCut}
use Rattle.sb_app.proofs.Cuts.{reply_cut}
use Rattle.sb_app.proofs.dispatch.write_answer.Goals as goal

pub returns-clause-err : goal.returns-clause-err
returns-clause-err g c =
    let was = output_of g.K.Sink c.args.output.now in
    let now = output_of g.K.Sink c.write_all.new.sink in
    subst (λ l. IsReplyCut l was now WriteFault) (c.as_bytes.ensures.value ∙ c.in-Ok.ensures)
    (reply_cut c.as_bytes.result.now was now c.in-Err.ensures.err c.in-Err.ensures.cause.failed)
