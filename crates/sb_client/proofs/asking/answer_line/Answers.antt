use Rattle.std.proofs.Common.{sym, ◌∙◌, ap, subst}
use Rattle.sb_input.specs.Lines.{is_blank}
use Rattle.sb_input.specs.PartialLines.{StandsFor}
use Rattle.sb_input.specs.declared.partial_line.PartialLine.{PartialLine}
use Rattle.sb_client.proofs.LineKinds.{kind_blank}
use Rattle.sb_client.proofs.Serving.{served_blank}
use Rattle.sb_client.proofs.asking.answer_line.Goals as goal

pub returns-then-is_blank_line-clause-done : goal.returns-then-is_blank_line-clause-done
returns-then-is_blank_line-clause-done g c line stands =
    let kept = subst (λ (p : PartialLine). StandsFor p line) c.in-Short.is stands in
    served_blank c.args.key.now line (g.N.Link.told c.args.link.now) (g.K.Sink.given c.args.sink.now) (kind_blank line (ap is_blank (kept.0 ∙ sym c.deref.ensures.value) ∙ sym c.is_blank_line.ensures ∙ c.if-is_blank_line.true))

pub returns-in-Long-true-clause-done : goal.returns-in-Long-true-clause-done
returns-in-Long-true-clause-done g c line stands =
    let kept = subst (λ (p : PartialLine). StandsFor p line) c.in-Long-true.is stands in
    served_blank c.args.key.now line (g.N.Link.told c.args.link.now) (g.K.Sink.given c.args.sink.now) (kind_blank line (kept.1 ∙ c.in-Long-true.field-0-test))
