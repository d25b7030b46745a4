use Rattle.std.proofs.Common.{sym}
use Rattle.std.proofs.lemmas.Result.{err_from_is_err_and}
use Rattle.sb_amqp.proofs.Left.{section_on, section_ends, sections_done}
use Rattle.sb_amqp.proofs.read.say_sections.Goals as goal

pub returns-in_err-draft : goal.returns-in_err-draft
returns-in_err-draft c ss are text =
    let p = err_from_is_err_and c.from_residual.result c.from_residual.ensures.1 in
    rw (p.1, p.2) (section_ends c.loop-section.draft c.loop-section.rest.now _ (c.in-Some.section.code, (c.in-Some.section.value.now, c.in-Some.section.rest.now)) c.in_err-draft.field-0.0
    (c.loop-section.invariant ss are text) (sym c.in-Some.ensures.value) (λ vs has. c.in_err-draft.ensures vs has))

pub loop-section-preserved : goal.loop-section-preserved
loop-section-preserved c ss are text =
    section_on c.loop-section.draft c.loop-section.rest.now _ (c.in-Some.section.code, (c.in-Some.section.value.now, c.in-Some.section.rest.now)) c.in_ok-draft.draft
    (c.loop-section.invariant ss are text) (sym c.in-Some.ensures.value) (λ vs has. c.in_ok-draft.ensures vs has)

pub returns : goal.returns
returns c ss are text = sections_done c.loop-section.draft c.loop-section.rest.now _ (c.loop-section.invariant ss are text) (sym c.in_default.ensures.value)
