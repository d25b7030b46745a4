use Rattle.std.proofs.Common.{ap, sym, ◌∙◌, subst}
use Rattle.sb_desk.specs.Groups.{posts_in, IsArranged}
use Rattle.sb_desk.specs.Lists.{HaveSeatsBelow}
use Rattle.sb_desk.specs.Rule.{log_of}
use Rattle.sb_desk.specs.Steps.{Knows}
use Rattle.sb_desk.proofs.Steady.{knows_placed}
use Rattle.sb_desk.proofs.groups.collect_one.Goals as goal

pub answered-held-requires-clause-value : goal.answered-held-requires-clause-value
answered-held-requires-clause-value g c =
    let out = c.take_out-held.ensures.out in
    let value = c.take_out-held.ensures.value in (
      subst (λ m. g.V.Served.stands c.take_out-held.result.value m.0.start (log_of m.0.stage)) (sym out.1) out.2,
      value.0 ∙ ap (λ m. m.0.origin) (sym out.1),
      subst (λ m. IsArranged m.0.passes c.take_out-held.result) (sym out.1) value.1,
    )

pub answered-held-requires-clause-knows : goal.answered-held-requires-clause-knows
answered-held-requires-clause-knows g c =
    let out = c.take_out-held.ensures.out in
    subst (λ m. Knows (log_of m.0.stage) (posts_in c.take_out-held.result) m.0) (sym out.1) (knows_placed out.0 (posts_in c.take_out-held.result) c.wait.new.place.me.0 _ out.3)

pub take_answer-answer-requires-clause-value : goal.take_answer-answer-requires-clause-value
take_answer-answer-requires-clause-value g c =
    let out = c.answered-held.ensures.out in
    let value = c.answered-held.ensures.value in (
      subst (λ m. g.V.Served.stands c.answered-held.result.value m.0.start (log_of m.0.stage)) (sym out.1) out.2,
      value.0 ∙ ap (λ m. m.0.origin) (sym out.1),
      subst (λ m. IsArranged m.0.passes c.answered-held.result) (sym out.1) value.1,
    )

pub take_answer-answer-requires-clause-numbered : goal.take_answer-answer-requires-clause-numbered
take_answer-answer-requires-clause-numbered g c =
    let out = c.answered-held.ensures.out in
    subst (λ m. HaveSeatsBelow m.0.passes (log_of m.0.stage)) (sym out.1) out.3.numbered
