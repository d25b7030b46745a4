use Rattle.std.proofs.Common.{sym, subst}
use Rattle.sb_server.specs.declared.doing.Doing.{Doing}
use Rattle.sb_server.specs.declared.doing.Went.{Went}
use Rattle.sb_server.specs.Doings.{IsNext, IsDoingInOrder, went_by}
use Rattle.sb_server.specs.Talks.{Here}
use Rattle.sb_server.proofs.Stepping.{next_in_order}
use Rattle.sb_server.proofs.step.go_behind.Goals as goal

pub returns-clause-steps : goal.returns-clause-steps
returns-clause-steps g c = λ s h posted.
    let begun = c.collect-pass.result.1 in
    let came = c.collect-pass.ensures.goes in
    let n : Here = record h { pass = c.collect-pass.result.0 } in
    subst (λ (w : Went). IsNext (g.C.Clock.reads c.args.clock.now) s n w c.begin.new.doing) (sym c.begin.ensures.went)
    (subst (λ (d : Doing). IsNext (g.C.Clock.reads c.args.clock.now) s n (went_by begun) d) (sym c.begin.ensures.doing)
    (posted came.0 c.collect-pass.result.0 begun came.1 came.2))

pub returns-clause-order : goal.returns-clause-order
returns-clause-order g c = subst IsDoingInOrder (sym c.begin.ensures.doing) (next_in_order c.collect-pass.result.1 c.collect-pass.ensures.order)
