use Rattle.std.proofs.Common.{◌≡◌, None, Some, refl, ◌∙◌}
use Rattle.sb_engine.specs.Engines.{engine_state}
use Rattle.sb_engine.proofs.Small.{small, small_refused}
use Rattle.sb_engine.proofs.engine.Engine.plan_call.Goals as goal

pub returns-in-Some-clause-free : goal.returns-in-Some-clause-free
returns-in-Some-clause-free c = λ is.
    let none = (small (engine_state c.args.self.now).space c.args.call.now is).client in
    let clash : Some c.in-Some.by.now ≡ None = c.in-Some.ensures ∙ none in absurd cc

pub returns-in-None-clause-free : goal.returns-in-None-clause-free
returns-in-None-clause-free c = λ is.
    let s = engine_state c.args.self.now in
    let its = small s.space c.args.call.now is in
    small_refused s c.args.moment c.args.call.now c.plan_acting.result its.client (c.plan_acting.ensures.free refl its.fields its.act)
