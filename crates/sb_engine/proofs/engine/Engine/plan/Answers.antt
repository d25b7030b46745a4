use Rattle.sb_engine.specs.Engines.{engine_state}
use Rattle.sb_engine.proofs.Plannings.{plans, refused_as}
use Rattle.sb_engine.proofs.Small.{small_answered, small_bare}
use Rattle.sb_engine.proofs.engine.Engine.plan.Goals as goal

pub returns-clause-ok : goal.returns-clause-ok
returns-clause-ok c = plans (engine_state c.args.self.now) c.args.moment c.args.call.now c.plan_call.result c.plan_call.ensures.plan c.plan_call.ensures.sound

pub returns-clause-err : goal.returns-clause-err
returns-clause-err c = refused_as (engine_state c.args.self.now) c.args.moment c.args.call.now c.plan_call.result c.plan_call.ensures.plan

pub returns-clause-free : goal.returns-clause-free
returns-clause-free c = λ is. small_answered (engine_state c.args.self.now) c.args.moment c.args.call.now c.plan_call.result (c.plan_call.ensures.free is)

pub returns-clause-bare : goal.returns-clause-bare
returns-clause-bare c = λ is. small_bare (engine_state c.args.self.now) c.args.moment c.args.call.now c.plan_call.result is c.plan_call.ensures.plan
