use Rattle.std.proofs.Common.{subst, sym, true, ℕ, ◌<◌, ◌≡◌}
use Rattle.sb_machine.specs.Due.{is_due}
use Rattle.sb_engine.specs.Deadlines.{never}
use Rattle.sb_engine.specs.Engines.{engine_state}
use Rattle.sb_engine.proofs.DueEntities.{due_at_soonest, none_sooner}
use Rattle.sb_engine.proofs.engine.Engine.soonest.Goals as goal

pub returns-clause-before : goal.returns-clause-before
returns-clause-before c = λ m before. none_sooner m (engine_state c.args.self.now).space (subst (λ (n : ℕ). m < n) c.soonest.ensures before)

pub returns-clause-reached : goal.returns-clause-reached
returns-clause-reached c = let s = (engine_state c.args.self.now).space in subst (λ (n : ℕ). n < never → is_due n s ≡ true) (sym c.soonest.ensures) (due_at_soonest s)
