use Rattle.std.proofs.Common.{List, Result, Ok, Err, sym, ◌∙◌, ◌≡◌}
use Rattle.std.specs.Prelude.{IfOk}
use Rattle.sb_machine.specs.declared.change.Change.{Change}
use Rattle.sb_entities.specs.Stores.{space_in}
use Rattle.sb_engine.proofs.time.ticks.changes_of_tick.Goals as goal

told_as : {E : Type 0} (r : Result (List Change) E) (found told : List Change) → told ≡ found → IfOk r (λ cs. cs ≡ found) → IfOk r (λ cs. cs ≡ told)
told_as (Ok cs) found told same is = is ∙ sym same
told_as (Err e) found told same is = tt

pub returns : goal.returns
returns c = told_as c.plan_as_found.result _ _ (c.tick_as_found.ensures c.args.moment (space_in c.args.space.now) c.requires) c.plan_as_found.ensures
