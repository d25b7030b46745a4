use Rattle.std.proofs.Common.{List, refl, subst, sym, true, ◌≡◌}
use Rattle.std.specs.List.{list_all}
use Rattle.sb_machine.specs.declared.change.Change.{Change}
use Rattle.sb_entities.specs.Stores.{entity_in, space_in}
use Rattle.sb_engine.specs.Commits.{is_front}
use Rattle.sb_engine.proofs.Commits.{commit_passes, commit_refuses}
use Rattle.sb_engine.proofs.acts.commit.acted.Goals as goal

pub fulfil-requires-clause-front : goal.fulfil-requires-clause-front
fulfil-requires-clause-front c = subst (λ (cs : List Change). list_all is_front cs ≡ true) (sym c.dropping-front.ensures) refl

pub returns-in-Ok : goal.returns-in-Ok
returns-in-Ok c = commit_passes c.args.moment (space_in c.args.space.now) (entity_in c.args.entity.now) c.args.txn.now.transaction c.dropping-front.result c.in-Ok.field-0.changes c.operations.result.now c.dropping-front.ensures c.operations.ensures c.in-Ok.ensures.0 c.in-Ok.ensures.2

pub returns-in-Err : goal.returns-in-Err
returns-in-Err c = commit_refuses c.args.moment (space_in c.args.space.now) (entity_in c.args.entity.now) c.args.txn.now.transaction c.dropping-front.result c.operations.result.now c.in-Err.refusal c.dropping-front.ensures c.operations.ensures c.in-Err.ensures
