use Rattle.std.proofs.Common.{List, map, subst, ◌++◌, ◌∙◌, ◌≡◌, ap}
use Rattle.std.specs.Prelude.{IfOk}
use Rattle.sb_machine.specs.declared.state.StoredCopy.{StoredCopy}
use Rattle.sb_entities.specs.Stores.{entity_in}
use Rattle.sb_engine.specs.Sweeps.{item, items_in}
use Rattle.sb_engine.proofs.time.finding.with_ended.Goals as goal

pub returns : goal.returns
returns c =
    subst (λ (cs : List StoredCopy). IfOk c.with_these.result (λ v. items_in v.items ≡ items_in c.args.found.items ++ map (item (entity_in c.args.entity.now) c.args.part) cs))
    (ap (map (λ x. x.now)) c.deref.ensures.value ∙ c.in_ok-ended.ensures)
    c.with_these.ensures
