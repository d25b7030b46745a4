use Rattle.std.proofs.Common.{List, map, subst, ◌++◌, ◌∙◌, ◌≡◌, ap}
use Rattle.std.specs.Prelude.{IfOk}
use Rattle.std.specs.List.{filter}
use Rattle.sb_machine.specs.declared.state.StoredCopy.{StoredCopy}
use Rattle.sb_entities.specs.Stores.{entity_in}
use Rattle.sb_engine.specs.Sweeps.{is_looked_for, item, items_in}
use Rattle.sb_engine.proofs.time.finding.with_all.Goals as goal

pub returns : goal.returns
returns c =
    let p : StoredCopy → Rattle.std.specs.Prelude.Bool = is_looked_for c.args.search c.args.moment c.args.sessions.now in
    subst (λ (cs : List StoredCopy). IfOk c.with_each.result (λ v. items_in v.items ≡ items_in c.args.found.items ++ map (item (entity_in c.args.entity.now) c.args.part) cs))
    (ap (λ xs. filter p (map (λ x. x.now) xs)) c.deref.ensures.value ∙ ap (filter p) c.in_ok-all.ensures)
    c.with_each.ensures
