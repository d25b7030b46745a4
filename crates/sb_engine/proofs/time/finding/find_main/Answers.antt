use Rattle.std.proofs.Common.{List, ap, map, subst, ◌∙◌, ◌≡◌}
use Rattle.std.specs.Prelude.{IfOk}
use Rattle.std.specs.List.{flat_map}
use Rattle.sb_machine.specs.Due.{Item}
use Rattle.sb_machine.specs.declared.call.Part.TheVariants.{Main}
use Rattle.sb_machine.specs.declared.state.Entity.{Entity}
use Rattle.sb_entities.specs.Stores.{entity_in, space_in}
use Rattle.sb_engine.specs.Sweeps.{found_in, items_in}
use Rattle.sb_engine.proofs.DueEntities.{found_in_mains}
use Rattle.sb_engine.proofs.time.finding.find_main.Goals as goal

pub returns : goal.returns
returns c =
    let f : Entity → List Item = λ e. found_in c.args.search c.args.moment e Main in
    subst (λ (found : List Item). IfOk c.find_in_mains.result (λ v. items_in v.items ≡ found))
    (ap (λ xs. flat_map f (map (λ x. entity_in x.now) xs)) c.deref.ensures.value ∙ ap (flat_map f) c.in_ok-due.ensures ∙ found_in_mains c.args.search c.args.moment (space_in c.args.space.now).entities)
    c.find_in_mains.ensures
