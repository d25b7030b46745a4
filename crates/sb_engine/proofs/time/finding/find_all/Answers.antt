use Rattle.std.proofs.Common.{List, ap, map, subst, ◌∙◌, ◌≡◌, ℕ}
use Rattle.std.specs.Prelude.{IfOk}
use Rattle.std.specs.List.{flat_map}
use Rattle.sb_machine.specs.Due.{Item}
use Rattle.sb_machine.specs.declared.state.Entity.{Entity}
use Rattle.sb_entities.specs.EntityDues.{due_entities}
use Rattle.sb_entities.specs.Stores.{entity_in, space_in}
use Rattle.sb_engine.specs.Sweeps.{found_of, items_in}
use Rattle.sb_engine.proofs.DueEntities.{found_in_due}
use Rattle.sb_engine.proofs.time.finding.find_all.Goals as goal

pub returns : goal.returns
returns c =
    let f : Entity → List Item = found_of c.args.search c.args.moment in
    let es = (space_in c.args.space.now).entities in
    subst (λ (found : List Item). IfOk c.find_in_parts.result (λ v. items_in v.items ≡ found))
    (ap (λ xs. flat_map f (map (λ x. entity_in x.now) xs)) c.deref.ensures.value ∙ ap (flat_map f) c.in_ok-due.ensures ∙ ap (λ (n : ℕ). flat_map f (due_entities n es)) c.reach.ensures ∙ found_in_due c.args.search c.args.moment es)
    c.find_in_parts.ensures
