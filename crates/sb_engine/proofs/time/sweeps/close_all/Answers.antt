use Rattle.std.proofs.Common.{List, ap, map, subst, ◌++◌, ◌∙◌, ◌≡◌}
use Rattle.std.specs.Prelude.{OnOk}
use Rattle.std.specs.List.{flat_map}
use Rattle.sb_machine.specs.Due.{closes_in}
use Rattle.sb_machine.specs.declared.call.Part.TheVariants.{Dead, Main, Transfer}
use Rattle.sb_machine.specs.declared.change.Change.{Change}
use Rattle.sb_machine.specs.declared.state.Entity.{Entity}
use Rattle.sb_entities.specs.Stores.{entity_in, space_in}
use Rattle.sb_engine.proofs.DueEntities.{closed_in_due}
use Rattle.sb_engine.proofs.time.sweeps.close_all.Goals as goal

pub returns : goal.returns
returns c =
    let t = c.args.moment in
    let f : Entity → List Change = λ e. closes_in t e Main ++ closes_in t e Dead ++ closes_in t e Transfer in
    subst (λ (closed : List Change). OnOk c.close_each.result (c.close_each.new.changes ≡ c.args.changes.now ++ closed))
    (ap (λ xs. flat_map f (map (λ x. entity_in x.now) xs)) c.deref.ensures.value ∙ ap (flat_map f) c.in_ok-due.ensures ∙ closed_in_due t (space_in c.args.space.now).entities)
    c.close_each.ensures
