use Rattle.std.proofs.Common.{◌≡◌, ◌++◌, drop, map}
use Rattle.std.specs.List.{filter}
use Rattle.sb_entities.specs.Stores.{entities_in}
use Rattle.sb_machine.specs.Visits.{is_under}
use Rattle.sb_machine.specs.declared.change.Change.TheVariants.{Removes}
use Rattle.sb_engine.proofs.acts.delete.remove_under.Given as goal

-- those removed so far, and those still to be removed, are all
abbrev pub invariant-loop-entity : goal.invariant-loop-entity
invariant-loop-entity l =
    l.changes ++ map (λ x. Removes x.about.number) (filter (λ x. is_under l.topic x.about) (entities_in (drop l.entity-index l.entities)))
    ≡ l.initial.changes ++ map (λ x. Removes x.about.number) (filter (λ x. is_under l.topic x.about) (entities_in l.entities))
