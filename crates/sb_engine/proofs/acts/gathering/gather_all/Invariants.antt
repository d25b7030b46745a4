use Rattle.std.proofs.Common.{◌≡◌, true}
use Rattle.std.specs.List.{list_all}
use Rattle.sb_entities.specs.Stores.{entity_in, space_in}
use Rattle.sb_laws.specs.Gathered.{read_steps}
use Rattle.sb_engine.specs.Commits.{is_front}
use Rattle.sb_engine.proofs.Gatherings.{IsGathering}
use Rattle.sb_engine.proofs.acts.gathering.gather_all.Given as goal

-- what is left gives all
abbrev pub invariant-loop-part : goal.invariant-loop-part
invariant-loop-part l =
    let s = space_in l.space in
    let e = entity_in l.entity in
    let own = l.initial.gathering in
    record {
      row : IsGathering s l.moment l.path e l.steps l.part (read_steps 0 s l.moment l.path e own.operations.items own.changes l.steps) l.gathering.operations.items l.gathering.changes;
      front : list_all is_front l.gathering.changes ≡ true;
    }
