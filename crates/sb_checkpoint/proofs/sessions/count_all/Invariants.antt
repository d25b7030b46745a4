use Rattle.std.proofs.Common.{◌≡◌, ◌%◌, ◌^◌, length, take}
use Rattle.std.specs.List.{flat_map}
use Rattle.sb_entities.specs.Stores.{entities_in}
use Rattle.sb_snapshot.specs.Base.{sessions_in}
use Rattle.sb_checkpoint.proofs.sessions.count_all.Given as goal

abbrev pub invariant-loop-entity : goal.invariant-loop-entity
invariant-loop-entity l = l.count ≡ length (flat_map sessions_in (entities_in (take l.entity-index l.entities))) % 2 ^ 64
