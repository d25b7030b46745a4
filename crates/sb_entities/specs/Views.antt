-- The entity that stands in memory.
use Rattle.std.specs.Prelude.{List, map}
use Rattle.sb_machine.specs.declared.state.Entity.{Entity}
use Rattle.sb_machine.specs.declared.state.Leaf.{Leaf}
use Rattle.sb_entities.specs.declared.entity.EntityStore.{EntityStore}
use Rattle.sb_entities.specs.declared.part.PartStore.{PartStore}

-- a part as it stands in memory
abbrev pub leaf_in : PartStore → Leaf
leaf_in p = record { last = p.last; copies = p.copies.copies; sessions = p.sessions.sessions }

-- an entity as it stands in memory
abbrev pub entity_in : EntityStore → Entity
entity_in e = record {
  about = e.listing.about;
  ids = e.ids.ids;
  main = leaf_in e.main;
  dead = leaf_in e.dead;
  transfer = leaf_in e.transfer;
}

-- entities as they stand in memory
abbrev pub entities_in : List EntityStore → List Entity
entities_in rows = map entity_in rows
