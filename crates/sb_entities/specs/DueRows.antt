-- An index of entities by number, which tells when something of one comes due.
use Rattle.std.specs.Prelude.{◌≡◌, ℕ, ◌≤◌, false, List, [], ◌∷◌, map, find, Some, None}
use Rattle.std.specs.List.{flat_map}
use Rattle.std.specs.Option.{option_map_or}
use Rattle.sb_index.specs.Rows.{Indexed, changed}
use Rattle.sb_index.specs.declared.row.Row.{Row}
use Rattle.sb_machine.specs.Namespace.{is_entity}
use Rattle.sb_machine.specs.declared.state.Entity.{Entity}
use Rattle.sb_entities.specs.EntityDues.{entity_due}
use Rattle.sb_entities.specs.Tables.{number_of}

-- an entity's row
abbrev pub due_row : Entity → Row
due_row e = record { key = number_of e; value = number_of e; marked = false; due = entity_due e }

-- those of entities
abbrev pub due_rows : List Entity → List Row
due_rows entities = map due_row entities

-- an index has the rows of these entities, and promises nodes to so many more
pub record HoldsDues (spare : ℕ) (dues : Indexed) (entities : List Entity) : Type 0 where
  pub rows : dues.rows ≡ due_rows entities
  pub room : spare ≤ dues.spare

-- rows that are told when the entity of a number comes due, if it is there
abbrev pub told_due : ℕ → List Entity → List Row → List Row
told_due n entities rows = option_map_or (λ e. changed n false (entity_due e) rows) (find (is_entity n) entities) rows

-- the entity of a number, if it is there
abbrev pub one_of : ℕ → List Entity → List Entity
one_of n entities = elim (find (is_entity n) entities) [ Some e ↦ e ∷ [] | None ↦ [] ]

-- those of these numbers, in their order
abbrev pub those_of : List ℕ → List Entity → List Entity
those_of ns entities = flat_map (λ n. one_of n entities) ns
