-- When something of an entity comes due by itself.
use Rattle.std.specs.Prelude.{ℕ, min, nat_le, Bool, true, false, List, map, filter}
use Rattle.std.specs.List.{fold}
use Rattle.sb_copies.specs.Dues.{least_of, never}
use Rattle.sb_machine.specs.declared.state.Entity.{Entity}
use Rattle.sb_machine.specs.declared.state.Leaf.{Leaf}
use Rattle.sb_sessions.specs.Ends.{least_end}

-- the least moment at which a message or a session of a part comes due, where messages expire or don't
abbrev pub leaf_due : Bool → Leaf → ℕ
leaf_due expires leaf = min (least_of expires leaf.copies) (least_end leaf.sessions)

-- the least moment at which something of an entity does: in its main part alone messages expire
abbrev pub entity_due : Entity → ℕ
entity_due e = min (leaf_due true e.main) (min (leaf_due false e.dead) (leaf_due false e.transfer))

-- the least moment at which something of these entities does
abbrev pub least_due_of : List Entity → ℕ
least_due_of entities = fold min never (map entity_due entities)

-- something of an entity has come due by then
abbrev pub is_due_by : ℕ → Entity → Bool
is_due_by moment e = nat_le (entity_due e) moment

-- those of which something has
abbrev pub due_entities : ℕ → List Entity → List Entity
due_entities moment entities = filter (is_due_by moment) entities
