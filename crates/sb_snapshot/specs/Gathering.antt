-- Putting a state together, an entity at a time.
use Rattle.std.specs.Prelude.{List, [], ◌∷◌, Bool, false, Option, Some, None, if◌then◌else◌}
use Rattle.sb_machine.specs.declared.change.LeafKey.{LeafKey}
use Rattle.sb_machine.specs.declared.state.Entity.{Entity}
use Rattle.sb_machine.specs.declared.state.Leaf.{Leaf}
use Rattle.sb_snapshot.specs.Base.{lies_in, behind, leaf_with, has_parts, entity_with}
use Rattle.sb_snapshot.specs.declared.parts.EntityHead.{EntityHead}
use Rattle.sb_snapshot.specs.declared.parts.PlacedLeaf.{PlacedLeaf}
use Rattle.sb_snapshot.specs.declared.parts.PlacedSession.{PlacedSession}

-- whether a session that lies in this part stands at the front
abbrev pub starts_in : LeafKey → List PlacedSession → Bool
starts_in key [] = false
starts_in key (x ∷ xs) = lies_in key x

-- the three parts at the front
abbrev pub first_three : List PlacedLeaf → Option (PlacedLeaf × PlacedLeaf × PlacedLeaf)
first_three (m ∷ d ∷ t ∷ leaves) = Some (m, d, t)
first_three _ = None

-- three parts, each with the sessions at the front that lie in it
abbrev pub leaves_with : PlacedLeaf → PlacedLeaf → PlacedLeaf → List PlacedSession → Leaf × Leaf × Leaf
leaves_with m d t xs = (leaf_with m xs, leaf_with d (behind m.key xs), leaf_with t (behind d.key (behind m.key xs)))

-- the sessions behind those that lie in these parts
abbrev pub behind_three : PlacedLeaf → PlacedLeaf → PlacedLeaf → List PlacedSession → List PlacedSession
behind_three m d t xs = behind t.key (behind d.key (behind m.key xs))

-- The entity that has this head, the three parts at the front and the sessions that lie in them; and the parts and sessions behind these.
abbrev pub first_entity : EntityHead → List PlacedLeaf → List PlacedSession → Option (Entity × (List PlacedLeaf × List PlacedSession))
first_entity e (m ∷ d ∷ t ∷ leaves) xs = if has_parts e m d t then Some (entity_with e m d t xs, (leaves, behind_three m d t xs)) else None
first_entity e _ xs = None
