-- What is read off a change: numbers that end, locks that settlements use up, ids that are accepted.
use Rattle.std.specs.Prelude.{ℕ, ◌+◌, List, [], ◌∷◌, ◌++◌, if◌then◌else◌, map, filter, Option, Some, None}
use Rattle.std.specs.List.{flat_map}
use Rattle.sb_machine.specs.Changes.{is_known}
use Rattle.sb_machine.specs.Leaves.{copy_in}
use Rattle.sb_machine.specs.Namespace.{is_entity, entity_of, leaf_of, key_of}
use Rattle.sb_machine.specs.declared.call.Part.{Part}
use Rattle.sb_machine.specs.declared.call.Part.TheVariants.{Main, Dead, Transfer}
use Rattle.sb_machine.specs.declared.change.Cause.{Cause}
use Rattle.sb_machine.specs.declared.change.Cause.TheVariants.{Removed}
use Rattle.sb_machine.specs.declared.change.Change.{Change}
use Rattle.sb_machine.specs.declared.change.Change.TheVariants.{InLeaf, Notes, Removes}
use Rattle.sb_machine.specs.declared.change.LeafChange.{LeafChange}
use Rattle.sb_machine.specs.declared.change.LeafChange.TheVariants.{Passes, Ends, Stands}
use Rattle.sb_machine.specs.declared.change.LeafKey.{LeafKey}
use Rattle.sb_machine.specs.declared.state.Entity.{Entity}
use Rattle.sb_machine.specs.declared.state.Leaf.{Leaf}
use Rattle.sb_machine.specs.declared.state.Space.{Space}
use Rattle.sb_machine.specs.declared.state.Standing.{Standing}
use Rattle.sb_machine.specs.declared.state.Standing.TheVariants.{Ready, Deferred, Held, Scheduled}
use Rattle.sb_machine.specs.declared.state.StoredCopy.{StoredCopy}

-- ---- numbers that end

-- a number of a part that ended, and why
pub record End : Type 0 where
  pub leaf : LeafKey
  pub number : ℕ
  pub cause : Cause

-- the end of a message's number in a part, for a cause
abbrev pub ended : LeafKey → Cause → ℕ → End
ended key cause n = record { leaf = key; number = n; cause = cause }

-- the end of a message's number, if the message is there
abbrev pub ended_copy : LeafKey → Cause → Option StoredCopy → List End
ended_copy key cause None = []
ended_copy key cause (Some c) = ended key cause c.number ∷ []

-- the ends in a change of one part
abbrev pub leaf_ends : LeafKey → LeafChange → Leaf → List End
leaf_ends key (Passes cause) leaf = ended key cause (leaf.last + 1) ∷ []
leaf_ends key (Ends n settled cause) leaf = ended_copy key cause (copy_in n leaf)
leaf_ends key _ leaf = []

-- the ends of all messages of a part, whose entity is removed
abbrev pub removed_in : Entity → Part → List End
removed_in e part = map (λ c. ended (key_of part e) Removed c.number) (leaf_of part e).copies

-- the ends of all messages of an entity that is removed
abbrev pub removed_with : Entity → List End
removed_with e = removed_in e Main ++ removed_in e Dead ++ removed_in e Transfer

-- what is read of a part's change, where its entity is
abbrev pub of_leaf : {X : Type 0} → LeafKey → (Leaf → List X) → Option Entity → List X
of_leaf key f None = []
of_leaf key f (Some e) = f (leaf_of key.part e)

-- the ends in a change, read in the namespace before it
abbrev pub ends_in : ℕ → Change → Space → List End
ends_in t (InLeaf key c) s = of_leaf key (leaf_ends key c) (entity_of key.entity s)
ends_in t (Removes n) s = flat_map removed_with (filter (is_entity n) s.entities)
ends_in t _ s = []

-- ---- locks that settlements use up

-- the lock under which a message stands, if it is held
abbrev pub lock_in : Standing → List ℕ
lock_in (Held lock hold deferred) = lock ∷ []
lock_in Ready = []
lock_in Deferred = []
lock_in (Scheduled at) = []

-- the lock of a message, if it is there and held
abbrev pub lock_of : Option StoredCopy → List ℕ
lock_of None = []
lock_of (Some c) = lock_in c.standing

-- the lock that a change of one part uses up, where it is a settlement
abbrev pub leaf_spends : LeafChange → Leaf → List ℕ
leaf_spends (Ends n settled cause) leaf = if settled then lock_of (copy_in n leaf) else []
leaf_spends (Stands n settled count standing) leaf = if settled then lock_of (copy_in n leaf) else []
leaf_spends _ leaf = []

-- the locks that a change uses up, read in the namespace before it
abbrev pub spends_in : ℕ → Change → Space → List ℕ
spends_in t (InLeaf key c) s = of_leaf key (leaf_spends c) (entity_of key.entity s)
spends_in t _ s = []

-- ---- ids that are accepted under a window

-- an id that was accepted: by which entity, when, and with which window
pub record Noted : Type 0 where
  pub entity : ℕ
  pub id : List ℕ
  pub moment : ℕ
  pub window : ℕ

-- the acceptance of an id by an entity that detects duplicates, unless the id is known there
abbrev pub noted_on : List ℕ → ℕ → Entity → List Noted
noted_on id t e = elim e.about.description.window [
  | Some window ↦ (if is_known window id t e.ids then [] else record { entity = e.about.number; id = id; moment = t; window = window } ∷ [])
  | None ↦ []
]

-- the ids that a change accepts, read in the namespace before it
abbrev pub notes_in : ℕ → Change → Space → List Noted
notes_in t (Notes n id) s = elim (entity_of n s) [ Some e ↦ noted_on id t e | None ↦ [] ]
notes_in t _ s = []
