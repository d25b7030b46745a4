-- At which place a change needs a slot.
use Rattle.std.specs.Prelude.{ℕ, ◌==◌, ◌&&◌, Bool, true, false, List, sum_by, Option, Some, None, option_map}
use Rattle.sb_machine.specs.Names.{is_same_part}
use Rattle.sb_machine.specs.declared.call.Part.{Part}
use Rattle.sb_machine.specs.declared.change.Change.{Change}
use Rattle.sb_machine.specs.declared.change.Change.TheVariants.{InLeaf, Notes, Makes, AddsRule, Begins, Queues}
use Rattle.sb_machine.specs.declared.change.LeafChange.{LeafChange}
use Rattle.sb_machine.specs.declared.change.LeafChange.TheVariants.{Enters, Holds, Opens, Stands}
use Rattle.sb_machine.specs.declared.state.Standing.{Standing}
use Rattle.sb_machine.specs.declared.state.Standing.TheVariants.{Held}
use Rattle.sb_entities.specs.declared.change.EntityChange.{EntityChange}
use Rattle.sb_entities.specs.declared.change.EntityChange.TheVariants.{InPart, NotesId, GainsRule, LosesRule}
use Rattle.sb_entities.specs.declared.place.EntityPlace.{EntityPlace}
use Rattle.sb_entities.specs.declared.place.EntityPlace.TheVariants.{OfPart, Ids, Rules}
use Rattle.sb_entities.specs.declared.place.PartPlace.{PartPlace}
use Rattle.sb_entities.specs.declared.place.PartPlace.TheVariants.{Copies, Sessions, Locks}
use Rattle.sb_entities.specs.declared.place.Place.{Place}
use Rattle.sb_entities.specs.declared.place.Place.TheVariants.{Entities, Transactions, InEntity, InTransaction}

-- ---- where a change needs a slot

-- what a message adds to that stands so from then on, if anything: one that is held does to the locks
abbrev pub place_to_stand : Standing → Option PartPlace
place_to_stand (Held lock hold deferred) = Some Locks
place_to_stand _ = None

-- the list of a part that a change of it adds to, if any
abbrev pub part_place : LeafChange → Option PartPlace
part_place (Enters fresh) = Some Copies
part_place (Opens id until) = Some Sessions
part_place (Holds n hold) = Some Locks
part_place (Stands n settled count standing) = place_to_stand standing
part_place _ = None

-- the list of an entity that a change of it adds to, if any
abbrev pub entity_place : EntityChange → Option EntityPlace
entity_place (InPart part lock c) = option_map (OfPart part) (part_place c)
entity_place (NotesId id) = Some Ids
entity_place (GainsRule rule) = Some Rules
entity_place (LosesRule name) = None

-- the same of a part in the namespace
abbrev pub place_in_part : ℕ → Part → LeafChange → Option Place
place_in_part n part c = option_map (λ x. InEntity n (OfPart part x)) (part_place c)

-- the list that a change adds to, if any
abbrev pub place_of : Change → Option Place
place_of (InLeaf key c) = place_in_part key.entity key.part c
place_of (Notes n id) = Some (InEntity n Ids)
place_of (AddsRule n rule) = Some (InEntity n Rules)
place_of (Makes kind path description rules) = Some Entities
place_of (Begins n deadline) = Some Transactions
place_of (Queues n deadline operation) = Some (InTransaction n)
place_of _ = None

-- ---- how many slots are needed at a place

-- whether two are the same list of a part
abbrev pub is_same_part_place : PartPlace → PartPlace → Bool
is_same_part_place Copies Copies = true
is_same_part_place Sessions Sessions = true
is_same_part_place Locks Locks = true
is_same_part_place _ _ = false

-- whether two are the same list of an entity
abbrev pub is_same_entity_place : EntityPlace → EntityPlace → Bool
is_same_entity_place (OfPart a x) (OfPart b y) = is_same_part a b && is_same_part_place x y
is_same_entity_place Ids Ids = true
is_same_entity_place Rules Rules = true
is_same_entity_place _ _ = false

-- whether two are the same list of the namespace
abbrev pub is_same_place : Place → Place → Bool
is_same_place Entities Entities = true
is_same_place Transactions Transactions = true
is_same_place (InEntity m p) (InEntity n q) = (m == n) && is_same_entity_place p q
is_same_place (InTransaction m) (InTransaction n) = m == n
is_same_place _ _ = false

-- 1 if so, else 0
abbrev pub one_if : Bool → ℕ
one_if true = 1
one_if false = 0

-- one, where this is the place
abbrev pub one_at : {X : Type 0} → (X → Bool) → Option X → ℕ
one_at is None = 0
one_at is (Some place) = one_if (is place)

-- how many slots of this list a change of a part takes
abbrev pub taken_in_part : PartPlace → LeafChange → ℕ
taken_in_part p c = one_at (is_same_part_place p) (part_place c)

-- how many slots of this list a change of an entity takes
abbrev pub taken_in : EntityPlace → EntityChange → ℕ
taken_in p c = one_at (is_same_entity_place p) (entity_place c)

-- how many slots of this list a change takes
abbrev pub taken : Place → Change → ℕ
taken p c = one_at (is_same_place p) (place_of c)

-- how many slots of this list these changes take
abbrev pub asked : Place → List Change → ℕ
asked p cs = sum_by (taken p) cs
