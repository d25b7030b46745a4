-- The slots that an entity promises.
use Rattle.std.specs.Prelude.{ℕ, ◌+◌, ◌-◌, ◌≤◌}
use Rattle.sb_machine.specs.declared.call.Part.{Part}
use Rattle.sb_machine.specs.declared.call.Part.TheVariants.{Main, Dead, Transfer}
use Rattle.sb_machine.specs.declared.change.LeafChange.{LeafChange}
use Rattle.sb_machine.specs.declared.change.LeafChange.TheVariants.{Enters, Holds, Opens, Stands}
use Rattle.sb_copies.specs.ByLock.{locks_taken}
use Rattle.sb_entities.specs.declared.change.EntityChange.{EntityChange}
use Rattle.sb_entities.specs.declared.change.EntityChange.TheVariants.{InPart, NotesId, GainsRule, LosesRule}
use Rattle.sb_entities.specs.declared.place.EntityPlace.{EntityPlace}
use Rattle.sb_entities.specs.declared.place.EntityPlace.TheVariants.{OfPart, Ids, Rules}
use Rattle.sb_entities.specs.declared.place.PartPlace.{PartPlace}
use Rattle.sb_entities.specs.declared.place.PartPlace.TheVariants.{Copies, Sessions, Locks}

-- ---- of a part

-- how many messages and sessions more a part has slots for, and how many of its messages may come to be held
pub record PartRoom : Type 0 where
  pub copies : ℕ
  pub sessions : ℕ
  pub locks : ℕ

-- the slots of one of these lists
abbrev pub spare_in_part : PartPlace → PartRoom → ℕ
spare_in_part Copies r = r.copies
spare_in_part Sessions r = r.sessions
spare_in_part Locks r = r.locks

-- one slot more is promised
abbrev pub part_grown : PartPlace → PartRoom → PartRoom
part_grown Copies r = record r { copies = r.copies + 1 }
part_grown Sessions r = record r { sessions = r.sessions + 1 }
part_grown Locks r = record r { locks = r.locks + 1 }

-- a change takes the slots that it needs
abbrev pub part_used : LeafChange → PartRoom → PartRoom
part_used (Enters fresh) r = record r { copies = r.copies - 1 }
part_used (Opens id until) r = record r { sessions = r.sessions - 1 }
part_used (Holds n hold) r = record r { locks = r.locks - 1 }
part_used (Stands n settled count standing) r = record r { locks = r.locks - locks_taken standing }
part_used _ r = r

-- a part has the slot that a change of it needs
abbrev pub HasPartRoom : LeafChange → PartRoom → Type 0
HasPartRoom (Enters fresh) r = 1 ≤ r.copies
HasPartRoom (Opens id until) r = 1 ≤ r.sessions
HasPartRoom (Holds n hold) r = 1 ≤ r.locks
HasPartRoom (Stands n settled count standing) r = locks_taken standing ≤ r.locks
HasPartRoom _ r = Unit {0}

-- ---- of an entity

-- how much more an entity has slots for
pub record Room : Type 0 where
  pub ids : ℕ
  pub rules : ℕ
  pub main : PartRoom
  pub dead : PartRoom
  pub transfer : PartRoom

-- the slots of a part
abbrev pub part_room : Part → Room → PartRoom
part_room Main r = r.main
part_room Dead r = r.dead
part_room Transfer r = r.transfer

-- an entity's slots with those of one part anew
abbrev pub with_part_room : Part → PartRoom → Room → Room
with_part_room Main x r = record r { main = x }
with_part_room Dead x r = record r { dead = x }
with_part_room Transfer x r = record r { transfer = x }

-- the slots of one list of an entity
abbrev pub spare_in : EntityPlace → Room → ℕ
spare_in (OfPart part x) r = spare_in_part x (part_room part r)
spare_in Ids r = r.ids
spare_in Rules r = r.rules

-- one slot more is promised in a list of an entity
abbrev pub grown : EntityPlace → Room → Room
grown (OfPart part x) r = with_part_room part (part_grown x (part_room part r)) r
grown Ids r = record r { ids = r.ids + 1 }
grown Rules r = record r { rules = r.rules + 1 }

-- a change takes the slot that it needs of an entity
abbrev pub used : EntityChange → Room → Room
used (InPart part lock c) r = with_part_room part (part_used c (part_room part r)) r
used (NotesId id) r = record r { ids = r.ids - 1 }
used (GainsRule rule) r = record r { rules = r.rules - 1 }
used (LosesRule name) r = r

-- an entity has the slot that a change of it needs
abbrev pub HasRoom : EntityChange → Room → Type 0
HasRoom (InPart part lock c) r = HasPartRoom c (part_room part r)
HasRoom (NotesId id) r = 1 ≤ r.ids
HasRoom (GainsRule rule) r = 1 ≤ r.rules
HasRoom (LosesRule name) r = Unit {0}
