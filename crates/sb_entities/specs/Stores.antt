-- The namespace that a store in memory is.
use Rattle.std.specs.Prelude.{List, map}
use Rattle.sb_machine.specs.declared.change.Change.{Change}
use Rattle.sb_machine.specs.declared.state.Space.{Space}
use Rattle.sb_txn.specs.Txns.{transactions_of}
use Rattle.sb_entities.specs.Rooms.{PartRoom, Room}
use Rattle.sb_entities.specs.Stocks.{Entry, Stock, PromisesAll}
pub use Rattle.sb_entities.specs.Views.{leaf_in, entity_in, entities_in}
use Rattle.sb_entities.specs.declared.entity.EntityStore.{EntityStore}
use Rattle.sb_entities.specs.declared.part.PartStore.{PartStore}
use Rattle.sb_entities.specs.declared.space.SpaceStore.{SpaceStore}

-- the namespace that stands in memory
abbrev pub space_in : SpaceStore → Space
space_in s = record {
  salt = s.salt;
  last_entity = s.entities.last;
  last_lock = s.last_lock;
  last_txn = s.last_txn;
  removed = s.removed;
  entities = entities_in s.entities.rows;
  transactions = transactions_of s.txns.rows;
}

-- ---- with the slots that it promises

-- the slots of a part in memory
abbrev pub part_room_in : PartStore → PartRoom
part_room_in p = record { copies = p.copies.spare; sessions = p.sessions.spare; locks = p.copies.locks }

-- the slots of an entity in memory
abbrev pub room_in : EntityStore → Room
room_in e = record {
  ids = e.ids.spare;
  rules = e.listing.spare;
  main = part_room_in e.main;
  dead = part_room_in e.dead;
  transfer = part_room_in e.transfer;
}

-- an entity in memory, with its slots
abbrev pub entry_in : EntityStore → Entry
entry_in e = record { entity = entity_in e; room = room_in e }

-- entities in memory, with their slots
abbrev pub entries_in : List EntityStore → List Entry
entries_in rows = map entry_in rows

-- the namespace that stands in memory, with its slots
abbrev pub stock_in : SpaceStore → Stock
stock_in s = record {
  salt = s.salt;
  last_entity = s.entities.last;
  last_lock = s.last_lock;
  last_txn = s.last_txn;
  removed = s.removed;
  entries = entries_in s.entities.rows;
  spare = s.entities.spare;
  txns = s.txns;
}

-- the memory that carrying these changes out takes is there
abbrev pub IsRoomFor : List Change → SpaceStore → Type 0
IsRoomFor cs s = PromisesAll cs (stock_in s)
