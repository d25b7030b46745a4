-- A namespace with the slots that it promises, and what changes there.
use Rattle.std.specs.Prelude.{◌≡◌, ℕ, ◌+◌, ◌-◌, ◌≤◌, ◌<◌, not, Bool, List, [], ◌∷◌, ◌++◌, find, filter, map, sum_by, IfSome, Option, Some, None}
use Rattle.sb_machine.specs.Changes.{noted, with_rules, rule_added, rule_dropped, max_number}
use Rattle.sb_machine.specs.Each.{Each}
use Rattle.sb_machine.specs.Keyed.{changed}
use Rattle.sb_machine.specs.Leaves.{leaf_after, copies_given, locks_given}
use Rattle.sb_machine.specs.Namespace.{is_entity, leaf_of, with_leaf, made_in, new_entity}
use Rattle.sb_machine.specs.declared.change.Change.{Change}
use Rattle.sb_machine.specs.declared.change.Change.TheVariants.{InLeaf, Notes, Makes, Removes, AddsRule, DropsRule, Begins, Queues, Drops}
use Rattle.sb_machine.specs.declared.state.Entity.{Entity}
use Rattle.sb_machine.specs.declared.state.Listed.{Listed}
use Rattle.sb_machine.specs.declared.state.Space.{Space}
use Rattle.sb_txn.specs.Txns.{Table, Opened, transactions_of, has_txn, begun, with_queued, is_elsewhere}
use Rattle.sb_entities.specs.Places.{asked}
use Rattle.sb_entities.specs.Transactions.{txn_number}
use Rattle.sb_entities.specs.Rooms.{Room, spare_in, grown, used, HasRoom}
use Rattle.sb_entities.specs.declared.change.EntityChange.{EntityChange}
use Rattle.sb_entities.specs.declared.change.EntityChange.TheVariants.{InPart, NotesId, GainsRule, LosesRule}
use Rattle.sb_entities.specs.declared.place.EntityPlace.{EntityPlace}
use Rattle.sb_entities.specs.declared.place.Place.{Place}
use Rattle.sb_entities.specs.declared.place.Place.TheVariants.{Entities, Transactions, InEntity, InTransaction}

-- ---- one entity

-- an entity with its slots
pub record Entry : Type 0 where
  pub entity : Entity
  pub room : Room

-- whether an entry is that of the entity of this number
abbrev pub has_number : ℕ → Entry → Bool
has_number n x = is_entity n x.entity

-- no slots
abbrev pub no_room : Room
no_room = record {
  ids = 0;
  rules = 0;
  main = record { copies = 0; sessions = 0; locks = 0 };
  dead = record { copies = 0; sessions = 0; locks = 0 };
  transfer = record { copies = 0; sessions = 0; locks = 0 };
}

-- a new entity, which has no slots yet
abbrev pub new_entry : Listed → Entry
new_entry about = record { entity = new_entity about; room = no_room }

-- an entity after a change at a moment
abbrev pub entity_after : ℕ → EntityChange → Entity → Entity
entity_after t (InPart part lock c) e = with_leaf part (leaf_after lock t c (leaf_of part e)) e
entity_after t (NotesId id) e = record e { ids = noted e.about.description.window id t e.ids }
entity_after t (GainsRule rule) e = with_rules (rule_added rule) e
entity_after t (LosesRule name) e = with_rules (rule_dropped name) e

-- an entity after a change, which has taken its slot
abbrev pub entry_after : ℕ → EntityChange → Entry → Entry
entry_after t c x = record { entity = entity_after t c x.entity; room = used c x.room }

-- an entity with one slot more
abbrev pub entry_grown : EntityPlace → Entry → Entry
entry_grown p x = record x { room = grown p x.room }

-- the copy numbers that a change gives
abbrev pub given_in : EntityChange → ℕ
given_in (InPart part lock c) = copies_given c
given_in _ = 0

-- what a change needs of the entity: its room, and that no number passes the greatest
abbrev pub IsReady : EntityChange → Entry → Type 0
IsReady c x = HasRoom c x.room × (made_in x.entity + given_in c ≤ max_number)

-- ---- the whole

-- a namespace with its slots
pub record Stock : Type 0 where
  pub salt : ℕ
  pub last_entity : ℕ
  pub last_lock : ℕ
  pub last_txn : ℕ
  pub removed : ℕ
  pub entries : List Entry
  -- so many more entities may be made
  pub spare : ℕ
  pub txns : Table

-- the namespace without its slots
abbrev pub space_of : Stock → Space
space_of k = record {
  salt = k.salt;
  last_entity = k.last_entity;
  last_lock = k.last_lock;
  last_txn = k.last_txn;
  removed = k.removed;
  entities = map (λ x. x.entity) k.entries;
  transactions = transactions_of k.txns.rows;
}

-- entries with f done to that of the entity of this number
abbrev pub on_entry : ℕ → (Entry → Entry) → List Entry → List Entry
on_entry n f xs = changed (has_number n) (λ x. f x ∷ []) xs

-- open transactions with f done to the one of this number
abbrev pub on_txn : ℕ → (Opened → Opened) → List Opened → List Opened
on_txn n f rows = changed (has_txn n) (λ r. f r ∷ []) rows

-- after a change at a moment, which takes the slots that it needs
abbrev pub stock_after : ℕ → Change → Stock → Stock
stock_after t (InLeaf key c) k = record k { last_lock = k.last_lock + locks_given c; entries = on_entry key.entity (entry_after t (InPart key.part (k.last_lock + 1) c)) k.entries }
stock_after t (Notes n id) k = record k { entries = on_entry n (entry_after t (NotesId id)) k.entries }
stock_after t (Makes kind path description rules) k = record k {
  last_entity = k.last_entity + 1;
  entries = k.entries ++ new_entry (record { number = k.last_entity + 1; kind = kind; path = path; description = description; rules = rules }) ∷ [];
  spare = k.spare - 1;
}
stock_after t (Removes n) k = record k {
  removed = k.removed + sum_by (λ x. made_in x.entity) (filter (has_number n) k.entries);
  entries = filter (λ x. not (has_number n x)) k.entries;
  txns = record k.txns { rows = filter (λ r. is_elsewhere n r.transaction) k.txns.rows };
}
stock_after t (AddsRule n rule) k = record k { entries = on_entry n (entry_after t (GainsRule rule)) k.entries }
stock_after t (DropsRule n name) k = record k { entries = on_entry n (entry_after t (LosesRule name)) k.entries }
stock_after t (Begins n deadline) k = record k {
  last_txn = k.last_txn + 1;
  txns = record { rows = k.txns.rows ++ record { transaction = begun (k.last_txn + 1) n deadline; spare = 0 } ∷ []; spare = k.txns.spare - 1 };
}
stock_after t (Queues n deadline operation) k = record k { txns = record k.txns { rows = on_txn n (with_queued deadline operation) k.txns.rows } }
stock_after t (Drops n) k = record k { txns = record k.txns { rows = changed (has_txn n) (λ r. []) k.txns.rows } }

-- a transaction with a slot for one operation more
abbrev pub txn_grown : Opened → Opened
txn_grown r = record r { spare = r.spare + 1 }

-- one slot more is promised at a place
abbrev pub stock_grown : Place → Stock → Stock
stock_grown Entities k = record k { spare = k.spare + 1 }
stock_grown Transactions k = record k { txns = record k.txns { spare = k.txns.spare + 1 } }
stock_grown (InEntity n p) k = record k { entries = on_entry n (entry_grown p) k.entries }
stock_grown (InTransaction n) k = record k { txns = record k.txns { rows = on_txn n txn_grown k.txns.rows } }

-- where a change needs a slot, one more is promised
abbrev pub stock_grown_at : Option Place → Stock → Stock
stock_grown_at None k = k
stock_grown_at (Some p) k = stock_grown p k

-- ---- room

-- at this place so many slots are promised; what a list itself makes has none yet
abbrev pub Promises : Place → ℕ → Stock → Type 0
Promises Entities m k = m ≤ k.spare
Promises Transactions m k = m ≤ k.txns.spare
Promises (InEntity n p) m k = (0 < m → n ≤ k.last_entity) × IfSome (find (has_number n) k.entries) (λ x. m ≤ spare_in p x.room)
Promises (InTransaction n) m k = (0 < m → n ≤ k.last_txn) × Each (λ r. txn_number r ≡ n → m ≤ r.spare) k.txns.rows

-- at each place as many as these changes need there
abbrev pub PromisesAll : List Change → Stock → Type 0
PromisesAll cs k = (p : Place) → Promises p (asked p cs) k

-- a list is of an entity or a transaction whose number has been given
abbrev pub IsReached : Option Place → Stock → Type 0
IsReached None k = Unit {0}
IsReached (Some Entities) k = Unit {0}
IsReached (Some Transactions) k = Unit {0}
IsReached (Some (InEntity n p)) k = n ≤ k.last_entity
IsReached (Some (InTransaction n)) k = n ≤ k.last_txn

-- what one change needs
abbrev pub IsReadyAt : ℕ → EntityChange → List Entry → Type 0
IsReadyAt n c xs = IfSome (find (has_number n) xs) (IsReady c)

-- the slot that a change needs is there
abbrev pub HasRoomFor : Change → Stock → Type 0
HasRoomFor (InLeaf key c) k = IfSome (find (has_number key.entity) k.entries) (λ x. HasRoom (InPart key.part (k.last_lock + 1) c) x.room)
HasRoomFor (Notes n id) k = IfSome (find (has_number n) k.entries) (λ x. HasRoom (NotesId id) x.room)
HasRoomFor (Makes kind path description rules) k = 1 ≤ k.spare
HasRoomFor (AddsRule n rule) k = IfSome (find (has_number n) k.entries) (λ x. HasRoom (GainsRule rule) x.room)
HasRoomFor (Begins n deadline) k = 1 ≤ k.txns.spare
HasRoomFor (Queues n deadline operation) k = IfSome (find (has_txn n) k.txns.rows) (λ r. 1 ≤ r.spare)
HasRoomFor _ k = Unit {0}
