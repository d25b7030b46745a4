-- The namespace: finding an entity and its parts, and the numbers given.
use Rattle.std.specs.Prelude.{ℕ, ◌+◌, ◌==◌, Bool, List, [], length, find, map, sum_by, Option, Some, None, true, false}
use Rattle.sb_machine.specs.Names.{is_same_entity}
use Rattle.sb_machine.specs.declared.call.Description.{Description}
use Rattle.sb_machine.specs.declared.call.Path.{Path}
use Rattle.sb_machine.specs.declared.call.Part.{Part}
use Rattle.sb_machine.specs.declared.call.Part.TheVariants.{Main, Dead, Transfer}
use Rattle.sb_machine.specs.declared.change.LeafKey.{LeafKey}
use Rattle.sb_machine.specs.declared.state.Entity.{Entity}
use Rattle.sb_machine.specs.declared.state.Leaf.{Leaf}
use Rattle.sb_machine.specs.declared.state.Listed.{Listed}
use Rattle.sb_machine.specs.declared.state.Space.{Space}
use Rattle.sb_machine.specs.declared.state.State.{State}

-- a part without messages and sessions, which has given no number
abbrev pub empty_leaf : Leaf
empty_leaf = record { last = 0; copies = []; sessions = [] }

-- what holds of an entity where nothing else is asked for
abbrev pub default_description : Description
default_description = record { lock = 60; ttl = None; max_delivery = 10; window = None; requires_session = false; dead_on_expiry = false; dead_on_fault = true; forward_to = None; forward_dead_to = None }

-- the address of a queue or topic itself, and of a part of it
abbrev pub part_path : Part → List ℕ → Path
part_path part name = record { name = name; subscription = None; part = part }

-- the address of a queue or a topic
abbrev pub entity_path : List ℕ → Path
entity_path = part_path Main

-- the address of a subscription
abbrev pub subscription_path : List ℕ → List ℕ → Path
subscription_path topic name = record { name = topic; subscription = Some name; part = Main }

-- an entity as it is made, with three empty parts
abbrev pub new_entity : Listed → Entity
new_entity about = record { about = about; ids = []; main = empty_leaf; dead = empty_leaf; transfer = empty_leaf }

-- a namespace with nothing in it
abbrev pub empty_space : ℕ → Space
empty_space salt = record { salt = salt; last_entity = 0; last_lock = 0; last_txn = 0; removed = 0; entities = []; transactions = [] }

-- a state that no call has changed
abbrev pub empty_state : ℕ → State
empty_state salt = record { now = 0; clients = []; space = empty_space salt }

-- ---- finding

-- what is listed of the entities
abbrev pub listed : Space → List Listed
listed s = map (λ e. e.about) s.entities

-- the entity that an address names
abbrev pub entity_at : Path → Space → Option Entity
entity_at path s = find (λ e. is_same_entity e.about.path path) s.entities

-- whether an entity has this number
abbrev pub is_entity : ℕ → Entity → Bool
is_entity n e = e.about.number == n

-- the entity of this number, if it is there
abbrev pub entity_of : ℕ → Space → Option Entity
entity_of n s = find (is_entity n) s.entities

-- a part of an entity
abbrev pub leaf_of : Part → Entity → Leaf
leaf_of Main e = e.main
leaf_of Dead e = e.dead
leaf_of Transfer e = e.transfer

-- the key of an entity's part
abbrev pub key_of : Part → Entity → LeafKey
key_of part e = record { entity = e.about.number; part = part }

-- an entity with this in the place of one of its parts
abbrev pub with_leaf : Part → Leaf → Entity → Entity
with_leaf Main leaf e = record e { main = leaf }
with_leaf Dead leaf e = record e { dead = leaf }
with_leaf Transfer leaf e = record e { transfer = leaf }

-- the last number given in a part; 0 where no such entity is
abbrev pub last_in : Part → Option Entity → ℕ
last_in part None = 0
last_in part (Some e) = (leaf_of part e).last

-- the last number that was given in the part of this key
abbrev pub last_at : LeafKey → Space → ℕ
last_at key s = last_in key.part (entity_of key.entity s)

-- ---- counting

-- the copy numbers given in an entity's parts
abbrev pub made_in : Entity → ℕ
made_in e = e.main.last + e.dead.last + e.transfer.last

-- all copy numbers ever given
abbrev pub made : Space → ℕ
made s = s.removed + sum_by made_in s.entities

-- the live copies of an entity's parts
abbrev pub live_in : Entity → ℕ
live_in e = length e.main.copies + length e.dead.copies + length e.transfer.copies

-- how many messages stand in the namespace
abbrev pub live : Space → ℕ
live s = sum_by live_in s.entities
