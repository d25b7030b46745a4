-- The bytes of a whole state, and the state that bytes spell.
use Rattle.std.specs.Prelude.{◌≡◌, ℕ, List, [], ◌∷◌, ◌++◌, length, map, drop, ◌==◌, ◌&&◌, Bool, Option, Some, None, if◌then◌else◌}
use Rattle.std.specs.List.{flat_map, take_while, prefix_len}
use Rattle.sb_machine.specs.Namespace.{leaf_of, key_of}
use Rattle.sb_machine.specs.declared.call.Part.{Part}
use Rattle.sb_machine.specs.declared.call.Part.TheVariants.{Main, Dead, Transfer}
use Rattle.sb_machine.specs.declared.change.LeafKey.{LeafKey}
use Rattle.sb_machine.specs.declared.state.Entity.{Entity}
use Rattle.sb_machine.specs.declared.state.Leaf.{Leaf}
use Rattle.sb_machine.specs.declared.state.State.{State}
use Rattle.sb_codec.specs.Forms.{Form, number64, ◌then◌, shaped}
use Rattle.sb_codec.specs.Messages.{any_next}
use Rattle.sb_codec.specs.Readers.{◌>>=◌}
use Rattle.sb_snapshot.specs.Entities.{head, is_next_head}
use Rattle.sb_snapshot.specs.Lists.{listed64, narrowed}
use Rattle.sb_snapshot.specs.Replies.{kept, is_next_kept}
use Rattle.sb_snapshot.specs.Sessions.{in_part, is_same_key, leaf, session, is_next_session}
use Rattle.sb_snapshot.specs.Transactions.{transaction, is_next_transaction}
use Rattle.sb_snapshot.specs.declared.parts.EntityHead.{EntityHead}
use Rattle.sb_snapshot.specs.declared.parts.Parts.{Parts}
use Rattle.sb_snapshot.specs.declared.parts.PlacedLeaf.{PlacedLeaf}
use Rattle.sb_snapshot.specs.declared.parts.PlacedSession.{PlacedSession}

-- ---- a state taken apart

-- an entity without its parts
abbrev pub head_of : Entity → EntityHead
head_of e = record { about = e.about; ids = e.ids }

-- a part without its sessions
abbrev pub placed_leaf : Entity → Part → PlacedLeaf
placed_leaf e part = record { key = key_of part e; last = (leaf_of part e).last; copies = (leaf_of part e).copies }

-- the three parts of an entity, in order
abbrev pub leaves_in : Entity → List PlacedLeaf
leaves_in e = placed_leaf e Main ∷ placed_leaf e Dead ∷ placed_leaf e Transfer ∷ []

-- the sessions of a part, each with the part's key
abbrev pub placed_sessions : Entity → Part → List PlacedSession
placed_sessions e part = map (in_part (key_of part e)) (leaf_of part e).sessions

-- the sessions of an entity, part by part
abbrev pub sessions_in : Entity → List PlacedSession
sessions_in e = placed_sessions e Main ++ (placed_sessions e Dead ++ placed_sessions e Transfer)

-- all that a state holds but for its salt, in the order of the base
abbrev pub parts_of : State → Parts
parts_of s = record {
  now = s.now;
  last_lock = s.space.last_lock;
  last_txn = s.space.last_txn;
  last_entity = s.space.last_entity;
  entities = map head_of s.space.entities;
  leaves = flat_map leaves_in s.space.entities;
  removed = s.space.removed;
  sessions = flat_map sessions_in s.space.entities;
  transactions = s.space.transactions;
  clients = s.clients;
}

-- ---- and put together again

-- whether a session lies in this part
abbrev pub lies_in : LeafKey → PlacedSession → Bool
lies_in key x = is_same_key x.key key

-- the sessions at the front that lie in this part
abbrev pub front_of : LeafKey → List PlacedSession → List PlacedSession
front_of key xs = take_while (lies_in key) xs

-- those behind them
abbrev pub behind : LeafKey → List PlacedSession → List PlacedSession
behind key xs = drop (prefix_len (lies_in key) xs) xs

-- a part with the sessions at the front that lie in it
abbrev pub leaf_with : PlacedLeaf → List PlacedSession → Leaf
leaf_with l xs = record { last = l.last; copies = l.copies; sessions = map (λ x. x.session) (front_of l.key xs) }

-- whether this is that part of an entity
abbrev pub is_part : EntityHead → Part → PlacedLeaf → Bool
is_part e part l = is_same_key l.key (record { entity = e.about.number; part = part })

-- whether these are its three parts, in order
abbrev pub has_parts : EntityHead → PlacedLeaf → PlacedLeaf → PlacedLeaf → Bool
has_parts e m d t = is_part e Main m && (is_part e Dead d && is_part e Transfer t)

-- an entity with these three parts, each with its sessions
abbrev pub entity_with : EntityHead → PlacedLeaf → PlacedLeaf → PlacedLeaf → List PlacedSession → Entity
entity_with e m d t xs = record {
  about = e.about;
  ids = e.ids;
  main = leaf_with m xs;
  dead = leaf_with d (behind m.key xs);
  transfer = leaf_with t (behind d.key (behind m.key xs));
}

-- The entities with their parts and sessions. Each has its three parts, and no part or session is left over.
abbrev pub entities_with : List EntityHead → List PlacedLeaf → List PlacedSession → Option (List Entity)
entities_with [] [] [] = Some []
entities_with (e ∷ es) (m ∷ d ∷ t ∷ leaves) xs =
    if has_parts e m d t
    then (entities_with es leaves (behind t.key (behind d.key (behind m.key xs))) >>= λ others. Some (entity_with e m d t xs ∷ others))
    else None
entities_with _ _ _ = None

-- the state of this salt that has these entities and the rest of these parts
abbrev pub state_with : ℕ → Parts → List Entity → State
state_with salt p entities = record {
  now = p.now;
  clients = p.clients;
  space = record {
    salt = salt;
    last_entity = p.last_entity;
    last_lock = p.last_lock;
    last_txn = p.last_txn;
    removed = p.removed;
    entities = entities;
    transactions = p.transactions;
  };
}

-- the state that these parts make
unfoldable pub gathered : ℕ → Parts → Option State
gathered salt p = entities_with p.entities p.leaves p.sessions >>= λ entities. Some (state_with salt p entities)

-- ---- in bytes

-- the parts of a state, one behind the other
unfoldable pub parts : Form Parts
parts =
    shaped (λ x. record {
      now = x.0;
      last_lock = x.1.0;
      last_txn = x.1.1.0;
      last_entity = x.1.1.1.0;
      entities = x.1.1.1.1.0;
      leaves = x.1.1.1.1.1.0;
      removed = x.1.1.1.1.1.1.0;
      sessions = x.1.1.1.1.1.1.1.0;
      transactions = x.1.1.1.1.1.1.1.1.0;
      clients = x.1.1.1.1.1.1.1.1.1;
    })
    (λ p. (p.now, (p.last_lock, (p.last_txn, (p.last_entity, (p.entities, (p.leaves, (p.removed, (p.sessions, (p.transactions, p.clients))))))))))
    (number64 then number64 then number64 then number64 then listed64 is_next_head head then listed64 any_next leaf then number64
    then listed64 is_next_session session then listed64 is_next_transaction transaction then listed64 is_next_kept kept)

-- the form of the states of this salt
abbrev pub base : ℕ → Form State
base salt = narrowed (gathered salt) parts_of (λ s. s.space.salt ≡ salt) parts

-- ---- as others cite it

-- the bytes of a state, as they stand in the base of a journal's file
abbrev pub base_of : State → List ℕ
base_of s = parts.spell (parts_of s)

-- a state that has such bytes
abbrev pub HasSpelling : State → Type 0
HasSpelling s = parts.Fits (parts_of s)

-- What a writer asks of a state. All else that makes up a spelling its type says.
abbrev pub IsSpellable : State → Type 0
IsSpellable s = parts.Asks (parts_of s)

-- the state of this salt that these bytes spell, all of them
unfoldable pub state_of : ℕ → List ℕ → Option State
state_of salt bytes = (base salt).reads bytes >>= λ x. if length x.1 == 0 then Some x.0 else None
