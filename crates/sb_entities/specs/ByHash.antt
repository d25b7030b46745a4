-- Entities as rows in an index under hashes: where the row of one stands, and which rows are those of one hash.
use Rattle.std.specs.Prelude.{◌≡◌, ℕ, ◌+◌, ◌*◌, ◌/◌, ◌==◌, ◌&&◌, nat_le, Bool, false, List, map, find, Option, Some, None}
use Rattle.std.specs.List.{filter}
use Rattle.std.specs.Option.{option_and_then, option_map_or}
use Rattle.sb_index.specs.Hashes.{hash}
use Rattle.sb_index.specs.Rows.{is_below, is_from, with_row, without}
use Rattle.sb_index.specs.declared.row.Row.{Row}
use Rattle.sb_machine.specs.Namespace.{is_entity}
use Rattle.sb_machine.specs.declared.call.Path.{Path}
use Rattle.sb_machine.specs.declared.state.Entity.{Entity}
use Rattle.sb_copies.specs.Dues.{never}
use Rattle.sb_entities.specs.Tables.{number_of}

-- ---- what an address comes to

-- half a hash: keys of 128 bits then have room behind the last of them
abbrev pub name_hash : List ℕ → ℕ
name_hash name = hash name / 2

-- that of a name, and of a second that may be left out; the same two the other way round come to another
abbrev pub names_hash : List ℕ → Option (List ℕ) → ℕ
names_hash name None = name_hash name
names_hash name (Some own) = name_hash name / 2 + name_hash own / 4

-- that of an address, whatever its part
abbrev pub path_hash : Path → ℕ
path_hash path = names_hash path.name path.subscription

-- that of a topic's name, where there is a second
abbrev pub upper_hash : List ℕ → Option (List ℕ) → Option ℕ
upper_hash name None = None
upper_hash name (Some own) = Some (name_hash name)

-- that of the topic that the address of a subscription is under
abbrev pub topic_hash : Path → Option ℕ
topic_hash path = upper_hash path.name path.subscription

-- an entity's by its address
abbrev pub hash_of_path : Entity → Option ℕ
hash_of_path e = Some (path_hash e.about.path)

-- a subscription's by its topic
abbrev pub hash_of_topic : Entity → Option ℕ
hash_of_topic e = topic_hash e.about.path

-- that of the entity of this number
abbrev pub hash_at : (Entity → Option ℕ) → ℕ → List Entity → Option ℕ
hash_at f n es = option_and_then f (find (is_entity n) es)

-- whether an entity comes to this
abbrev pub is_hashed_to : (Entity → Option ℕ) → ℕ → Entity → Bool
is_hashed_to f h e = option_map_or (λ own. own == h) (f e) false

-- ---- rows

-- how many keys a hash has
abbrev pub span : ℕ
span = 18446744073709551616

-- the key under a hash of the entity of this number
abbrev pub entity_key : ℕ → ℕ → ℕ
entity_key h n = h * span + n

-- the row under a hash of the entity of this number
abbrev pub hash_row : ℕ → ℕ → Row
hash_row h n = record { key = entity_key h n; value = n; marked = false; due = never }

-- whether a row is under a hash
abbrev pub is_within : ℕ → Row → Bool
is_within h x = is_from (h * span) x && is_below (h * span + span) x

-- whether an entity's key under a hash is at least this one
abbrev pub is_left : ℕ → ℕ → Entity → Bool
is_left h from e = nat_le from (entity_key h (number_of e))

-- under each hash stand the rows of the entities that come to it, in their order
abbrev pub HoldsBy : (Entity → Option ℕ) → List Row → List Entity → Type 0
HoldsBy f rows es = (h : ℕ) → filter (is_within h) rows ≡ map (λ e. hash_row h (number_of e)) (filter (is_hashed_to f h) es)

-- ---- changes

-- with the row of the entity of this number, where it comes to a hash
abbrev pub with_entity : Option ℕ → ℕ → List Row → List Row
with_entity o n rows = option_map_or (λ h. with_row (hash_row h n) rows) o rows

-- without that row
abbrev pub without_entity : Option ℕ → ℕ → List Row → List Row
without_entity o n rows = option_map_or (λ h. without (entity_key h n) rows) o rows
