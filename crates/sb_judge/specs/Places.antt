-- Entities by a hash of their addresses: which is the first that comes to one.
use Rattle.std.specs.Prelude.{◌≡◌, ℕ, ◌+◌, ◌/◌, ◌==◌, ◌&&◌, Bool, false, List, [], ◌∷◌, find, bytes_eq, Option, Some, None, if◌then◌else◌}
use Rattle.std.specs.BTreeMap.{BTreeMap, get}
use Rattle.std.specs.Ordering.{nat_cmp}
use Rattle.sb_index.specs.Hashes.{hash}
use Rattle.sb_machine.specs.Names.{is_same_option}
use Rattle.sb_machine.specs.declared.state.Entity.{Entity}

-- what a name and a second one, that may be left out, come to
abbrev pub path_hash : List ℕ → Option (List ℕ) → ℕ
path_hash name None = hash name
path_hash name (Some own) = hash name / 2 + hash own / 4

-- what an entity's address comes to
abbrev pub hash_of : Entity → ℕ
hash_of e = path_hash e.about.path.name e.about.path.subscription

-- the one, else the other
abbrev pub first_of : Option ℕ → Option ℕ → Option ℕ
first_of (Some n) other = Some n
first_of None other = other

-- the first place at which an entity comes to this, counted from one place
abbrev pub first_place : ℕ → ℕ → List Entity → Option ℕ
first_place k from [] = None
first_place k from (e ∷ es) = if hash_of e == k then Some from else first_place k (from + 1) es

-- a map tells of each hash the first place
abbrev pub Tells : BTreeMap ℕ ℕ → List Entity → Type 0
Tells map es = (k : ℕ) → get nat_cmp map k ≡ first_place k 0 es

-- whether an entity has this address
abbrev pub is_named : List ℕ → Option (List ℕ) → Entity → Bool
is_named name own e = bytes_eq e.about.path.name name && is_same_option e.about.path.subscription own

-- whether an entity is there, and has this number
abbrev pub has_number : ℕ → Option Entity → Bool
has_number n None = false
has_number n (Some e) = e.about.number == n

-- whether an entity is the first that has its address
abbrev pub is_first : List Entity → Entity → Bool
is_first es e = has_number e.about.number (find (is_named e.about.path.name e.about.path.subscription) es)
