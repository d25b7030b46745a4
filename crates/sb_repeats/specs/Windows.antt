-- The ids that were accepted in one entity, as contracts see them, and the rows that tell which are there.
use Rattle.std.specs.Prelude.{◌≡◌, ℕ, ◌+◌, ◌*◌, ◌-◌, ◌^◌, ◌<◌, ◌==◌, ◌&&◌, Bool, false, not, List, [], ◌∷◌, Option, Some, None, nat_lt, nat_le, bytes_eq, if◌then◌else◌}
use Rattle.std.specs.List.{list_any}
use Rattle.sb_index.specs.Hashes.{hash}
use Rattle.sb_index.specs.Rows.{is_at, without}
use Rattle.sb_index.specs.declared.row.Row.{Row}
use Rattle.sb_machine.specs.Changes.{is_earlier, is_recent}
use Rattle.sb_machine.specs.Each.{Each, IsSorted}
use Rattle.sb_machine.specs.declared.state.AcceptedId.{AcceptedId}

-- the ids that an entity accepted, and how many more fit
pub record Remembered : Type 0 where
  -- by moment, then id
  pub ids : List AcceptedId
  -- so many more may be noted
  pub spare : ℕ

-- an id stands before another
abbrev pub comes_first : AcceptedId → AcceptedId → Bool
comes_first a b = is_earlier b.moment b.id a

-- their moments are of 64 bits
abbrev pub AreMoments : List AcceptedId → Type 0
AreMoments ids = Each (λ a. a.moment < 2 ^ 64) ids

-- the key of what comes to this number and was accepted at a moment: the number above, the moment in the lower 64 bits
abbrev pub key_at : ℕ → ℕ → ℕ
key_at number moment = number * 2 ^ 64 + moment

-- the key of an id
abbrev pub key_of : AcceptedId → ℕ
key_of a = key_at (hash a.id) a.moment

-- it has this key
abbrev pub has_key : ℕ → AcceptedId → Bool
has_key key a = key == key_of a

-- a row of a key is there just where an id of that key is
abbrev pub Tells : List Row → List AcceptedId → Type 0
Tells rows ids = (key : ℕ) → list_any (is_at key) rows ≡ list_any (has_key key) ids

-- they stand in order, and the rows tell of them
pub record AreTold (ids : List AcceptedId) (rows : List Row) : Type 0 where
  pub order : IsSorted comes_first ids
  pub moments : AreMoments ids
  pub tells : Tells rows ids

-- ---- what is asked of them

-- it was accepted at this moment, and it is this id
abbrev pub is_one : ℕ → List ℕ → AcceptedId → Bool
is_one moment id a = (a.moment == moment) && bytes_eq a.id id

-- whether an id was accepted at `at`, and so recently at t
abbrev pub is_known_at : ℕ → List ℕ → ℕ → ℕ → List AcceptedId → Bool
is_known_at window id t at ids = nat_lt t (at + 1000 * window) && list_any (is_one at id) ids

-- whether an id is known by what was accepted at `from` or later
abbrev pub is_known_from : ℕ → List ℕ → ℕ → ℕ → List AcceptedId → Bool
is_known_from window id t from ids = list_any (λ a. (bytes_eq a.id id && is_recent window t a) && nat_le from a.moment) ids

-- the moment of a row that was found, where its key is of this number
abbrev pub moment_in : ℕ → Option Row → Option ℕ
moment_in number None = None
moment_in number (Some x) = if nat_lt (x.key - number * 2 ^ 64) (2 ^ 64) then Some (x.key - number * 2 ^ 64) else None

-- whether what stands at a place is this id of this moment
abbrev pub is_one_in : ℕ → List ℕ → Option AcceptedId → Bool
is_one_in moment id None = false
is_one_in moment id (Some a) = is_one moment id a

-- ---- what is past

-- whether the first is past its window
abbrev pub is_first_past : ℕ → ℕ → List AcceptedId → Bool
is_first_past window t [] = false
is_first_past window t (x ∷ xs) = not (is_recent window t x)

-- the rows without that of the first id
abbrev pub without_first : List AcceptedId → List Row → List Row
without_first [] rows = rows
without_first (x ∷ xs) rows = without (key_of x) rows
