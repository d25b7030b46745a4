-- What the bytes of a disk stand for: a whole file, a place of damage, or no file yet.
use Rattle.std.specs.Prelude.{◌+◌, ◌&&◌, ◌==◌, Bool, ℕ, zero, suc, List, [], ◌∷◌, length, take, drop, nat_le, slice_index, if◌then◌else◌, Option, Some, None, Result, Ok, Err}
use Rattle.std.specs.Int.{w32, w64, from_be_bytes}
use Rattle.std.specs.Str.{bytes_eq}
use Rattle.sb_journal.specs.Text.{File, magic, max_payload, max_count}

-- what the bytes of one disk are
pub data Framing : Type 0 where
  -- no file was made here, or not to its end
  Uncreated : Framing
  -- no file counts here, and more bytes stand here than the making of a file leaves: a journal whose first byte is another, or
  -- somebody else's file
  Occupied : Framing
  Whole : File → Framing
  -- the first place that can't be read
  Damaged : ℕ → Framing

-- the place of the first test that fails
abbrev pub first_failing : List (Bool × ℕ) → Option ℕ
first_failing [] = None
first_failing (test ∷ tests) = if test.0 then first_failing tests else Some test.1

-- a new file has so many bytes
abbrev pub new_length : ℕ
new_length = 43

-- a file counts here: it is as long as a new one, and its first gate is open
abbrev pub is_created : List ℕ → Bool
is_created bytes = nat_le new_length (length bytes) && (slice_index bytes 0 == 1)

-- the 8 bytes from this place on as a number
abbrev pub number_at : ℕ → List ℕ → ℕ
number_at place bytes = from_be_bytes w64 (take 8 (drop place bytes))

-- a number that a generation or a first number may be
abbrev pub is_count : ℕ → Bool
is_count n = nat_le 1 n && nat_le n max_count

-- magic, version, generation, first number
unfoldable pub head_fault : List ℕ → Option ℕ
head_fault bytes = first_failing (
    (bytes_eq (take 8 (drop 1 bytes)) magic, 1)
    ∷ (slice_index bytes 9 == 1, 9)
    ∷ (is_count (number_at 18 bytes), 18)
    ∷ (is_count (number_at 26 bytes), 26)
    ∷ [])

-- the length of the base, as the head says it
abbrev pub base_length : List ℕ → ℕ
base_length bytes = number_at 34 bytes

-- the base
abbrev pub base_in : List ℕ → List ℕ
base_in bytes = take (base_length bytes) (drop 42 bytes)

-- the place behind it, where the first gate is
abbrev pub behind_base : List ℕ → ℕ
behind_base bytes = 42 + base_length bytes

-- the length that is said behind a gate
abbrev pub payload_length : List ℕ → ℕ
payload_length rest = from_be_bytes w32 (take 4 rest)

-- a record of this number stands behind a gate: none of it is cut off, and its payload isn't too long
unfoldable pub is_record : ℕ → List ℕ → Bool
is_record number rest = nat_le 12 (length rest) && (nat_le (payload_length rest) max_payload && (nat_le (12 + payload_length rest) (length rest) && (from_be_bytes w64 (take 8 (drop 4 rest)) == number)))

-- payloads behind this one, or the place of damage
abbrev pub with_first : List ℕ → Result (List (List ℕ)) ℕ → Result (List (List ℕ)) ℕ
with_first payload (Ok payloads) = Ok (payload ∷ payloads)
with_first payload (Err place) = Err place

-- The payloads from the gate at this place on, up to the first gate that isn't open; or the place of the gate of a
-- record that can't be. The first number bounds how many are read.
abbrev pub read : ℕ → ℕ → ℕ → List ℕ → Result (List (List ℕ)) ℕ
read zero place number bytes = Ok []
read (suc turns) place number [] = Ok []
read (suc turns) place number (gate ∷ rest) =
    if gate == 1
    then (if is_record number rest
    then with_first (take (payload_length rest) (drop 12 rest)) (read turns (place + (13 + payload_length rest)) (number + 1) (drop (12 + payload_length rest) rest))
    else Err place)
    else Ok []

-- The payloads behind the base; or the place of damage: a base that is cut off is damaged at its own place.
unfoldable pub payloads_in : List ℕ → Result (List (List ℕ)) ℕ
payloads_in bytes =
    if nat_le (behind_base bytes) (length bytes)
    then read (length bytes) (behind_base bytes) (number_at 26 bytes) (drop (behind_base bytes) bytes)
    else Err 42

-- a file with this head and these payloads
abbrev pub file_with : List ℕ → List (List ℕ) → File
file_with bytes payloads = record { salt = number_at 10 bytes; generation = number_at 18 bytes; first = number_at 26 bytes; base = base_in bytes; payloads = payloads }

-- a file of these payloads, or the place of its damage
abbrev pub whole_or_damaged : List ℕ → Result (List (List ℕ)) ℕ → Framing
whole_or_damaged bytes (Ok payloads) = Whole (file_with bytes payloads)
whole_or_damaged bytes (Err place) = Damaged place

-- a file with a sound head, or the place where its head is damaged
abbrev pub sound_or_damaged : List ℕ → Option ℕ → Framing
sound_or_damaged bytes None = whole_or_damaged bytes (payloads_in bytes)
sound_or_damaged bytes (Some place) = Damaged place

-- where no file counts
abbrev pub free_or_occupied : List ℕ → Framing
free_or_occupied bytes = if nat_le (length bytes) new_length then Uncreated else Occupied

-- what these bytes stand for
unfoldable pub framing : List ℕ → Framing
framing bytes = if is_created bytes then sound_or_damaged bytes (head_fault bytes) else free_or_occupied bytes
