-- When a disk has a whole file on it, and what a crash may leave while a record is added, a file is made, or an opening goes on.
use Rattle.std.specs.Prelude.{◌≡◌, ◌⊎◌, ◌+◌, ◌≤◌, ℕ, List, [], ◌∷◌, ◌++◌, length, drop, max, slice_index, true, false}
use Rattle.sb_outside.specs.Held.{Held, IsImage, at_rest, is_written}
use Rattle.sb_journal.specs.declared.choosing.Choice.{Choice}
use Rattle.sb_journal.specs.declared.choosing.Choice.TheVariants.{Counts, Hurt}
use Rattle.sb_journal.specs.declared.found.Side.{Side}
use Rattle.sb_journal.specs.declared.found.Side.TheVariants.{A, B}
use Rattle.sb_journal.specs.Text.{File, framed, records, file_text, new_bytes, with_payloads, IsWithin}
use Rattle.sb_journal.specs.Framing.{Framing, Uncreated, Occupied, Whole, Damaged, framing, is_created}
use Rattle.sb_journal.specs.Choosing.{chosen, is_unshut}

-- The file and its closed end gate are on the disk, all of it safe. Behind the gate may stand what is left of a torn
-- record.
pub record Rests (held : Held) (end next : ℕ) (file : File) : Type 0 where
  pub tail : List ℕ
  pub held_is : held ≡ at_rest (file_text file ++ 0 ∷ tail)
  -- the place of the end gate
  pub end_is : end ≡ length (file_text file)
  -- the number of the next record
  pub next_is : next ≡ file.first + length file.payloads
  pub within : IsWithin file

-- The same while records are staged behind the closed end gate: these bytes were written there, and no other place was.
pub record Stages (held : Held) (end next : ℕ) (file : File) (written : List ℕ) : Type 0 where
  pub tail : List ℕ
  pub synced_is : held.synced ≡ file_text file ++ 0 ∷ tail
  pub seen_is : held.seen ≡ file_text file ++ 0 ∷ (written ++ drop (length written) tail)
  pub free : (k : ℕ) → (k ≤ end) ⊎ (end + 1 + length written ≤ k) → is_written k held.ranges ≡ false
  pub least_is : held.least ≡ length held.synced
  pub greatest_is : held.greatest ≡ length held.seen
  -- before the first of them all is safe
  pub fresh : written ≡ [] → held ≡ at_rest held.seen
  pub end_is : end ≡ length (file_text file)
  pub next_is : next ≡ file.first + length file.payloads
  pub within : IsWithin file

-- the file and a closed gate
abbrev pub IsShutFile : File → List ℕ → Type 0
IsShutFile file bytes = (tail : List ℕ) × (bytes ≡ file_text file ++ 0 ∷ tail)

-- from this place on they are the same
abbrev pub IsSameFrom : ℕ → (was bytes : List ℕ) → Type 0
IsSameFrom place was bytes = drop place bytes ≡ drop place was

-- the file, any gate, and behind it whole records of all these payloads and a closed gate
abbrev pub StandsGated : File → List (List ℕ) → List ℕ → Type 0
StandsGated file [] bytes = ⊥
StandsGated file (p ∷ ps) bytes = (gate : ℕ) × (tail : List ℕ) × (bytes ≡ file_text file ++ gate ∷ (framed (file.first + length file.payloads) p ++ (records (file.first + length file.payloads + 1) ps ++ 0 ∷ tail)))

-- What a crash may leave while records of these payloads are staged and sealed: the file and a closed gate, or the file, any gate, and
-- behind it all the records.
pub record IsTornGroup (file : File) (payloads : List (List ℕ)) (bytes : List ℕ) : Type 0 where
  pub within : IsWithin file
  pub within_after : IsWithin (with_payloads file payloads)
  pub stands : IsShutFile file bytes ⊎ StandsGated file payloads bytes

-- no file counts here, and at most so many bytes stand here
pub record HasNoFile (most : ℕ) (bytes : List ℕ) : Type 0 where
  pub none : is_created bytes ≡ false
  pub short : length bytes ≤ most

-- New bytes are being put in the place of old ones: the old ones stand unchanged, or no file counts, or all of the new ones stand.
abbrev pub IsOldNoneOrNew : (old new bytes : List ℕ) → Type 0
IsOldNoneOrNew old new bytes = (bytes ≡ old) ⊎ (HasNoFile (max (length old) (length new)) bytes ⊎ (bytes ≡ new))

-- in each image of this disk the file's gate is closed, and at most so many bytes stand there
pub record IsShut (most : ℕ) (held : Held) : Type 0 where
  pub some : 1 ≤ held.least
  pub kept : 1 ≤ length held.synced
  pub gate : slice_index held.synced 0 ≡ 0
  pub free : is_written 0 held.ranges ≡ false
  pub short : held.greatest ≤ most

-- Behind a closed gate stands this text; no crash now opens the gate.
pub record IsFilled (held : Held) (text : List ℕ) : Type 0 where
  pub seen_is : held.seen ≡ 0 ∷ text
  pub shut : IsShut held.greatest held

-- nothing counts here, nor is anything to be shut; or this text stands behind any gate
abbrev pub IsShutOrGated : List ℕ → (bytes : List ℕ) → Type 0
IsShutOrGated text bytes = (is_unshut bytes ≡ false) ⊎ ((gate : ℕ) × (bytes ≡ gate ∷ text))

-- The file's end gate was missing, or neither open nor closed: any bytes may stand from there on.
pub record IsTornEnd (file : File) (seen bytes : List ℕ) : Type 0 where
  pub rest : List ℕ
  pub is : bytes ≡ file_text file ++ rest
  pub torn : (tail : List ℕ) → seen ≡ file_text file ++ 0 ∷ tail → ⊥
  -- where there was one, its byte alone may be another
  pub behind : (was : ℕ) (tail : List ℕ) → seen ≡ file_text file ++ was ∷ tail → (gate : ℕ) × (bytes ≡ file_text file ++ gate ∷ tail)

-- What a crash during an opening may leave of the bytes that it found. Where a file is made for the first time, no more stands
-- there than its making leaves, so that the next opening makes it.
abbrev pub MayLeave : ℕ → List ℕ → Framing → List ℕ → Type 0
MayLeave salt seen Uncreated bytes = (framing bytes ≡ Uncreated) ⊎ (bytes ≡ new_bytes salt 1 1 [])
MayLeave salt seen Occupied bytes = bytes ≡ seen
MayLeave salt seen (Whole file) bytes = (bytes ≡ seen) ⊎ IsTornEnd file seen bytes
MayLeave salt seen (Damaged place) bytes = bytes ≡ seen

-- While what stands beside the file that counts is shut, its first byte alone may be another.
abbrev pub MayShut : (was bytes : List ℕ) → Type 0
MayShut was bytes = (bytes ≡ was) ⊎ ((is_unshut was ≡ true) × (gate : ℕ) × (bytes ≡ gate ∷ drop 1 was))

-- a crash now leaves no file that counts here, and nothing that an opening shuts
pub record IsAside (held : Held) : Type 0 where
  pub shut : (image : List ℕ) → IsImage held image → is_unshut image ≡ false
  pub seen : is_unshut held.seen ≡ false

-- ---- of the bytes of both disks

-- the file stands whole, behind a closed gate, and nothing counts beside it
abbrev pub IsShutPair : File → (a b : List ℕ) → Type 0
IsShutPair file a b = (IsShutFile file a × (is_unshut b ≡ false)) ⊎ (IsShutFile file b × (is_unshut a ≡ false))

-- what a crash may leave of the file while records are added
abbrev pub IsTornPair : File → List (List ℕ) → (a b : List ℕ) → Type 0
IsTornPair file payloads a b = (IsTornGroup file payloads a × (is_unshut b ≡ false)) ⊎ (IsTornGroup file payloads b × (is_unshut a ≡ false))

-- What a crash during an opening may leave of the bytes that it found on the disk of this side.
abbrev pub LeavesOf : ℕ → Choice → Side → (was bytes : List ℕ) → Type 0
LeavesOf salt (Counts A) A was bytes = MayLeave salt was (framing was) bytes
LeavesOf salt (Counts A) B was bytes = MayShut was bytes
LeavesOf salt (Counts B) A was bytes = MayShut was bytes
LeavesOf salt (Counts B) B was bytes = MayLeave salt was (framing was) bytes
LeavesOf salt (Hurt side place) at was bytes = bytes ≡ was

-- the bytes that an opening found on the two disks, and what a crash during it may leave there
abbrev pub LeavesFound : ℕ → (a b x y : List ℕ) → Type 0
LeavesFound salt a b x y = LeavesOf salt (chosen a b) A a x × LeavesOf salt (chosen a b) B b y
