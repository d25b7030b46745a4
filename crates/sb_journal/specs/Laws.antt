-- Reading and writing files belong together, and what a whole file's bytes are.
use Rattle.std.specs.Prelude.{◌≡◌, ◌≢◌, ◌≤◌, ◌<◌, ◌^◌, ℕ, List, [], ◌∷◌, ◌++◌, length, replicate, take, drop, false}
use Rattle.sb_journal.specs.Text.{File, new_file, new_bytes, file_text, IsWithin, AreBytes, Spells}
use Rattle.sb_journal.specs.Framing.{Uncreated, Whole, framing, is_created, new_length}
use Rattle.sb_journal.specs.Choosing.{sided, chosen, is_unshut}
use Rattle.sb_journal.specs.declared.choosing.Choice.TheVariants.{Counts, Hurt}
use Rattle.sb_journal.specs.declared.found.Side.{Side}
use Rattle.sb_journal.specs.Opened.{Stands, Damage, opened, FindsNoneOrAll}
use Rattle.sb_journal.specs.declared.found.Side.TheVariants.{A, B}
use Rattle.sb_journal.specs.Crashes.{IsTornPair, LeavesFound}

-- a file is read back as itself: whatever stands behind a closed end gate
abbrev pub ReadsBack : Type 0
ReadsBack = (f : File) (gate : ℕ) (tail : List ℕ) → IsWithin f → gate ≢ 1 → framing (file_text f ++ gate ∷ tail) ≡ Whole f

-- and with its end gate missing, if there is a record
abbrev pub ReadsBackCut : Type 0
ReadsBackCut = (f : File) → IsWithin f → f.payloads ≢ [] → framing (file_text f) ≡ Whole f

-- no other bytes are read so
abbrev pub SpellsOnly : Type 0
SpellsOnly = (bytes : List ℕ) (f : File) → AreBytes bytes → length bytes ≤ 2 ^ 62 → framing bytes ≡ Whole f → Spells f bytes

-- the new file of the salt a1b2c3d4e5f60718, as a crash at rest leaves it
abbrev pub NewFileBytes : Type 0
NewFileBytes = new_bytes 11651590505119483672 1 1 []
    ≡ 1 ∷ 0x53 ∷ 0x42 ∷ 0x4e ∷ 0x53 ∷ 0x4a ∷ 0x52 ∷ 0x4e ∷ 0x4c ∷ 1
    ∷ 0xa1 ∷ 0xb2 ∷ 0xc3 ∷ 0xd4 ∷ 0xe5 ∷ 0xf6 ∷ 0x07 ∷ 0x18
    ∷ 0 ∷ 0 ∷ 0 ∷ 0 ∷ 0 ∷ 0 ∷ 0 ∷ 1
    ∷ 0 ∷ 0 ∷ 0 ∷ 0 ∷ 0 ∷ 0 ∷ 0 ∷ 1
    ∷ 0 ∷ 0 ∷ 0 ∷ 0 ∷ 0 ∷ 0 ∷ 0 ∷ 0
    ∷ 0 ∷ []

-- A file of generation 2 and first number 1 with a base of 80 bytes 00, which has 123 bytes.
abbrev pub NextFileBytes : Type 0
NextFileBytes =
    (new_bytes 11651590505119483672 2 1 (replicate 80 0)
    ≡ 1 ∷ 0x53 ∷ 0x42 ∷ 0x4e ∷ 0x53 ∷ 0x4a ∷ 0x52 ∷ 0x4e ∷ 0x4c ∷ 1
    ∷ 0xa1 ∷ 0xb2 ∷ 0xc3 ∷ 0xd4 ∷ 0xe5 ∷ 0xf6 ∷ 0x07 ∷ 0x18
    ∷ 0 ∷ 0 ∷ 0 ∷ 0 ∷ 0 ∷ 0 ∷ 0 ∷ 2
    ∷ 0 ∷ 0 ∷ 0 ∷ 0 ∷ 0 ∷ 0 ∷ 0 ∷ 1
    ∷ 0 ∷ 0 ∷ 0 ∷ 0 ∷ 0 ∷ 0 ∷ 0 ∷ 0x50
    ∷ replicate 81 0)
    × (length (new_bytes 11651590505119483672 2 1 (replicate 80 0)) ≡ 123)

-- what a crash left while records were added is found as the file with all of them or with none
abbrev pub TornIsFound : Type 0
TornIsFound = (file : File) (payloads : List (List ℕ)) (a b : List ℕ) → IsTornPair file payloads a b → FindsNoneOrAll file payloads a b

-- and stays so through crashes during openings, however many
abbrev pub TornIsKept : Type 0
TornIsKept = (salt : ℕ) (file : File) (payloads : List (List ℕ)) (a b x y : List ℕ) → IsTornPair file payloads a b → LeavesFound salt a b x y → IsTornPair file payloads x y

-- Where no file counts, what is longer than a new file is never taken for none: that of disk a is told, or else that of disk b.
abbrev pub OtherIsRefused : Type 0
OtherIsRefused = (salt : ℕ) (a b : List ℕ) → is_created a ≡ false → is_created b ≡ false
    → (new_length < length a → opened a b salt ≡ Damage A 0) × (length a ≤ new_length → new_length < length b → opened a b salt ≡ Damage B 0)

-- what a crash left while a first file was made is opened as a new one
abbrev pub NewIsFound : Type 0
NewIsFound = (salt : ℕ) (a b x y : List ℕ) → salt < 2 ^ 64 → framing a ≡ Uncreated → framing b ≡ Uncreated → is_unshut b ≡ false → LeavesFound salt a b x y → opened x y salt ≡ Stands A (new_file salt 1 1 [])

-- Of two created files the one of greater generation is read, whichever disk it stands on.
abbrev pub GreaterIsFound : Type 0
GreaterIsFound = (salt : ℕ) (f g : File) (x y : List ℕ) → framing x ≡ Whole f → framing y ≡ Whole g → f.generation < g.generation → (opened x y salt ≡ Stands B g) × (opened y x salt ≡ Stands A g)

-- Two of one generation are damage of disk b, at the generation's place.
abbrev pub SameIsDamage : Type 0
SameIsDamage = (salt : ℕ) (f g : File) (x y : List ℕ) → framing x ≡ Whole f → framing y ≡ Whole g → f.generation ≡ g.generation → opened x y salt ≡ Damage B 18

-- A file beside which none counts is chosen, on either disk.
abbrev pub OneIsChosen : Type 0
OneIsChosen = (side : Side) (f : File) (x y : List ℕ) → framing x ≡ Whole f → is_created y ≡ false → chosen (sided side x y) (sided side y x) ≡ Counts side

-- The first 44 bytes of both disks say which is.
abbrev pub FrontsChoose : Type 0
FrontsChoose = (a b : List ℕ) → chosen (take 44 a) (take 44 b) ≡ chosen a b

-- by the heads of new files, one without a base, of another version, and of bytes that may be another file
abbrev pub ChoiceIsWorked : Type 0
ChoiceIsWorked =
    (chosen [] [] ≡ Counts A)
    × (chosen [] (new_bytes 5 1 1 []) ≡ Counts B)
    × (chosen (new_bytes 5 1 1 []) [] ≡ Counts A)
    × (chosen (new_bytes 5 1 1 []) (new_bytes 5 2 7 (1 ∷ 2 ∷ [])) ≡ Counts B)
    × (chosen (new_bytes 5 3 9 []) (new_bytes 5 2 7 (1 ∷ 2 ∷ [])) ≡ Counts A)
    × (chosen (new_bytes 5 2 7 []) (new_bytes 6 2 1 []) ≡ Hurt B 18)
    × (chosen (new_bytes 5 1 1 []) (take 9 (new_bytes 5 1 1 []) ++ 2 ∷ drop 10 (new_bytes 5 1 1 [])) ≡ Hurt B 9)
    × (chosen [] (0x58 ∷ new_bytes 5 1 1 []) ≡ Hurt B 0)
    × (chosen (new_bytes 5 1 1 []) (0x58 ∷ new_bytes 5 1 1 []) ≡ Counts A)
    × (chosen (0x58 ∷ new_bytes 5 1 1 []) (0x58 ∷ new_bytes 5 1 1 []) ≡ Hurt A 0)
