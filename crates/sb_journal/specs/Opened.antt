-- What two disks stand for, and what an opening says of it.
use Rattle.std.specs.Prelude.{◌≡◌, ◌⊎◌, ◌≤◌, ◌<◌, ◌+◌, ◌&&◌, ◌==◌, ◌^◌, ℕ, Bool, List, [], ◌∷◌, ◌++◌, Some, None, length, drop, nat_lt, slice_index, true, false}
use Rattle.sb_outside.specs.Held.{Held, at_rest}
use Rattle.sb_journal.specs.declared.found.Side.{Side}
use Rattle.sb_journal.specs.declared.found.Side.TheVariants.{A}
use Rattle.sb_journal.specs.declared.choosing.Choice.{Choice}
use Rattle.sb_journal.specs.declared.choosing.Choice.TheVariants.{Counts, Hurt}
use Rattle.sb_journal.specs.declared.choosing.Picked.{Picked}
use Rattle.sb_journal.specs.declared.found.Found.{Found}
use Rattle.sb_journal.specs.declared.reading.Head.{Head}
use Rattle.sb_journal.specs.declared.reading.HeadFault.{HeadFault}
use Rattle.sb_journal.specs.declared.reading.HeadFault.TheVariants.{NoHead, OtherHead, BadHead}
use Rattle.sb_journal.specs.declared.judge.Judge.{Ghosts}
use Rattle.sb_journal.specs.declared.judge.Judged.{Judged}
use Rattle.sb_journal.specs.declared.base.Based.{Based}
use Rattle.sb_journal.specs.declared.reading.Stand.{Stand}
use Rattle.sb_journal.specs.declared.reading.Records.{Records}
use Rattle.sb_journal.specs.declared.reading.Ending.{Ending}
use Rattle.sb_journal.specs.declared.reading.Reading.{Reading}
use Rattle.sb_journal.specs.declared.reading.Reading.TheVariants.{NoFile, OtherFile, AFile, BadFile, RefusedFile}
use Rattle.sb_journal.specs.Judges.{IsRefused, IsFileRefused, IsVerdict}
use Rattle.sb_journal.specs.Text.{File, new_file, file_text, first_gate, gate_after, records, with_payloads, IsWithin, Spelled, Spells, HasText}
use Rattle.sb_journal.specs.Framing.{Framing, Uncreated, Occupied, Whole, Damaged, framing, is_created, new_length, head_fault, number_at, base_length}
use Rattle.sb_journal.specs.Choosing.{sided, chosen, is_unshut}

-- what an opening finds
pub data Opened : Type 0 where
  -- this disk's file counts
  Stands : Side → File → Opened
  -- this disk's file can't be read, from this place on
  Damage : Side → ℕ → Opened

-- What the file on a disk says, where it is disk a. Where none was made, a new one counts; but no file is made over what may be one.
abbrev pub opened_alone : ℕ → Framing → Opened
opened_alone salt Uncreated = Stands A (new_file salt 1 1 [])
opened_alone salt Occupied = Damage A 0
opened_alone salt (Whole file) = Stands A file
opened_alone salt (Damaged place) = Damage A place

-- the same, where it is the disk of this side
abbrev pub placed : Side → Opened → Opened
placed side (Stands s file) = Stands side file
placed side (Damage s place) = Damage side place

-- what they stand for, once it is chosen whose file counts
abbrev pub opened_by : ℕ → (a b : List ℕ) → Choice → Opened
opened_by salt a b (Counts side) = placed side (opened_alone salt (framing (sided side a b)))
opened_by salt a b (Hurt side place) = Damage side place

-- What the bytes of two disks stand for. The salt is that of a new file.
abbrev pub opened : List ℕ → List ℕ → ℕ → Opened
opened a b salt = opened_by salt a b (chosen a b)

-- an opening finds this file, on whichever disk and with whatever salt it is called
abbrev pub FindsFile : File → (a b : List ℕ) → Type 0
FindsFile file a b = (salt : ℕ) → (side : Side) × (opened a b salt ≡ Stands side file)

-- it finds the file, with all of these payloads more or with none of them
abbrev pub FindsNoneOrAll : File → List (List ℕ) → (a b : List ℕ) → Type 0
FindsNoneOrAll file payloads a b = FindsFile file a b ⊎ FindsFile (with_payloads file payloads) a b

-- with this payload more or without it
abbrev pub FindsEither : File → List ℕ → (a b : List ℕ) → Type 0
FindsEither file payload a b = FindsNoneOrAll file (payload ∷ []) a b

-- it finds the file, or the one that goes on from it
abbrev pub FindsOldOrNext : (file next : File) → (a b : List ℕ) → Type 0
FindsOldOrNext file next a b = FindsFile file a b ⊎ FindsFile next a b

-- the file that was found
abbrev pub found_file : Found → File
found_file found = record { salt = found.salt; generation = found.generation; first = found.first; base = found.base; payloads = found.payloads.items }

-- the file that was judged, with this base and these payloads
abbrev pub judged_file : {J : Type 0} → Judged J → List ℕ → List (List ℕ) → File
judged_file j base payloads = record { salt = j.salt; generation = j.generation; first = j.first; base = base; payloads = payloads }

-- The judge has taken the base and all payloads of the file that was found. What was found is said only where the disks are honest.
pub record IsJudged {J : Type 0} (G : Ghosts J) (honest : Type 0) (found : Opened) (j : Judged J) : Type 0 where
  pub base : List ℕ
  pub payloads : List (List ℕ)
  pub stands : honest → found ≡ Stands j.disk (judged_file j base payloads)
  pub within : honest → IsWithin (judged_file j base payloads)
  pub taken : G.taken j.judge j.salt base payloads
  pub next_is : j.next ≡ j.first + length payloads
  -- the gates of all records lie within the longest file
  pub gates : gate_after (first_gate (judged_file j base payloads)) payloads ≤ 2 ^ 62

-- Why the file on this disk can't be trusted from this place on: it can't be read there, or, where it can be read to its end, the judge
-- refuses the base, which is there, or the payload behind the gate there.
abbrev pub IsDamagedFor : {J : Type 0} (G : Ghosts J) → Opened → Side → ℕ → Type 0
IsDamagedFor G found side place = (found ≡ Damage side place) ⊎ ((file : File) × (found ≡ Stands side file) × IsFileRefused G place file)

-- The file of this side counts, and whether what stands on the other disk isn't shut.
pub record IsPicked (p : Picked) (a b : List ℕ) : Type 0 where
  pub counts : chosen a b ≡ Counts p.side
  pub unshut : p.unshut ≡ is_unshut (sided p.side b a)

-- whether this place has a closed gate
abbrev pub is_shut : ℕ → List ℕ → Bool
is_shut place bytes = nat_lt place (length bytes) && (slice_index bytes place == 0)

-- the file that was read, with this base and these payloads
abbrev pub stand_file : {J : Type 0} → Stand J → List ℕ → List (List ℕ) → File
stand_file s base payloads = record { salt = s.salt; generation = s.generation; first = s.first; base = base; payloads = payloads }

-- the same file as one that was judged, on the disk of this side
abbrev pub judged_of : {J : Type 0} → Side → Stand J → Judged J
judged_of side s = record { disk = side; generation = s.generation; salt = s.salt; first = s.first; next = s.next; judge = s.judge }

-- The judge has taken this base and these payloads; where the end gate of their file is, and which number comes next.
pub record IsStand {J : Type 0} (G : Ghosts J) (s : Stand J) (base : List ℕ) (payloads : List (List ℕ)) : Type 0 where
  pub taken : G.taken s.judge s.salt base payloads
  pub end_is : s.end ≡ length (file_text (stand_file s base payloads))
  pub end_fits : s.end ≤ 2 ^ 62
  pub next_is : s.next ≡ s.first + length payloads
  pub next_fits : s.next ≤ 2 ^ 62 + s.end

-- a file was read to its end: which one, and whether its end gate is closed
pub record IsWholeStand {J : Type 0} (s : Stand J) (base : List ℕ) (payloads : List (List ℕ)) (bytes : List ℕ) : Type 0 where
  pub whole : framing bytes ≡ Whole (stand_file s base payloads)
  pub spells : Spells (stand_file s base payloads) bytes
  pub closed : s.closed ≡ is_shut s.end bytes

-- The judge refuses the file that the bytes stand for, at this place.
abbrev pub IsRefusedIn : {J : Type 0} (G : Ghosts J) → List ℕ → ℕ → Type 0
IsRefusedIn G bytes place = (file : File) × (framing bytes ≡ Whole file) × IsFileRefused G place file

-- What was read is what the bytes stand for. Whatever they are, the judge has taken what was read of a file.
abbrev pub IsReading : {J : Type 0} (G : Ghosts J) → Type 0 → List ℕ → Reading J → Type 0
IsReading G honest bytes NoFile = honest → framing bytes ≡ Uncreated
IsReading G honest bytes OtherFile = honest → framing bytes ≡ Occupied
IsReading G honest bytes (AFile s) = (base : List ℕ) × (payloads : List (List ℕ)) × IsStand G s base payloads × (honest → IsWholeStand s base payloads bytes)
IsReading G honest bytes (BadFile place) = honest → framing bytes ≡ Damaged place
IsReading G honest bytes (RefusedFile place) = honest → IsRefusedIn G bytes place

-- This base stands behind the head, up to this place.
pub record HasBase (bytes : List ℕ) (gate : ℕ) (base : List ℕ) : Type 0 where
  pub text : drop 42 bytes ≡ base ++ drop gate bytes
  pub gate_is : gate ≡ 42 + length base

-- The judge was given the base that stands behind the head of a file of this salt, up to this place, and what it said of it.
pub record IsBased {J : Type 0} (G : Ghosts J) (honest : Type 0) (bytes : List ℕ) (salt gate : ℕ) (b : Based J) : Type 0 where
  pub base : List ℕ
  pub verdict : IsVerdict G b.judge b.refused salt base []
  pub gate_is : b.gate ≡ 42 + length base
  pub gate_fits : b.gate ≤ 2 ^ 62
  pub stands : honest → HasBase bytes gate base

-- The judge has taken the base and the records that stand behind the head of a file of this salt, from this first number on; the first
-- gate is at this place.
pub record AreRecords {J : Type 0} (G : Ghosts J) (honest : Type 0) (bytes : List ℕ) (salt first gate : ℕ) (r : Records J) : Type 0 where
  pub base : List ℕ
  pub payloads : List (List ℕ)
  pub taken : G.taken r.judge salt base payloads
  pub stands : honest → HasBase bytes gate base
  pub spelled : honest → Spelled first payloads (drop gate bytes)
  pub end_is : r.end ≡ 42 + length base + length (records first payloads)
  pub end_fits : r.end ≤ 2 ^ 62
  pub next_is : r.next ≡ first + length payloads

-- Or it refuses one of them, at this place.
abbrev pub HasRefused : {J : Type 0} (G : Ghosts J) → List ℕ → (salt first gate place : ℕ) → Type 0
HasRefused G bytes salt first gate place = (base : List ℕ) × (payloads : List (List ℕ)) × HasBase bytes gate base × Spelled first payloads (drop gate bytes) × IsRefused G salt place base payloads

-- the head of a file that can be read so far
pub record IsHead (h : Head) (bytes : List ℕ) : Type 0 where
  pub long : 43 ≤ length bytes
  pub created : is_created bytes ≡ true
  pub sound : head_fault bytes ≡ None
  pub salt_is : h.salt ≡ number_at 10 bytes
  pub generation_is : h.generation ≡ number_at 18 bytes
  pub first_is : h.first ≡ number_at 26 bytes
  pub base_is : h.base_length ≡ base_length bytes
  pub first_fits : h.first ≤ 2 ^ 62

-- why there is none
abbrev pub IsNoHead : HeadFault → List ℕ → Type 0
IsNoHead NoHead bytes = (is_created bytes ≡ false) × (length bytes ≤ new_length)
IsNoHead OtherHead bytes = (is_created bytes ≡ false) × (new_length < length bytes)
IsNoHead (BadHead place) bytes = (is_created bytes ≡ true) × (head_fault bytes ≡ Some place)

-- A disk was read and not written to, and this is where the file ends that counts.
pub record IsRead (held : Held) (ending : Ending) : Type 0 where
  pub rests : held ≡ at_rest held.seen
  pub text : (file : File) → framing held.seen ≡ Whole file → HasText file held.seen
  pub made : ending.made ≡ is_created held.seen
  pub short : ending.made ≡ false → length held.seen ≤ new_length
  pub inside : ending.made ≡ true → ending.end ≤ length held.seen
  pub closed : ending.made ≡ true → ending.closed ≡ is_shut ending.end held.seen
  pub end : (salt : ℕ) (file : File) → opened_alone salt (framing held.seen) ≡ Stands A file → ending.end ≡ length (file_text file)
  pub next : (salt : ℕ) (file : File) → opened_alone salt (framing held.seen) ≡ Stands A file → ending.next ≡ file.first + length file.payloads
