-- What contracts say of a recorder: its journal, and the base that it writes.
use Rattle.std.specs.Prelude.{◌≡◌, ◌⊎◌, ◌≤◌, ℕ, ◌+◌, Bool, false, true, List, [], ◌∷◌, ◌++◌, length, Option, Some, None, is_some}
use Rattle.sb_outside.specs.declared.disk.Disk.{Ghosts}
use Rattle.sb_codec.specs.EventBytes.{read_event}
use Rattle.sb_machine.specs.declared.call.Event.{Event}
use Rattle.sb_machine.specs.declared.reply.Refusal.{Refusal}
use Rattle.sb_machine.specs.declared.reply.Refusal.TheVariants.{DiskFault, OutOfMemory}
use Rattle.sb_journal.specs.declared.journal.Journal.{Journal}
use Rattle.sb_journal.specs.declared.rotating.NextFile.{NextFile}
use Rattle.sb_journal.specs.Text.{File, next_file, with_payload}
use Rattle.sb_journal.specs.Opened.{FindsFile, FindsOldOrNext}
use Rattle.sb_journal.specs.Choosing.{turned}
use Rattle.sb_journal.specs.Disks.{on_side, EachPair, EachStretch, AreQuiet, OneFault, NoneFell, SameHonesty}
use Rattle.sb_journal.specs.Journals.{journal_disks, journal_side, has_failed, fault_count, next_first, HoldsFile, HoldsNext, HoldsStaged}
use Rattle.sb_recorder.specs.declared.recorder.Recorder.{Recorder}

-- the journal that a recorder writes
abbrev pub recorder_journal : {D : Type 0} {B : Ghosts D} → Recorder D B → Journal D B
recorder_journal r = r.journal

-- the journal has this event behind what its file had, in the record of this number
pub record IsLogged {D : Type 0} {B : Ghosts D} (j : Journal D B) (last : ℕ) (file : File) (event : Event) : Type 0 where
  pub payload : List ℕ
  pub holds : HoldsFile j (with_payload file payload)
  pub reads : read_event payload ≡ Some event
  pub number : last ≡ file.first + length file.payloads

-- The journal has this event staged behind those payloads, in one record more: until they are sealed only the file counts.
pub record HasStaged {D : Type 0} {B : Ghosts D} (j : Journal D B) (file : File) (staged : List (List ℕ)) (event : Event) : Type 0 where
  pub payload : List ℕ
  pub holds : HoldsStaged j file (staged ++ payload ∷ [])
  pub reads : read_event payload ≡ Some event

-- an opening finds the file, or it with this event more
abbrev pub HasEventOrNot : File → Event → (a b : List ℕ) → Type 0
HasEventOrNot file event a b = FindsFile file a b ⊎ ((payload : List ℕ) × FindsFile (with_payload file payload) a b × (read_event payload ≡ Some event))

-- an event wasn't journaled, or staged: memory was wanting and the journal is as before, or a disk failed
abbrev pub IsUnwritten : {D : Type 0} {B : Ghosts D} → (was now : Journal D B) → Refusal → Type 0
IsUnwritten was now OutOfMemory = now ≡ was
IsUnwritten was now DiskFault = (has_failed now ≡ true) × OneFault (journal_disks was) (journal_disks now) (fault_count now)
IsUnwritten was now _ = ⊥

-- ---- what is done to a journal while its file counts

-- The file still counts, wherever a crash came since, and nothing was done to its disk. While no call failed the journal holds it.
pub record CountsStill {D : Type 0} {B : Ghosts D} (file : File) (was now : Journal D B) : Type 0 where
  pub moments : EachPair (journal_disks was) (journal_disks now) (FindsFile file)
  pub still : on_side (journal_side was) (journal_disks now) ≡ on_side (journal_side was) (journal_disks was)
  pub holds : has_failed now ≡ false → HoldsFile now file
  pub side : has_failed now ≡ false → journal_side now ≡ journal_side was

-- Where a call failed, it was one, and its count is told; else none did.
pub record HasAccount {D : Type 0} {B : Ghosts D} (was now : Journal D B) : Type 0 where
  pub later : NoneFell (journal_disks was) (journal_disks now)
  pub honesty : SameHonesty (journal_disks was) (journal_disks now)
  pub quiet : has_failed now ≡ false → AreQuiet (journal_disks was) (journal_disks now)
  pub cause : has_failed now ≡ true → OneFault (journal_disks was) (journal_disks now) (fault_count now)

-- what was done to a journal was done beside its file
pub record GoesBeside {D : Type 0} {B : Ghosts D} (was now : Journal D B) : Type 0 where
  pub account : HasAccount was now
  pub counts : (file : File) → HoldsFile was file → CountsStill file was now

-- ---- a base that is written

-- as it was begun: the journal, the first number of the next file, and how many bytes its base has
pub record Begun {D : Type 0} (B : Ghosts D) : Type 0 where
  pub journal : Journal D B
  pub first : ℕ
  pub total : ℕ

-- of this journal
abbrev pub begun_at : {D : Type 0} {B : Ghosts D} → Journal D B → (first total : ℕ) → Begun B
begun_at j first total = record { journal = j; first = first; total = total }

-- All was done beside the journal's file, and on the other disk stands a begin of the next one, while it is written: until a call fails.
pub record IsBeside {D : Type 0} {B : Ghosts D} (now : Journal D B) (next : Option NextFile) (begun : Begun B) : Type 0 where
  pub beside : GoesBeside begun.journal now
  pub lost : next ≡ None → has_failed now ≡ true
  pub writes : (n : NextFile) → next ≡ Some n → (file : File) → HoldsFile begun.journal file → (base : List ℕ) × HoldsNext now n file base

-- These are the first bytes of the base: those that are written, and those that are gathered; so many aren't put yet.
pub record IsPart {D : Type 0} {B : Ghosts D} (now : Journal D B) (next : Option NextFile) (left : ℕ) (gathered : List ℕ) (begun : Begun B) (text : List ℕ) : Type 0 where
  pub file : NextFile
  pub next_is : next ≡ Some file
  pub first : next_first file ≡ begun.first
  pub left_is : length text + left ≡ begun.total
  pub written : List ℕ
  pub text_is : text ≡ written ++ gathered
  pub holds : (f : File) → HoldsFile begun.journal f → HoldsNext now file f written

-- ---- of a recorder

-- whether one is written
abbrev pub is_writing : {D : Type 0} {B : Ghosts D} → Recorder D B → Bool
is_writing r = is_some r.next

-- how many bytes of it aren't put yet
abbrev pub bytes_left : {D : Type 0} {B : Ghosts D} → Recorder D B → ℕ
bytes_left r = r.left

-- as the last one was begun
abbrev pub begun_of : {D : Type 0} {B : Ghosts D} → Recorder D B → Begun B
begun_of r = record { journal = r.began.value; first = r.first.value; total = r.total.value }

-- all was done beside the file of the journal as this one was begun
abbrev pub GoesOn : {D : Type 0} {B : Ghosts D} → Recorder D B → Begun B → Type 0
GoesOn r begun = IsBeside r.journal r.next begun

-- These are its first bytes, if they aren't more than it is to have.
abbrev pub HasBase : {D : Type 0} {B : Ghosts D} → Recorder D B → Begun B → List ℕ → Type 0
HasBase r begun text = length text ≤ begun.total → IsPart r.journal r.next r.left r.buffer.items begun text

-- ---- a journal that went on with the next file

-- The journal holds the next file, of this first number and base, on the other disk.
pub record HasTurned {D : Type 0} {B : Ghosts D} (file : File) (was now : Journal D B) (first : ℕ) (base : List ℕ) : Type 0 where
  pub holds : HoldsFile now (next_file file first base)
  pub side : journal_side now ≡ turned (journal_side was)

-- A crash at any moment since left the file or the next one.
abbrev pub LeavesEither : {D : Type 0} {B : Ghosts D} → File → (was now : Journal D B) → (first : ℕ) → List ℕ → Type 0
LeavesEither file was now first base = EachStretch (journal_side was) (journal_disks was) (journal_disks now) (FindsOldOrNext file (next_file file first base))
