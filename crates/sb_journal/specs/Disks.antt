-- The two disks of a journal as one value, and what is said of both.
use Rattle.std.specs.Prelude.{◌≡◌, ◌⊎◌, ◌≤◌, ℕ, List, length, Bool, IsTrue, slice_index}
use Rattle.sb_outside.specs.Causes.{RoseByOne}
use Rattle.sb_outside.specs.Held.{Held, IsImage, Moves, at_rest}
use Rattle.sb_outside.specs.declared.disk.Disk.{Ghosts}
use Rattle.sb_journal.specs.declared.found.Side.{Side}
use Rattle.sb_journal.specs.declared.found.Side.TheVariants.{A, B}
use Rattle.sb_journal.specs.declared.choosing.Choice.TheVariants.{Counts}
use Rattle.sb_journal.specs.Framing.{Uncreated, framing, new_length}
use Rattle.sb_journal.specs.Choosing.{chosen, sided, turned}
use Rattle.sb_journal.specs.Moments.{EachMoment, FromSync, IsUnwritten}
use Rattle.sb_journal.specs.Opened.{Opened, opened}
use Rattle.sb_journal.specs.Crashes.{IsSameFrom, LeavesOf}

-- what a disk tells: whether what is said of its content holds, what it holds, what it held at each moment before, and how many of
-- its calls have failed
pub record OneDisk : Type 0 where
  pub honest : Bool
  pub held : Held
  pub past : List Held
  pub faults : ℕ

-- both disks
pub record Disks : Type 0 where
  pub a : OneDisk
  pub b : OneDisk

-- what one disk tells, by its ghost values
abbrev pub disk_of : {D : Type 0} (G : Ghosts D) → D → OneDisk
disk_of G d = record { honest = G.honest d; held = G.held d; past = G.past d; faults = G.count d }

-- what both disks tell, by their ghost values
abbrev pub disks_of : {D : Type 0} (G : Ghosts D) → (a b : D) → Disks
disks_of G a b = record { a = disk_of G a; b = disk_of G b }

-- the disk of a side
abbrev pub on_side : Side → Disks → OneDisk
on_side A disks = disks.a
on_side B disks = disks.b

-- what both say of their content holds
abbrev pub AreHonest : Disks → Type 0
AreHonest disks = IsTrue disks.a.honest × IsTrue disks.b.honest

-- what they stand for, as they are read; the salt is that of a new file
abbrev pub opened_on : Disks → ℕ → Opened
opened_on disks salt = opened disks.a.held.seen disks.b.held.seen salt

-- ---- what a crash may leave

-- each two images that a crash now may leave
abbrev pub EachImage : Disks → (List ℕ → List ℕ → Type 0) → Type 0
EachImage disks P = (x y : List ℕ) → IsImage disks.a.held x → IsImage disks.b.held y → P x y

-- Each two images that a crash may leave, of the first disk at a moment since and of the second at a moment since. A disk that stood
-- still has one moment.
abbrev pub EachPair : (was later : Disks) → (List ℕ → List ℕ → Type 0) → Type 0
EachPair was later P = EachMoment was.a.past later.a.past later.a.held (λ x. EachMoment was.b.past later.b.past later.b.held (λ y. P x y))

-- the disk of this side as it was, and the other one as it is later
abbrev pub halfway : Side → (was later : Disks) → Disks
halfway A was later = record { a = was.a; b = later.b }
halfway B was later = record { a = later.a; b = was.b }

-- The same in two stretches: first the disk of this side stands still, then the other one.
abbrev pub EachStretch : Side → (was later : Disks) → (List ℕ → List ℕ → Type 0) → Type 0
EachStretch side was later P = EachPair was (halfway side was later) P × EachPair (halfway side was later) later P

-- What stands on disk a where a new file is made is shorter than one, or begins with 00 or 01: it can't be somebody else's.
abbrev pub AreOurs : Disks → Type 0
AreOurs disks = chosen disks.a.held.seen disks.b.held.seen ≡ Counts A → framing disks.a.held.seen ≡ Uncreated → new_length ≤ length disks.a.held.seen → slice_index disks.a.held.seen 0 ≤ 1

-- From its first sync on, the disk of this side leaves what a crash during an opening that found these may leave there.
abbrev pub KeepsOn : ℕ → Side → (was later : Disks) → Type 0
KeepsOn salt side was later =
    FromSync (on_side side was).past (on_side side was).held (on_side side later).past (on_side side later).held
    (LeavesOf salt (chosen was.a.held.seen was.b.held.seen) side (on_side side was).held.seen)

-- The disk beside the one whose file counts does. Where damage is told instead, this says nothing.
abbrev pub KeepsAside : ℕ → (was later : Disks) → Type 0
KeepsAside salt was later = (side : Side) → chosen was.a.held.seen was.b.held.seen ≡ Counts side → KeepsOn salt (turned side) was later

-- From its first sync on, each disk leaves what a crash during an opening that found these may leave there: what counts, up to its end
-- gate, or, where there was no file, none or a new one; beside it all but the first byte. Where a new file is made over somebody else's
-- nothing is said of that.
abbrev pub KeepFound : ℕ → (was later : Disks) → Type 0
KeepFound salt was later = (AreOurs was → KeepsOn salt A was later) × KeepsOn salt B was later

-- From this moment on, the disk of this side leaves what a crash during an opening that found these may leave there.
abbrev pub FinishesOn : ℕ → Side → (was later : Disks) → Type 0
FinishesOn salt side was later =
    EachMoment (on_side side was).past (on_side side later).past (on_side side later).held (LeavesOf salt (chosen was.a.held.seen was.b.held.seen) side (on_side side was).held.seen)

-- So does each, but for a new file that is made over somebody else's.
abbrev pub Finishes : ℕ → (was later : Disks) → Type 0
Finishes salt was later = (AreOurs was → FinishesOn salt A was later) × FinishesOn salt B was later

-- nothing was written: the same is read, and from the first sync on a crash leaves just that
abbrev pub AreUnwritten : (was later : Disks) → Type 0
AreUnwritten was later = IsUnwritten was.a.past was.a.held later.a.past later.a.held × IsUnwritten was.b.past was.b.held later.b.past later.b.held

-- Nothing was done to it, not even a sync: it holds what it held, and no moment is past.
abbrev pub IsStill : (was later : OneDisk) → Type 0
IsStill was later = (later.held ≡ was.held) × (later.past ≡ was.past)

-- nor to both
abbrev pub AreStill : (was later : Disks) → Type 0
AreStill was later = IsStill was.a later.a × IsStill was.b later.b

-- both were made safe, and nothing else was done
abbrev pub AreSynced : (was later : Disks) → Type 0
AreSynced was later = Moves was.a.past was.a.held later.a.past later.a.held (at_rest was.a.held.seen) × Moves was.b.past was.b.held later.b.past later.b.held (at_rest was.b.held.seen)

-- the disk of this side is as it was read, all of it safe
abbrev pub IsAtRest : Side → (was later : Disks) → Type 0
IsAtRest side was later = (on_side side later).held ≡ at_rest (on_side side was).held.seen

-- from this place of the file of this side on, the bytes are those that were read before
abbrev pub StaysBehind : Side → ℕ → Disks → (x y : List ℕ) → Type 0
StaysBehind side place was x y = IsSameFrom place (on_side side was).held.seen (sided side x y)

-- ---- counts of faults, and honesty

-- no call of either disk failed
abbrev pub AreQuiet : (was later : Disks) → Type 0
AreQuiet was later = (later.a.faults ≡ was.a.faults) × (later.b.faults ≡ was.b.faults)

-- one call failed, and this is the count of the disk whose call it was
abbrev pub OneFault : (was later : Disks) → ℕ → Type 0
OneFault was later n =
    ((n ≡ later.a.faults) × RoseByOne was.a.faults later.a.faults × (later.b.faults ≡ was.b.faults))
    ⊎ ((n ≡ later.b.faults) × RoseByOne was.b.faults later.b.faults × (later.a.faults ≡ was.a.faults))

-- one call of one disk failed
abbrev pub HaveFailed : (was later : Disks) → Type 0
HaveFailed was later = (n : ℕ) × OneFault was later n

-- neither count of faults fell
abbrev pub NoneFell : (was later : Disks) → Type 0
NoneFell was later = (was.a.faults ≤ later.a.faults) × (was.b.faults ≤ later.b.faults)

-- both are as honest as they were
abbrev pub SameHonesty : (was later : Disks) → Type 0
SameHonesty was later = (later.a.honest ≡ was.a.honest) × (later.b.honest ≡ was.b.honest)
