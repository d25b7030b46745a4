-- Which of two disks' files counts, by their heads.
use Rattle.std.specs.Prelude.{◌||◌, ◌==◌, Bool, ℕ, List, length, nat_lt, nat_le, slice_index, if◌then◌else◌, Option, Some, None}
use Rattle.sb_journal.specs.declared.found.Side.{Side}
use Rattle.sb_journal.specs.declared.found.Side.TheVariants.{A, B}
use Rattle.sb_journal.specs.declared.choosing.Headed.{Headed}
use Rattle.sb_journal.specs.declared.choosing.Headed.TheVariants.{Headless, Taken, Spoilt, Generation}
use Rattle.sb_journal.specs.declared.choosing.Choice.{Choice}
use Rattle.sb_journal.specs.declared.choosing.Choice.TheVariants.{Counts, Hurt}
use Rattle.sb_journal.specs.Framing.{is_created, head_fault, number_at, new_length}

-- of what is on the disk of this side and on the other, what is on disk a
abbrev pub sided : {A : Type 0} → Side → A → A → A
sided A x y = x
sided B x y = y

-- the other side
abbrev pub turned : Side → Side
turned A = B
turned B = A

-- what a created file says of itself
abbrev pub headed_by : List ℕ → Option ℕ → Headed
headed_by bytes None = Generation (number_at 18 bytes)
headed_by bytes (Some place) = Spoilt place

-- where no file counts: whether it may have more bytes than the making of one leaves
abbrev pub headless : List ℕ → Headed
headless bytes = if nat_le (length bytes) new_length then Headless else Taken

-- what a disk says of its file before the rest of it is read
unfoldable pub headed : List ℕ → Headed
headed bytes = if is_created bytes then headed_by bytes (head_fault bytes) else headless bytes

-- of two created files the one of greater generation
abbrev pub greater : ℕ → ℕ → Choice
greater g h = if g == h then Hurt B 18 else (if nat_lt g h then Counts B else Counts A)

-- Which file counts: a damaged head is told first, that of disk a before that of disk b. Where no file was made, disk a's counts; but
-- none is made beside or over what may be one.
abbrev pub chosen_of : Headed → Headed → Choice
chosen_of (Spoilt place) h = Hurt A place
chosen_of Headless (Spoilt place) = Hurt B place
chosen_of Headless Headless = Counts A
chosen_of Headless Taken = Hurt B 0
chosen_of Headless (Generation h) = Counts B
chosen_of Taken (Spoilt place) = Hurt B place
chosen_of Taken Headless = Hurt A 0
chosen_of Taken Taken = Hurt A 0
chosen_of Taken (Generation h) = Counts B
chosen_of (Generation g) (Spoilt place) = Hurt B place
chosen_of (Generation g) Headless = Counts A
chosen_of (Generation g) Taken = Counts A
chosen_of (Generation g) (Generation h) = greater g h

-- of the bytes of two disks
abbrev pub chosen : (a b : List ℕ) → Choice
chosen a b = chosen_of (headed a) (headed b)

-- What stands on a disk beside the file that counts isn't shut: a file counts there too, or its first byte is neither 00 nor 01.
abbrev pub is_unshut : List ℕ → Bool
is_unshut bytes = is_created bytes || nat_lt 1 (slice_index bytes 0)
