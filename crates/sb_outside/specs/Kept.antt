-- What a disk in memory has been, by its calls and by the bytes that they wrote, both in order.
use Rattle.std.specs.Prelude.{ℕ, ◌+◌, ◌≤◌, List, [], ◌∷◌, length, take, drop, replicate}
use Rattle.std.specs.Coded.{×_prop, Unit-prop, le_prop}
use Rattle.sb_outside.specs.declared.memory.DiskCall.{DiskCall}
use Rattle.sb_outside.specs.declared.memory.DiskCall.TheVariants.{Write, FailedWrite, Cut, FailedCut, Sync}
use Rattle.sb_outside.specs.Held.{Held, overwritten, touched, shortened, at_rest}

-- how many bytes a call wrote
abbrev pub count_of : DiskCall → ℕ
count_of (Write place n) = n
count_of (FailedWrite place n) = 0
count_of (Cut n) = 0
count_of (FailedCut n) = 0
count_of Sync = 0

-- how many bytes these calls wrote
abbrev pub counts_of : List DiskCall → ℕ
counts_of [] = 0
counts_of (c ∷ cs) = count_of c + counts_of cs

-- what stands after one call, whose bytes come first in this list
abbrev pub after_call : Held → DiskCall → List ℕ → Held
after_call held (Write place n) written = touched held place n (overwritten held.seen place (take n written))
after_call held (FailedWrite place n) written = touched held place n held.seen
after_call held (Cut n) written = shortened held n (take n held.seen)
after_call held (FailedCut n) written = shortened held n held.seen
after_call held Sync written = at_rest held.seen

-- what stands after these calls
abbrev pub held_after : Held → List DiskCall → List ℕ → Held
held_after held [] written = held
held_after held (c ∷ cs) written = held_after (after_call held c written) cs (drop (count_of c) written)

-- what stood before each of these calls
abbrev pub past_of : Held → List DiskCall → List ℕ → List Held
past_of held [] written = []
past_of held (c ∷ cs) written = held ∷ past_of (after_call held c written) cs (drop (count_of c) written)

-- a call begins within so many bytes, or at their end
abbrev pub IsPlaced : ℕ → DiskCall → Type 0
IsPlaced end (Write place n) = place ≤ end
IsPlaced end (FailedWrite place n) = place ≤ end
IsPlaced end (Cut n) = n ≤ end
IsPlaced end (FailedCut n) = n ≤ end
IsPlaced end Sync = Unit {0}

-- each of these calls begins within what is read as it is made
abbrev pub ArePlaced : Held → List DiskCall → List ℕ → Type 0
ArePlaced held [] written = Unit {0}
ArePlaced held (c ∷ cs) written = IsPlaced (length held.seen) c × ArePlaced (after_call held c written) cs (drop (count_of c) written)

-- each is a fact
pub is_placed-prop : (end : ℕ) (c : DiskCall) → IsProp (IsPlaced end c)
is_placed-prop end (Write place n) = le_prop
is_placed-prop end (FailedWrite place n) = le_prop
is_placed-prop end (Cut n) = le_prop
is_placed-prop end (FailedCut n) = le_prop
is_placed-prop end Sync = Unit-prop

pub are_placed-prop : (held : Held) (cs : List DiskCall) (written : List ℕ) → IsProp (ArePlaced held cs written)
are_placed-prop held [] written = Unit-prop
are_placed-prop held (c ∷ cs) written = ×_prop (is_placed-prop (length held.seen) c) (are_placed-prop (after_call held c written) cs (drop (count_of c) written))

-- an image past a call at which these bytes are read, with one byte in place of those that the call puts at risk
abbrev pub filled_past : ℕ → List ℕ → DiskCall → List ℕ → List ℕ
filled_past fill seen (Write place n) image = overwritten image place (replicate n fill)
filled_past fill seen (FailedWrite place n) image = overwritten image place (replicate n fill)
filled_past fill seen (Cut n) image = image
filled_past fill seen (FailedCut n) image = image
filled_past fill seen Sync image = seen
