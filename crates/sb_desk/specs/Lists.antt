-- Fronts of a history, and sums and facts over a list.
use Rattle.std.specs.Prelude.{◌≡◌, ◌⊎◌, ℕ, ◌+◌, List, [], ◌∷◌, ◌++◌, ◌<◌, if◌then◌else◌, nat_lt, length}
use Rattle.sb_machine.specs.declared.history.Entry.{Entry}
use Rattle.sb_desk.specs.Entries.{entries_by, seat_of}

-- a list begins another
abbrev pub IsFront : List Entry → List Entry → Type 0
IsFront front all = (rest : List Entry) × (all ≡ front ++ rest)

-- a list ends another
abbrev pub IsEnd : List Entry → List Entry → Type 0
IsEnd end all = (before : List Entry) × (all ≡ before ++ end)

-- the history goes on from what was seen, with no entries of this seat
abbrev pub GoesOn : List Entry → ℕ → List Entry → Type 0
GoesOn log seat seen = (rest : List Entry) × (log ≡ seen ++ rest) × (entries_by seat rest ≡ [])

-- one of two lists begins the other
abbrev pub AreComparable : List Entry → List Entry → Type 0
AreComparable a b = IsFront a b ⊎ IsFront b a

-- the longer one; the first, where they are as long
abbrev pub longer : List Entry → List Entry → List Entry
longer a b = if nat_lt (length a) (length b) then b else a

-- the sum of f over a list
abbrev pub total : {A : Type 0} → (A → ℕ) → List A → ℕ
total f [] = 0
total f (x ∷ xs) = f x + total f xs

-- P of each element of a list
abbrev pub Each : {A : Type 0} → (A → Type 0) → List A → Type 0
Each P [] = Unit {0}
Each P (x ∷ xs) = P x × Each P xs

-- entries of seats below this number, and of no other
abbrev pub HaveSeatsBelow : ℕ → List Entry → Type 0
HaveSeatsBelow passes entries = Each (λ e. seat_of e < passes) entries
