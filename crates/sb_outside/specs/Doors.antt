-- What a door (a listening socket) gives, where it tells the connections that it has left.
use Rattle.std.specs.Prelude.{◌≡◌, ◌+◌, ℕ, List, [], ◌∷◌, Option, Some, None, Bool, true, false}
use Rattle.sb_outside.specs.declared.door.Given.{Given}
use Rattle.sb_outside.specs.declared.door.Given.TheVariants.{One, NoneYet, End}
use Rattle.sb_outside.specs.Streams.{Stays}

-- `accept` answered a connection, none yet, or the end: a door that has ended gives the end alone, and it ends with
-- its first end
abbrev pub EndsAtEnd : {T : Type 0} → Bool → Bool → Given T → Type 0
EndsAtEnd before after (One given) = (before ≡ false) × (after ≡ false)
EndsAtEnd before after NoneYet = (before ≡ false) × (after ≡ false)
EndsAtEnd before after End = after ≡ true

-- of those left this was the first and the others stay, or none was left
abbrev pub GivesInOrder : {T : Type 0} → Option (List T) → Option (List T) → Given T → Type 0
GivesInOrder None after answer = Unit {0}
GivesInOrder (Some left) after NoneYet = Stays (Some left) after
GivesInOrder (Some []) after End = after ≡ Some []
GivesInOrder (Some []) after (One given) = ⊥
GivesInOrder (Some (first ∷ rest)) after End = ⊥
GivesInOrder (Some (first ∷ rest)) after (One given) = (given ≡ first) × (after ≡ Some rest)

-- how many connections are out
abbrev pub CountsOut : {T : Type 0} → ℕ → ℕ → Given T → Type 0
CountsOut before after (One given) = after ≡ before + 1
CountsOut before after NoneYet = after ≡ before
CountsOut before after End = after ≡ before
