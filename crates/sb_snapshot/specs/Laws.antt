-- Laws of the base, over all states and bytes.
use Rattle.std.specs.Prelude.{◌≡◌, ◌<◌, ℕ, List, [], ◌++◌, Some}
use Rattle.sb_machine.specs.Consistent.{IsConsistent}
use Rattle.sb_machine.specs.Each.{Each}
use Rattle.sb_machine.specs.declared.state.State.{State}
use Rattle.sb_snapshot.specs.Base.{base_of, HasSpelling, IsSpellable, state_of}

-- numbers that one byte holds
abbrev pub AreBytes : List ℕ → Type 0
AreBytes bytes = Each (λ b. b < 256) bytes

-- what is spelled so is read
abbrev pub ReadsBack : Type 0
ReadsBack = (s : State) → HasSpelling s → state_of s.space.salt (base_of s) ≡ Some s

-- what is read is spelled so, all of the bytes
abbrev pub IsReadAsSpelled : Type 0
IsReadAsSpelled = (salt : ℕ) (bytes : List ℕ) (s : State) → AreBytes bytes → state_of salt bytes ≡ Some s → (bytes ≡ base_of s) × HasSpelling s × (s.space.salt ≡ salt)

-- bytes that begin with two spellings begin with one: two states of one salt never share theirs
abbrev pub IsSpelledOnce : Type 0
IsSpelledOnce = (a b : State) (x y : List ℕ) → HasSpelling a → HasSpelling b → a.space.salt ≡ b.space.salt → base_of a ++ x ≡ base_of b ++ y → (a ≡ b) × (x ≡ y)

-- no spelling begins another
abbrev pub BeginsNone : Type 0
BeginsNone = (a b : State) (x : List ℕ) → HasSpelling a → HasSpelling b → base_of a ++ x ≡ base_of b → x ≡ []

-- what has a spelling may be written
abbrev pub IsWrittenAgain : Type 0
IsWrittenAgain = (s : State) → HasSpelling s → IsSpellable s

-- a consistent state may be written
abbrev pub ConsistentIsWritten : Type 0
ConsistentIsWritten = (s : State) → IsConsistent s → IsSpellable s
