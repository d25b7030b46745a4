-- Lists in order, told by neighbours.
use Rattle.std.specs.Prelude.{◌≡◌, ◌&&◌, Bool, true, List, [], ◌∷◌, Option, Some, None, if◌then◌else◌}

-- each stands before the next, the first of them behind this one
abbrev pub is_on_from : {X : Type 0} → (X → X → Bool) → X → List X → Bool
is_on_from before last [] = true
is_on_from before last (x ∷ xs) = before last x && is_on_from before x xs

-- each stands before the next
abbrev pub is_on : {X : Type 0} → (X → X → Bool) → List X → Bool
is_on before [] = true
is_on before (x ∷ xs) = is_on_from before x xs

-- what stands before one that stands before a third stands before the third
abbrev pub IsOnward : {X : Type 0} → (X → X → Bool) → Type 0
IsOnward {X} before = (a b c : X) → before a b ≡ true → before b c ≡ true → before a c ≡ true

-- what was found, where it passes a test
abbrev pub tested : {X : Type 0} → (X → Bool) → Option X → Option X
tested test None = None
tested test (Some x) = if test x then Some x else None
