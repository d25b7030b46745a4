-- Lists whose elements are found by a key that they have.
use Rattle.std.specs.Prelude.{ℕ, ◌≤◌, ◌<◌, List, [], ◌∷◌, ◌++◌, Bool, if◌then◌else◌}
use Rattle.std.specs.List.{insert, prefix_len}

-- these in the place of the first that passes
abbrev pub changed : {X : Type 0} → (X → Bool) → (X → List X) → List X → List X
changed p g [] = []
changed p g (x ∷ xs) = if p x then g x ++ xs else x ∷ changed p g xs

-- rising keys, above the one and up to the other
abbrev pub AreRising : {X : Type 0} → (X → ℕ) → ℕ → ℕ → List X → Type 0
AreRising key above last [] = above ≤ last
AreRising key above last (x ∷ xs) = (above < key x) × AreRising key (key x) last xs

-- with one more, behind those that stand before it
abbrev pub with_sorted : {X : Type 0} → (X → Bool) → X → List X → List X
with_sorted before x xs = insert xs (prefix_len before xs) x
