-- How often something stands in a list.
use Rattle.std.specs.Prelude.{ℕ, List, Bool, sum_by, if◌then◌else◌}

-- 1 for true
abbrev pub one : Bool → ℕ
one b = if b then 1 else 0

-- how many pass
abbrev pub times : {X : Type 0} → (X → Bool) → List X → ℕ
times p xs = sum_by (λ x. one (p x)) xs
