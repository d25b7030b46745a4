-- How many bytes there are, in 64 bits.
use Rattle.std.specs.Prelude.{◌≡◌, ◌≤◌, ◌^◌, ℕ, Option, Some, None}

-- the count of n bytes, which is none where 64 bits don't hold it
abbrev pub IsCount : Option ℕ → ℕ → Type 0
IsCount None n = 2 ^ 64 ≤ n
IsCount (Some k) n = k ≡ n
