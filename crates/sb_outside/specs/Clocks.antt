-- What a clock in memory reads.
use Rattle.std.specs.Prelude.{◌≡◌, ℕ, ◌+◌, ◌*◌, ◌%◌, ◌^◌}

-- the start and some number of steps, which begin at 0 again past 2^64 - 1
abbrev pub IsStep : ℕ → ℕ → ℕ → Type 0
IsStep start step reading = (pauses : ℕ) × (reading ≡ (start + pauses * step) % 2 ^ 64)
