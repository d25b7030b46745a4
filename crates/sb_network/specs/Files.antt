-- How many places a limit of open files leaves.
use Rattle.std.specs.Prelude.{ℕ, ◌+◌, ◌*◌, ◌-◌, min, max}

-- of so many places those for which so many files are enough: each has one, beside 24 and 3 for each thread; one at least
abbrev pub places_within : (files places threads : ℕ) → ℕ
places_within files places threads = min places (max (files - (24 + 3 * threads)) 1)
