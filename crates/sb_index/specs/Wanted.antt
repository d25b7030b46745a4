-- What is looked for in a tree.
use Rattle.std.specs.Prelude.{ℕ, Bool, true, Option, Some, None, nat_lt, ◌&&◌, if◌then◌else◌}
use Rattle.sb_index.specs.Rows.{is_due, is_from, is_marked}
use Rattle.sb_index.specs.declared.row.Row.{Row}
use Rattle.sb_index.specs.declared.wanted.Wanted.{Wanted}
use Rattle.sb_index.specs.declared.wanted.Wanted.TheVariants.{Any, Marked, Due}

-- a row is what is wanted
abbrev pub fits : Wanted → Row → Bool
fits Any x = true
fits Marked x = is_marked x
fits (Due moment) x = is_due moment x

-- and its key is at least `from`
abbrev pub fits_from : Wanted → ℕ → Row → Bool
fits_from wanted from x = fits wanted x && is_from from x

-- what was found, where its key is below this one
abbrev pub before : ℕ → Option Row → Option Row
before below None = None
before below (Some x) = if nat_lt x.key below then Some x else None
