-- The limits of the program, in bytes; src/limits.rt has the sums that they come from.
use Rattle.std.specs.Prelude.{ℕ, ◌^◌}

-- of a line, without its line feed
abbrev pub max_line : ℕ
max_line = 2097152

-- of the input of a run: as many end it
abbrev pub max_input : ℕ
max_input = 2 ^ 40

-- of what is read of an input at once
abbrev pub max_piece : ℕ
max_piece = 65536
