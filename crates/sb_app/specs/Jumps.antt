-- How far ahead of a clock a moment may be, or a clock of a moment, and the line that says where it is further.
use Rattle.std.specs.Prelude.{◌≡◌, ℕ, ◌+◌, ◌*◌, List, [], ◌∷◌, ◌++◌, codes, nat_lt, Bool, true, false, ◌&&◌}
use Rattle.std.specs.Fmt.{decimal}
use Rattle.sb_app.specs.declared.script_line.ScriptLine.{ScriptLine}
use Rattle.sb_app.specs.declared.script_line.ScriptLine.TheVariants.{Blank, Malformed, Request}

-- 2020-01-01 in milliseconds since 1970: a moment up to here is one that a script made up
abbrev pub settled : ℕ
settled = 1577836800000

-- a moment is more than so many days ahead of another; by 0 days it never is
abbrev pub is_far_ahead : (days from moment : ℕ) → Bool
is_far_ahead days from moment = nat_lt 0 days && nat_lt (from + days * 86400000) moment

-- a clock that reads so is too far ahead of the moment that a journal stands for
abbrev pub jumps : (days moment reading : ℕ) → Bool
jumps days moment reading = nat_lt settled moment && is_far_ahead days moment reading

-- the line of a jump, keys in byte order
abbrev pub jump_line : (moment reading : ℕ) → List ℕ
jump_line moment reading = codes "{\"moment\":" ++ (decimal moment ++ (codes ",\"reading\":" ++ (decimal reading ++ codes ",\"refused\":\"TimeJump\"}\n")))

-- the clock read so that the moment of a line isn't too far ahead; what is no call has none
abbrev pub IsWithin : (reads : ℕ → Type 0) → (days : ℕ) → ScriptLine → Type 0
IsWithin reads days Blank = Unit {0}
IsWithin reads days (Malformed part key) = Unit {0}
IsWithin reads days (Request a form) = (reading : ℕ) × reads reading × (is_far_ahead days reading a.reading ≡ false)

-- each of these lines
abbrev pub AllWithin : (reads : ℕ → Type 0) → (days : ℕ) → List ScriptLine → Type 0
AllWithin reads days [] = Unit {0}
AllWithin reads days (l ∷ ls) = IsWithin reads days l × AllWithin reads days ls

-- the clock read so that it isn't too far ahead of the moment that a journal stands for
abbrev pub IsSettled : (reads : ℕ → Type 0) → (days moment : ℕ) → Type 0
IsSettled reads days moment = (reading : ℕ) × reads reading × (jumps days moment reading ≡ false)

-- ---- rows, worked out by hand

-- a year on, with 400 days; to the millisecond; with 0 days
abbrev pub AreJumps : Type 0
AreJumps =
    (jumps 400 1767225600000 1798761600000 ≡ false) × (jumps 400 1767225600000 1801785600000 ≡ false) × (jumps 400 1767225600000 1801785600001 ≡ true)
    × (jumps 0 1767225600000 253402214400000 ≡ false) × (jumps 1 1577836800000 253402214400000 ≡ false) × (jumps 1 1577836800001 1577923200001 ≡ false)
    × (jumps 1 1577836800001 1577923200002 ≡ true) × (jumps 1 60000 1577923200002 ≡ false) × (jumps 100000 1767225600000 1767225600000 ≡ false)
    × (is_far_ahead 1 1000 86401000 ≡ false) × (is_far_ahead 1 1000 86401001 ≡ true) × (is_far_ahead 0 0 253402214400000 ≡ false) × (is_far_ahead 1 253402214400000 0 ≡ false)
