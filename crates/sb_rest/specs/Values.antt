-- What the value of a header says as a user property.
use Rattle.std.specs.Prelude.{ℕ, ℤ, pos, neg_ℤ, ◌^◌, ◌-◌, Bool, true, false, ◌&&◌, ◌==◌, nat_le, nat_lt, List, [], length, take, drop, slice_index, codes, bytes_eq, Option, Some, None, option_and_then, if◌then◌else◌}
use Rattle.serde_json.specs.Find.{as_str}
use Rattle.serde_json.specs.Read.{read}
use Rattle.sb_http.specs.Fields.{is_number, number_of}
use Rattle.sb_model.specs.declared.message.PropertyValue.{PropertyValue}
use Rattle.sb_model.specs.declared.message.PropertyValue.TheVariants.{Int, Text, Bool as Truth}
use Rattle.sb_routes.specs.Paths.{as_text}

-- a double quote begins it, and another ends it
abbrev pub is_quoted : List ℕ → Bool
is_quoted v = nat_le 2 (length v) && slice_index v 0 == 34 && slice_index v (length v - 1) == 34

-- this, or that where it isn't there
abbrev pub or_that : List ℕ → Option (List ℕ) → List ℕ
or_that other None = other
or_that other (Some text) = text

-- what stands between the quotes of a text
abbrev pub between_quotes : List ℕ → List ℕ
between_quotes v = or_that [] (as_text (take (length v - 1 - 1) (drop 1 v)))

-- the text that a JSON string is; what is none stands as it is
abbrev pub unquoted : List ℕ → List ℕ
unquoted v = or_that (between_quotes v) (option_and_then as_str (read v))

-- decimal digits alone
abbrev pub number_in : List ℕ → Option ℕ
number_in v = if is_number v then Some (number_of v) else None

-- a number from zero on, if it has 64 bits
abbrev pub positive : ℕ → Option ℤ
positive n = if nat_lt n (2 ^ 63) then Some (pos n) else None

-- a number below zero, if it has 64 bits
abbrev pub negative : ℕ → Option ℤ
negative n = if nat_le n (2 ^ 63) then Some (neg_ℤ (pos n)) else None

-- a whole number of 64 bits; a minus may stand before its digits
abbrev pub whole_in : List ℕ → Option ℤ
whole_in v = if slice_index v 0 == 45 then option_and_then negative (number_in (drop 1 v)) else option_and_then positive (number_in v)

-- true, false, or else a text
abbrev pub truth_or_text : List ℕ → PropertyValue
truth_or_text v = if bytes_eq v (codes "true") then Truth true else (if bytes_eq v (codes "false") then Truth false else Text v)

-- the number, if it is one, else a truth value or a text
abbrev pub number_or_text : List ℕ → Option ℤ → PropertyValue
number_or_text v None = truth_or_text v
number_or_text v (Some z) = Int z

-- a quoted text, a number, a truth value, or else the text as it stands
unfoldable pub header_value : List ℕ → PropertyValue
header_value v = if is_quoted v then Text (unquoted v) else number_or_text v (whole_in v)
