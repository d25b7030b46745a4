-- How long a request may wait, by its query.
use Rattle.std.specs.Prelude.{ℕ, List, ◌&&◌, nat_le, codes, Option, Some, None, Result, Ok, if◌then◌else◌}
use Rattle.sb_http.specs.Fields.{is_number, number_of}
use Rattle.sb_lines.specs.declared.fault.KeyFault.{KeyFault}
use Rattle.sb_lines.specs.Faults.{or_key}
use Rattle.sb_rest.specs.Queries.{decoded, value_of}

-- in seconds, at most an hour
abbrev pub seconds_in : List ℕ → Option ℕ
seconds_in text = if is_number text && nat_le (number_of text) 3600 then Some (number_of text) else None

-- the seconds that stand here; left out are 60
abbrev pub timeout_from : Option (List ℕ) → Result ℕ KeyFault
timeout_from None = Ok 60
timeout_from (Some value) = or_key (codes "timeout") (seconds_in (decoded value))

-- the seconds that a query says, or that it is at fault
abbrev pub timeout_in : List ℕ → Result ℕ KeyFault
timeout_in query = timeout_from (value_of (codes "timeout") query)
