-- Which messages are looked at, by a query.
use Rattle.std.specs.Prelude.{ℕ, List, codes, Option, Some, None, Result, Ok, Err}
use Rattle.sb_machine.specs.declared.call.Path.{Path}
use Rattle.sb_lines.specs.declared.fault.KeyFault.{KeyFault}
use Rattle.sb_lines.specs.Faults.{bad_key, or_key, then_by}
use Rattle.sb_names.specs.Addresses.{address_of}
use Rattle.sb_rest.specs.Queries.{decoded, value_of}
use Rattle.sb_rest.specs.Repeats.{number_in}

-- the address that stands here, which has to
abbrev pub from_from : Option (List ℕ) → Result Path KeyFault
from_from None = Err (bad_key None (codes "from"))
from_from (Some value) = Ok (address_of (decoded value))

-- the address that a query says
abbrev pub from_in : List ℕ → Result Path KeyFault
from_in query = from_from (value_of (codes "from") query)

-- the number that stands here, in decimal digits, or this one where none does
abbrev pub number_from : List ℕ → ℕ → Option (List ℕ) → Result ℕ KeyFault
number_from key default None = Ok default
number_from key default (Some value) = or_key key (number_in (decoded value))

-- the number that a query says under a key, or this one
abbrev pub number_or : List ℕ → ℕ → List ℕ → Result ℕ KeyFault
number_or key default query = number_from key default (value_of key query)

-- whose messages, from which number on, and how many at most: where it isn't said 20 from the first on
abbrev pub peek_in : List ℕ → Result (Path × ℕ × ℕ) KeyFault
peek_in query =
    then_by (from_in query) (λ from.
    then_by (number_or (codes "start") 1 query) (λ start.
    then_by (number_or (codes "count") 20 query) (λ count. Ok (from, start, count))))
