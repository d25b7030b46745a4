-- Which entities are shown, by a query.
use Rattle.std.specs.Prelude.{ℕ, List, ◌&&◌, codes, Option, Some, None, option_map, Result, Ok, if◌then◌else◌}
use Rattle.std.specs.Str.{str_to_ascii_lowercase}
use Rattle.sb_machine.specs.Fields.{is_between, max_listed}
use Rattle.sb_machine.specs.Names.{is_main}
use Rattle.sb_machine.specs.declared.call.Path.{Path}
use Rattle.sb_machine.specs.declared.look.Look.{Look}
use Rattle.sb_machine.specs.declared.look.Look.TheVariants.{Entities}
use Rattle.sb_http.specs.Fields.{is_number, number_of}
use Rattle.sb_lines.specs.declared.fault.KeyFault.{KeyFault}
use Rattle.sb_lines.specs.Faults.{or_key, then_by}
use Rattle.sb_names.specs.Addresses.{address_of}
use Rattle.sb_rest.specs.Queries.{decoded, value_of}

-- a name, folded to ASCII lower case
abbrev pub name_of : List ℕ → List ℕ
name_of value = str_to_ascii_lowercase (decoded value)

-- what their names begin with, if it is said
abbrev pub prefix_in : List ℕ → Option (List ℕ)
prefix_in query = option_map name_of (value_of (codes "prefix") query)

-- an address that names no part
abbrev pub if_main : Path → Option Path
if_main path = if is_main path.part then Some path else None

-- the address behind which they come, if one stands here
abbrev pub after_from : Option (List ℕ) → Result (Option Path) KeyFault
after_from None = Ok None
after_from (Some value) = then_by (or_key (codes "after") (if_main (address_of (decoded value)))) (λ path. Ok (Some path))

-- the address that a query says, or that it is at fault
abbrev pub after_in : List ℕ → Result (Option Path) KeyFault
after_in query = after_from (value_of (codes "after") query)

-- how many at most: 1 to 1,000
abbrev pub count_of : List ℕ → Option ℕ
count_of text = if is_number text && is_between 1 max_listed (number_of text) then Some (number_of text) else None

-- the number that stands here; left out are 1,000
abbrev pub count_from : Option (List ℕ) → Result ℕ KeyFault
count_from None = Ok max_listed
count_from (Some value) = or_key (codes "count") (count_of (decoded value))

-- the number that a query says, or that it is at fault
abbrev pub count_in : List ℕ → Result ℕ KeyFault
count_in query = count_from (value_of (codes "count") query)

-- the look at the entities that a query says
abbrev pub entities_in : List ℕ → Result Look KeyFault
entities_in query = then_by (after_in query) (λ after. then_by (count_in query) (λ count. Ok (Entities (prefix_in query) after count)))
