-- The number of a call, under which it acts once, by two fields of its request.
use Rattle.std.specs.Prelude.{ℕ, ◌&&◌, List, length, fold, codes, Option, Some, None, Result, Ok, Err, if◌then◌else◌}
use Rattle.sb_machine.specs.Fields.{is_between, is_number}
use Rattle.sb_machine.specs.declared.call.By.{By}
use Rattle.sb_http.specs.Fields.{Field, same_word, is_number as are_digits, number_of}
use Rattle.sb_lines.specs.declared.fault.KeyFault.{KeyFault}
use Rattle.sb_lines.specs.Faults.{bad_key, or_key, then_by}
use Rattle.sb_routes.specs.Paths.{as_text}

-- the header field of the client's name
abbrev pub client_name : List ℕ
client_name = codes "Repeat-Client"

-- the header field of the call's number
abbrev pub number_name : List ℕ
number_name = codes "Repeat-Number"

-- ---- the fields

-- the value of this field, or that of those before
abbrev pub or_value : List ℕ → Option (List ℕ) → Field → Option (List ℕ)
or_value name so_far f = if same_word name f.0 then Some f.1 else so_far

-- the last value of a header field
abbrev pub last_from : List ℕ → Option (List ℕ) → List Field → Option (List ℕ)
last_from name so_far fields = fold (or_value name) so_far fields

-- the value of the last line of this name
abbrev pub last_of : List ℕ → List Field → Option (List ℕ)
last_of name fields = last_from name None fields

-- ---- what they say

-- a text of 1 to 50 bytes
abbrev pub client_in : List ℕ → Option (List ℕ)
client_in value = if is_between 1 50 (length value) then as_text value else None

-- a number of a call, or of a message, in decimal digits
abbrev pub number_in : List ℕ → Option ℕ
number_in value = if are_digits value && is_number (number_of value) then Some (number_of value) else None

-- client and number, or the field at fault
abbrev pub numbered : List ℕ → List ℕ → Result (Option By) KeyFault
numbered client number =
    then_by (or_key client_name (client_in client)) (λ c.
    then_by (or_key number_name (number_in number)) (λ n. Ok (Some (record { client = c; number = n }))))

-- both or neither: the one that is there alone is at fault
abbrev pub by_from : Option (List ℕ) → Option (List ℕ) → Result (Option By) KeyFault
by_from None None = Ok None
by_from (Some client) None = Err (bad_key None client_name)
by_from None (Some number) = Err (bad_key None number_name)
by_from (Some client) (Some number) = numbered client number

-- the client and the number that a request gives its call
abbrev pub by_of : List Field → Result (Option By) KeyFault
by_of fields = by_from (last_of client_name fields) (last_of number_name fields)
