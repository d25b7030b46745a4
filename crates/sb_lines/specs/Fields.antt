-- The fields of an object: what stands at a key, and which keys may stand.
use Rattle.std.specs.Prelude.{ℕ, List, Bool, codes, bytes_eq, nat_le, if◌then◌else◌, Option, Some, None, option_map, option_and_then, Result, Ok}
use Rattle.std.specs.Result.{result_ok}
use Rattle.std.specs.Str.{str_to_ascii_lowercase}
use Rattle.hex.specs.Hex.{decode_of}
use Rattle.serde_json.specs.Data.{Data, Members, no_members, member}
use Rattle.serde_json.specs.Find.{get, as_str, as_number, as_u64, as_object}
use Rattle.sb_machine.specs.Fields.{is_number}
use Rattle.sb_machine.specs.Names.{is_main}
use Rattle.sb_machine.specs.declared.call.Mode.{Mode}
use Rattle.sb_machine.specs.declared.call.Mode.TheVariants.{Lock, Delete}
use Rattle.sb_machine.specs.declared.call.Path.{Path}
use Rattle.sb_machine.specs.declared.call.Token.{Token}
use Rattle.sb_names.specs.Addresses.{address_of}
use Rattle.sb_lines.specs.declared.fault.KeyFault.{KeyFault}
use Rattle.sb_lines.specs.declared.form.Form.{Form}
use Rattle.sb_lines.specs.declared.form.Form.TheVariants.{Amqp}
use Rattle.sb_lines.specs.Faults.{or_key}
use Rattle.sb_lines.specs.Tokens.{token_in}

-- ---- values

-- the text at a key
abbrev pub text_at : List ℕ → Data → Option (List ℕ)
text_at key d = option_and_then as_str (get key d)

-- a whole number, 0 to 2^64 - 1
abbrev pub whole_in : Data → Option ℕ
whole_in d = option_and_then as_u64 (as_number d)

-- the same at a key
abbrev pub whole_at : List ℕ → Data → Option ℕ
whole_at key d = option_and_then whole_in (get key d)

-- a number, if the namespace may give it
abbrev pub if_number : ℕ → Option ℕ
if_number n = if is_number n then Some n else None

-- a number that the namespace may give, 1 to 2^63 - 1
abbrev pub number_in : Data → Option ℕ
number_in d = option_and_then if_number (whole_in d)

-- the same at a key
abbrev pub number_at : List ℕ → Data → Option ℕ
number_at key d = option_and_then number_in (get key d)

-- a name is any text, folded to ASCII lower case
abbrev pub name_at : List ℕ → Data → Option (List ℕ)
name_at key d = option_map str_to_ascii_lowercase (text_at key d)

-- the address that a text is; one that is none is taken for the name of an entity
unfoldable pub path_of : List ℕ → Path
path_of text = address_of text

-- the address at a key
abbrev pub path_at : List ℕ → Data → Option Path
path_at key d = option_map path_of (text_at key d)

-- an address, if it names no part
abbrev pub if_main : Path → Option Path
if_main path = if is_main path.part then Some path else None

-- an address that names no part
abbrev pub entity_at : List ℕ → Data → Option Path
entity_at key d = option_and_then (λ text. if_main (path_of text)) (text_at key d)

-- a UUID in any of its forms
abbrev pub token_at : List ℕ → Data → Option Token
token_at key d = option_and_then token_in (text_at key d)

-- the mode of receiving that a word names
abbrev pub mode_named : List ℕ → Option Mode
mode_named word = if bytes_eq word (codes "lock") then Some Lock else if bytes_eq word (codes "delete") then Some Delete else None

-- the mode of receiving that a text names
abbrev pub mode_in : Data → Option Mode
mode_in d = option_and_then mode_named (as_str d)

-- the form that has a word
abbrev pub form_named : List ℕ → Option Form
form_named word = if bytes_eq word (codes "amqp") then Some Amqp else None

-- the form that a word names
abbrev pub form_in : Data → Option Form
form_in d = option_and_then form_named (as_str d)

-- the longest that a call may wait, in s
abbrev pub max_wait : ℕ
max_wait = 3600

-- so many s, if a call may wait so long
abbrev pub if_wait : ℕ → Option ℕ
if_wait n = if nat_le n max_wait then Some n else None

-- how long a call waits, in whole s
abbrev pub wait_in : Data → Option ℕ
wait_in d = option_and_then if_wait (whole_in d)

-- the bytes of pairs of hexadecimal digits, in either case
abbrev pub hex_at : List ℕ → Data → Option (List ℕ)
hex_at key d = option_and_then (λ text. result_ok (decode_of text)) (text_at key d)

-- what a key that is left out stands for
abbrev pub or_default : {T : Type 0} → List ℕ → T → (Data → Option T) → Option Data → Result T KeyFault
or_default key default reads None = Ok default
or_default key default reads (Some d) = or_key key (reads d)

-- ---- keys

-- the first key, in byte order, that isn't one of these
abbrev pub unknown_in : (List ℕ → Bool) → Members → Option (List ℕ)
unknown_in known no_members = None
unknown_in known (member k d ms) = if known k then unknown_in known ms else Some k

-- the same of an object
abbrev pub unknown_key : (List ℕ → Bool) → Data → Option (List ℕ)
unknown_key known d = option_and_then (unknown_in known) (as_object d)
