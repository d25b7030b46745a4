-- What the field lines of a head say of the body behind it (RFC 9112, section 6; RFC 9110, sections
-- 5.1 and 8.6).
use Rattle.std.specs.Prelude.{ℕ, ◌^◌, ◌-◌, min, Bool, true, false, ◌&&◌, List, [], ◌∷◌, map, fold, length, if◌then◌else◌, nat_lt, ◌==◌, codes, bytes_eq}
use Rattle.std.specs.List.{list_all}
use Rattle.std.specs.Char.{is_ascii_digit, to_ascii_lowercase}
use Rattle.std.specs.Str.Parse.{digits_value}
use Rattle.sb_http.specs.declared.fields.Hosts.{Hosts}
use Rattle.sb_http.specs.declared.fields.Hosts.TheVariants as Host
use Rattle.sb_http.specs.declared.fields.Length.{Length}
use Rattle.sb_http.specs.declared.fields.Length.TheVariants as Given
use Rattle.sb_http.specs.declared.fields.Coding.{Coding}
use Rattle.sb_http.specs.declared.fields.Coding.TheVariants as Code
use Rattle.sb_http.specs.declared.fields.Stated.{Stated}
use Rattle.sb_http.specs.declared.fields.Framing.{Framing}
use Rattle.sb_http.specs.declared.fields.Framing.TheVariants.{Refused, Sized, Chunked}

-- the name and the value of a field
abbrev pub Field : Type 0
Field = List ℕ × List ℕ

-- the same bytes, whatever the case of their ASCII letters (RFC 9110, 5.1)
abbrev pub same_word : List ℕ → List ℕ → Bool
same_word word name = bytes_eq (map to_ascii_lowercase name) (map to_ascii_lowercase word)

-- one digit or more, and nothing else
abbrev pub is_number : List ℕ → Bool
is_number value = nat_lt 0 (length value) && list_all is_ascii_digit value

-- the number that the digits write, or the greatest of 64 bits where it is above that
abbrev pub number_of : List ℕ → ℕ
number_of value = min (digits_value 10 value) (2 ^ 64 - 1)

-- one more Host line
abbrev pub one_more : Hosts → Hosts
one_more Host.Absent = Host.One
one_more Host.One = Host.Many
one_more Host.Many = Host.Many

-- a length behind what lengths said before: an equal one is none more
abbrev pub beside : ℕ → Length → Length
beside n Given.Absent = Given.Value n
beside n (Given.Value m) = if n == m then Given.Value m else Given.Bad
beside n Given.Bad = Given.Bad

-- one more Content-Length line (RFC 9110, 8.6); a list of lengths is no number
abbrev pub with_length : Length → List ℕ → Length
with_length so_far value = if is_number value then beside (number_of value) so_far else Given.Bad

-- one more Transfer-Encoding line: the one word `chunked`, once (RFC 9112, 6.1)
abbrev pub with_coding : Coding → List ℕ → Coding
with_coding Code.Absent value = if same_word (codes "chunked") value then Code.Chunked else Code.Bad
with_coding Code.Chunked value = Code.Bad
with_coding Code.Bad value = Code.Bad

-- one more line
unfoldable pub with_line : Stated → Field → Stated
with_line so_far field =
    if same_word (codes "host") field.0 then record so_far { hosts = one_more so_far.hosts }
    else (if same_word (codes "content-length") field.0 then record so_far { length = with_length so_far.length field.1 }
    else (if same_word (codes "transfer-encoding") field.0 then record so_far { coding = with_coding so_far.coding field.1 }
    else so_far))

-- before any line
abbrev pub no_lines : Stated
no_lines = record { hosts = Host.Absent; length = Given.Absent; coding = Code.Absent }

-- what all lines say together
abbrev pub stated_by : List Field → Stated
stated_by fields = fold with_line no_lines fields

-- one Host line, or none in HTTP/1.0 (RFC 9112, 3.2)
abbrev pub is_hosted : ℕ → Hosts → Bool
is_hosted minor Host.Absent = minor == 0
is_hosted minor Host.One = true
is_hosted minor Host.Many = false

-- the body by its length or its coding (RFC 9112, 6.3): neither is no body, both are refused
abbrev pub by_lines : ℕ → Coding → Length → Framing
by_lines minor Code.Absent Given.Absent = Sized 0
by_lines minor Code.Absent (Given.Value n) = Sized n
by_lines minor Code.Absent Given.Bad = Refused
by_lines minor Code.Chunked Given.Absent = if minor == 0 then Refused else Chunked
by_lines minor Code.Chunked (Given.Value n) = Refused
by_lines minor Code.Chunked Given.Bad = Refused
by_lines minor Code.Bad given = Refused

-- the target begins with a slash: origin-form (RFC 9112, 3.2.1)
abbrev pub is_origin : List ℕ → Bool
is_origin [] = false
is_origin (b ∷ bytes) = b == 47

-- how the body goes behind a head with this target, minor version and lines
unfoldable pub framing_by : List ℕ → ℕ → Stated → Framing
framing_by target minor said = if is_origin target && is_hosted minor said.hosts then by_lines minor said.coding said.length else Refused
