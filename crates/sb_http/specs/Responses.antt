-- The bytes of a response (RFC 9112, sections 2.1, 4 and 6; RFC 9110, sections 8.6 and 15).
use Rattle.std.specs.Prelude.{ℕ, ◌<◌, ◌^◌, Bool, List, [], ◌∷◌, ◌++◌, length, map, codes, if◌then◌else◌, ◌==◌, All, Some}
use Rattle.std.specs.List.{flat_map}
use Rattle.std.specs.Fmt.{decimal}
use Rattle.httparse.specs.Ascii.{crlf_bytes, space}
use Rattle.httparse.specs.Grammar.{ResponseHead, Field as FieldLine, crlf, IsToken, AllPass, is_value_byte, ReadsResponse}
use Rattle.sb_http.specs.declared.response.Status.{Status}
use Rattle.sb_http.specs.declared.response.Status.TheVariants.{Ok as Fine, Created, NoContent, BadRequest, Unauthorized, Forbidden, NotFound, MethodNotAllowed, Conflict, Gone, PayloadTooLarge, HeaderFieldsTooLarge, InternalServerError, ServiceUnavailable}
use Rattle.sb_http.specs.declared.response.Header.{Header}
use Rattle.sb_http.specs.declared.response.Response.{Response}
use Rattle.sb_http.specs.Fields.{Field}

-- the three digits of a status
abbrev pub code_of : Status → ℕ
code_of Fine = 200
code_of Created = 201
code_of NoContent = 204
code_of BadRequest = 400
code_of Unauthorized = 401
code_of Forbidden = 403
code_of NotFound = 404
code_of MethodNotAllowed = 405
code_of Conflict = 409
code_of Gone = 410
code_of PayloadTooLarge = 413
code_of HeaderFieldsTooLarge = 431
code_of InternalServerError = 500
code_of ServiceUnavailable = 503

-- its phrase
abbrev pub phrase_of : Status → List ℕ
phrase_of Fine = codes "OK"
phrase_of Created = codes "Created"
phrase_of NoContent = codes "No Content"
phrase_of BadRequest = codes "Bad Request"
phrase_of Unauthorized = codes "Unauthorized"
phrase_of Forbidden = codes "Forbidden"
phrase_of NotFound = codes "Not Found"
phrase_of MethodNotAllowed = codes "Method Not Allowed"
phrase_of Conflict = codes "Conflict"
phrase_of Gone = codes "Gone"
phrase_of PayloadTooLarge = codes "Payload Too Large"
phrase_of HeaderFieldsTooLarge = codes "Request Header Fields Too Large"
phrase_of InternalServerError = codes "Internal Server Error"
phrase_of ServiceUnavailable = codes "Service Unavailable"

-- what a response says; ends says that the connection ends with it
pub record ResponseMessage : Type 0 where
  pub status : Status
  pub fields : List Field
  pub body : List ℕ
  pub ends : Bool

-- a header's name and value
abbrev pub field_in : Header → Field
field_in h = (h.name.items, h.value.items)

-- what a response of the program says
abbrev pub said_in : Response → ResponseMessage
said_in r = record { status = r.status; fields = map field_in r.headers.items; body = r.body.items; ends = r.closes }

-- a response that has no length, since it never has a body (RFC 9110, 8.6 and 15.3.5)
abbrev pub has_no_length : Status → Bool
has_no_length s = code_of s == 204

-- the length of the body
abbrev pub length_fields : Status → ℕ → List Field
length_fields s n = if has_no_length s then [] else (codes "Content-Length", decimal n) ∷ []

-- where the connection ends (RFC 9112, 9.6)
abbrev pub end_fields : Bool → List Field
end_fields ends = if ends then (codes "Connection", codes "close") ∷ [] else []

-- all fields in order: those that are given, the length, the end
abbrev pub all_fields : ResponseMessage → List Field
all_fields r = r.fields ++ length_fields r.status (length r.body) ++ end_fields r.ends

-- a field and its line end
unfoldable pub field_line : Field → List ℕ
field_line f = f.0 ++ codes ": " ++ f.1 ++ crlf_bytes

-- the first line of a response
unfoldable pub status_line : Status → List ℕ
status_line s = codes "HTTP/1.1 " ++ decimal (code_of s) ++ codes " " ++ phrase_of s ++ crlf_bytes

-- the head, which an empty line ends, and the body
abbrev pub response_bytes : ResponseMessage → List ℕ
response_bytes r = status_line r.status ++ flat_map field_line (all_fields r) ++ crlf_bytes ++ r.body

-- ---- what a reader makes of them

-- a field as the grammar of heads has it: a space stands before the value
abbrev pub line_of : Field → FieldLine
line_of f = record { name = f.0; raw = space ∷ f.1; end = crlf }

-- the head of a response in the grammar
abbrev pub response_head : ResponseMessage → ResponseHead
response_head r = record { blank = []; minor = 1; digits = decimal (code_of r.status); reason = Some (phrase_of r.status); line_end = crlf; fields = map line_of (all_fields r); last = crlf }

-- the name is a token, and the value has no control byte but the tab
abbrev pub IsWritable : Field → Type 0
IsWritable f = IsToken f.0 × AllPass is_value_byte f.1

-- What is written is a response of the grammar with just these fields, and its body follows the head.
abbrev pub ResponsesAreRead : Type 0
ResponsesAreRead = (r : ResponseMessage) → All IsWritable r.fields → length r.body < 2 ^ 64 → ReadsResponse (response_bytes r) (response_head r) r.body
