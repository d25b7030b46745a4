-- Which response some bytes are, from their begin to their end (RFC 9112, sections 2.1, 4 and 6.3). The
-- grammar of its head is that of `httparse`.
use Rattle.std.specs.Prelude.{◌≡◌, ℕ, ◌≤◌, List, length, map, take, Option, Some, None, ◌==◌, if◌then◌else◌}
use Rattle.httparse.specs.Grammar.{ResponseHead, ReadsResponse, status_code}
use Rattle.httparse.specs.Spans.{header_bytes, name_and_value}
use Rattle.sb_http.specs.declared.fields.Length.{Length}
use Rattle.sb_http.specs.declared.fields.Length.TheVariants as Given
use Rattle.sb_http.specs.declared.fields.Coding.{Coding}
use Rattle.sb_http.specs.declared.fields.Coding.TheVariants as Code
use Rattle.sb_http.specs.declared.fields.Stated.{Stated}
use Rattle.sb_http.specs.declared.whole_response.WholeResponse.{WholeResponse}
use Rattle.sb_http.specs.Fields.{Field, stated_by}
use Rattle.sb_http.specs.Heads.{max_fields}
use Rattle.sb_http.specs.Version.{minor_of}

-- what a response says: the number of its status, and its fields in order, with their names as sent and
-- their values without the white space around them
pub record WholeMessage : Type 0 where
  pub minor : ℕ
  pub code : ℕ
  pub fields : List Field
  pub body : List ℕ

-- How long the body is: as long as its length says; of a 204, which has none, nothing. There is no body
-- without a length, with two that differ, or with a coding.
abbrev pub size_by : ℕ → Coding → Length → Option ℕ
size_by code Code.Absent Given.Absent = if code == 204 then Some 0 else None
size_by code Code.Absent (Given.Value n) = if code == 204 then None else Some n
size_by code Code.Absent Given.Bad = None
size_by code Code.Chunked given = None
size_by code Code.Bad given = None

-- how many bytes a response's body has, by its status and its header fields
abbrev pub body_size : ℕ → Stated → Option ℕ
body_size code said = size_by code said.coding said.length

-- the bytes are this response, and nothing follows it
pub record IsWhole (bytes : List ℕ) (m : WholeMessage) : Type 0 where
  pub tree : ResponseHead
  pub reads : ReadsResponse bytes tree m.body
  pub minor : m.minor ≡ tree.minor
  pub code : m.code ≡ status_code tree
  pub fields : m.fields ≡ map name_and_value tree.fields
  pub few : length tree.fields ≤ max_fields
  pub sized : body_size m.code (stated_by m.fields) ≡ Some (length m.body)

-- bytes are one response at most
abbrev pub AreOneResponse : Type 0
AreOneResponse = (bytes : List ℕ) (m n : WholeMessage) → IsWhole bytes m → IsWhole bytes n → m ≡ n

-- ---- a response that was handed out

-- its fields, in order
abbrev pub fields_in : WholeResponse → List Field
fields_in r = map (header_bytes r.text.now) (take r.count r.spans)

-- what it says
abbrev pub told_by : WholeResponse → WholeMessage
told_by r = record { minor = minor_of r.version; code = r.code; fields = fields_in r; body = r.body.now }
