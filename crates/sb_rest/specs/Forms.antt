-- A message as JSON in the body of its response: who asks for that form, what it says, and where a response has it unasked.
use Rattle.std.specs.Prelude.{ℕ, Bool, true, false, not, nat_le, ◌&&◌, List, [], ◌∷◌, ◌++◌, codes, length, drop}
use Rattle.std.specs.List.{flat_map, list_any, position_or_len}
use Rattle.form_urlencoded.specs.Form.{split, split_once}
use Rattle.sb_machine.specs.declared.reply.CopyShown.{CopyShown}
use Rattle.sb_http.specs.Fields.{Field, same_word}
use Rattle.sb_http.specs.Responses.{field_line}
use Rattle.sb_rest.specs.Batches.{is_blank, is_media_word}
use Rattle.sb_rest.specs.Shown.{broker_text, location_under}

-- ---- who asks for it

abbrev pub json_type : List ℕ
json_type = codes "application/json"

-- without the blanks before it
abbrev pub unindented : List ℕ → List ℕ
unindented word = drop (position_or_len (λ b. not (is_blank b)) word) word

-- the type, and no more than blanks behind it
abbrev pub is_json_word : List ℕ → Bool
is_json_word word = is_media_word json_type word

-- a media range that names the type; parameters, a weight among them, may stand behind a semicolon and say nothing here (RFC 9110, 12.5.1)
abbrev pub is_json_range : List ℕ → Bool
is_json_range range = is_json_word (split_once 59 (unindented range)).0

-- one of the ranges between commas does
unfoldable pub lists_json : List ℕ → Bool
lists_json list = list_any is_json_range (split 44 list)

-- an Accept line that names the type
abbrev pub is_json_asked : Field → Bool
is_json_asked f = same_word (codes "accept") f.0 && lists_json f.1

-- whether a request asks for messages as JSON
abbrev pub wants_json : List Field → Bool
wants_json fields = list_any is_json_asked fields

-- ---- what it says

-- the message is in the body, and BrokerProperties has its numbers, moments and token alone
abbrev pub json_fields : List ℕ → List ℕ → List ℕ → List ℕ → CopyShown → List Field
json_fields host enqueued until place c =
    (codes "BrokerProperties", broker_text [] enqueued until c) ∷ (location_under c.showing host place c.number ++ (codes "Content-Type", json_type) ∷ [])

-- the form was not asked for
abbrev pub unasked : Bool → List Field
unasked true = []
unasked false = (codes "Message-Form", codes "json") ∷ []

-- ---- where a head would be too large for an ordinary client

-- An ordinary client takes a head of 64 lines of fields and 16,384 bytes. Behind these fields three lines may stand (Repeat-Kept, Content-Length,
-- Connection), which take with the status line and the empty line 100 bytes at the most.
abbrev pub most_lines : ℕ
most_lines = 61

abbrev pub most_bytes : ℕ
most_bytes = 16284

-- the bytes of the lines of these fields
abbrev pub lines_length : List Field → ℕ
lines_length fields = length (flat_map field_line fields)

-- an ordinary client takes a head with these fields
unfoldable pub fits_head : List Field → Bool
fits_head fields = nat_le (length fields) most_lines && nat_le (lines_length fields) most_bytes
