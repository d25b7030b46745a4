-- The worked streams: each head and chunk line is given as a tree of the grammar, which is tested and printed.
use Rattle.std.proofs.Common.{◌≡◌, ℕ, ◌<◌, Bool, true, List, [], ◌∷◌, ◌++◌, length, refl, Some, None, lit≤, lit<}
use Rattle.std.specs.Prelude.{◌&&◌, All, codes, nat_lt, nat_le}
use Rattle.std.specs.List.{list_all}
use Rattle.std.specs.Fmt.{digits}
use Rattle.std.specs.Char.{is_ascii_hexdigit}
use Rattle.std.proofs.lemmas.Bool.{and_parts, ltb-true, leb-true}
use Rattle.std.proofs.lemmas.List.Sums.{AllPass-from_list_all}
use Rattle.std.proofs.lemmas.List.Elements.{All-nil, All-cons}
use Rattle.std.proofs.lemmas.Str.{IsUtf8-from_ascii}
use Rattle.std.proofs.lemmas.Str.Ascii.{IsAscii-from_all}
use Rattle.httparse.specs.Ascii.{crlf_bytes}
use Rattle.httparse.specs.Grammar.{RequestHead, Field as FieldLine, crlf, is_extension_byte, IsField, IsRequestHead, is_token, is_token_byte, is_uri_byte, is_value_byte, print_request}
use Rattle.httparse.proofs.OnLiterals.{httparse_on_literals}
use Rattle.sb_http.specs.declared.fault.HttpFault.TheVariants.{BadHead, BodyTooLarge}
use Rattle.sb_http.specs.Fields.{with_line, framing_by}
use Rattle.sb_http.specs.Heads.{Head, head_of, ReadsHead, max_head, max_fields}
use Rattle.sb_http.specs.Bodies.{ReadsLine, ReadsTrailers, one_chunk, last_chunk}
use Rattle.sb_http.specs.Messages.{ReadsMessage}
use Rattle.sb_http.specs.Stages.{whole}
use Rattle.sb_http.specs.Causes.{Refuses}
use Rattle.sb_http.specs.Responses.{field_line, status_line}
use Rattle.sb_http.specs.Worked.{Worked, send_text, send, receive_text, receive, chunks_text, in_chunks, two_lengths_text, both_text, too_long_text}
use Rattle.sb_http.proofs.ReadingOn.{same_left}
use Rattle.sb_http.proofs.Refusals.{refuses_head, too_much}

-- ---- trees that pass their tests

unfoldable pub is_sound_field : FieldLine → Bool
is_sound_field f = is_token f.name && list_all is_value_byte f.raw

sound_field : (f : FieldLine) → is_sound_field f ≡ true → IsField f
unfolding is_sound_field
sound_field f h =
    let parts = and_parts (is_token f.name) _ h in
    let name = and_parts (nat_lt 0 (length f.name)) _ parts.0 in
    record { name = (ltb-true 0 (length f.name) name.0, AllPass-from_list_all is_token_byte f.name name.1); raw = AllPass-from_list_all is_value_byte f.raw parts.1 }

pub sound_fields : (fs : List FieldLine) → list_all is_sound_field fs ≡ true → All IsField fs
sound_fields [] h = All-nil IsField
sound_fields (f ∷ fs) h = let parts = and_parts (is_sound_field f) _ h in All-cons IsField f fs (sound_field f parts.0) (sound_fields fs parts.1)

below_128 : (bs : List ℕ) → list_all (λ b. nat_lt b 128) bs ≡ true → All (λ b. b < 128) bs
below_128 [] h = All-nil (λ b. b < 128)
below_128 (b ∷ bs) h = let parts = and_parts (nat_lt b 128) _ h in All-cons (λ b. b < 128) b bs (ltb-true b 128 parts.0) (below_128 bs parts.1)

-- a token, a visible target in ASCII, a version and fields
is_sound : RequestHead → Bool
is_sound h = is_token h.method && (nat_lt 0 (length h.target) && (list_all is_uri_byte h.target && (list_all (λ b. nat_lt b 128) h.target && (nat_le h.minor 1 && list_all is_sound_field h.fields))))

sound_head : (h : RequestHead) → is_sound h ≡ true → IsRequestHead h
unfolding is_sound
sound_head h x =
    let a = and_parts (is_token h.method) _ x in
    let b = and_parts (nat_lt 0 (length h.target)) _ a.1 in
    let c = and_parts (list_all is_uri_byte h.target) _ b.1 in
    let d = and_parts (list_all (λ b. nat_lt b 128) h.target) _ c.1 in
    let e = and_parts (nat_le h.minor 1) _ d.1 in
    let name = and_parts (nat_lt 0 (length h.method)) _ a.0 in
    record {
      method = (ltb-true 0 (length h.method) name.0, AllPass-from_list_all is_token_byte h.method name.1);
      target = (ltb-true 0 (length h.target) b.0, AllPass-from_list_all is_uri_byte h.target c.0);
      target_text = IsUtf8-from_ascii h.target (IsAscii-from_all h.target (below_128 h.target d.0));
      minor = leb-true h.minor 1 e.0;
      fields = sound_fields h.fields e.1;
    }

read_head : (h : RequestHead) (head : Head) (rest : List ℕ) → is_sound h ≡ true → head ≡ head_of h → nat_le (length (print_request h)) max_head ≡ true → nat_le (length h.fields) max_fields ≡ true
    → ReadsHead (print_request h ++ rest) head rest
read_head h head rest sound says short few = record { tree = h; reads = (sound_head h sound, refl); says = says; short = leb-true _ max_head short; few = leb-true _ max_fields few }

unfoldable pub field : List ℕ → List ℕ → FieldLine
field name raw = record { name = name; raw = raw; end = crlf }

request : List ℕ → ℕ → List FieldLine → RequestHead
request target minor fields = record { blank = []; method = codes "POST"; target = target; minor = minor; line_end = crlf; fields = fields; last = crlf }

-- ---- whole requests

send_read : (more : List ℕ) → ReadsMessage (send_text ++ more) send more
unfolding httparse_on_literals is_sound is_sound_field field request send_text with_line framing_by
send_read more = record {
  after = codes "hi" ++ more;
  head = read_head (request (codes "/Q/messages") 1 (field (codes "Host") (codes " h") ∷ field (codes "Content-Length") (codes " 2") ∷ [])) send.head (codes "hi" ++ more) refl refl refl refl;
  body = record { whole = refl; size_is = refl; fits = lit≤ tt };
}

receive_read : ReadsMessage receive_text receive []
unfolding httparse_on_literals is_sound is_sound_field field request receive_text with_line framing_by
receive_read = record {
  after = [];
  head = read_head (request (codes "/q/messages/head?timeout=0") 1 (field (codes "Host") (codes " h") ∷ [])) receive.head [] refl refl refl refl;
  body = record { whole = refl; size_is = refl; fits = lit≤ tt };
}

first_line : ReadsLine (codes "2;x=1" ++ crlf_bytes ++ codes "hi" ++ crlf_bytes ++ codes "0" ++ crlf_bytes ++ codes "Host: g" ++ crlf_bytes ++ crlf_bytes) 2 (codes "hi" ++ crlf_bytes ++ (codes "0" ++ crlf_bytes ++ codes "Host: g" ++ crlf_bytes ++ crlf_bytes))
unfolding httparse_on_literals
first_line = record {
  line = record { digits = codes "2"; pad = []; extension = Some (codes "x=1") };
  reads = (record { digits = (lit< tt, lit≤ tt, AllPass-from_list_all is_ascii_hexdigit (codes "2") refl); pad = All-nil _; extension = AllPass-from_list_all is_extension_byte (codes "x=1") refl }, refl);
  says = refl;
  short = lit≤ tt;
}

last_line : ReadsLine (codes "0" ++ crlf_bytes ++ codes "Host: g" ++ crlf_bytes ++ crlf_bytes) 0 (codes "Host: g" ++ crlf_bytes ++ crlf_bytes)
unfolding httparse_on_literals
last_line = record {
  line = record { digits = codes "0"; pad = []; extension = None };
  reads = (record { digits = (lit< tt, lit≤ tt, AllPass-from_list_all is_ascii_hexdigit (codes "0") refl); pad = All-nil _; extension = tt }, refl);
  says = refl;
  short = lit≤ tt;
}

trailer : ReadsTrailers (codes "Host: g" ++ crlf_bytes ++ crlf_bytes) []
unfolding httparse_on_literals is_sound_field field
trailer = record { fields = field (codes "Host") (codes " g") ∷ []; last = crlf; reads = (sound_fields (field (codes "Host") (codes " g") ∷ []) refl, refl); short = lit≤ tt; few = lit≤ tt }

chunks_read : ReadsMessage chunks_text in_chunks []
unfolding httparse_on_literals is_sound is_sound_field field request chunks_text with_line framing_by
chunks_read = record {
  after = _;
  head = read_head (request (codes "/q/messages") 1 (field (codes "Host") (codes "h") ∷ field (codes "Transfer-Encoding") (codes " Chunked") ∷ [])) in_chunks.head _ refl refl refl refl;
  body = one_chunk (codes "hi") _ first_line (lit< tt) refl (lit≤ tt) (last_chunk last_line trailer);
}

-- ---- what is refused

two_lengths : Head
two_lengths = record { method = codes "POST"; target = codes "/q"; minor = 0; fields = (codes "Content-Length", codes "2") ∷ (codes "Content-Length", codes "3") ∷ [] }

two_lengths_refused : Refuses BadHead (whole two_lengths_text)
unfolding httparse_on_literals is_sound is_sound_field field request two_lengths_text with_line framing_by two_lengths
two_lengths_refused = refuses_head two_lengths_text two_lengths [] (read_head (request (codes "/q") 0 (field (codes "Content-Length") (codes " 2") ∷ field (codes "Content-Length") (codes " 3") ∷ [])) two_lengths [] refl refl refl refl) refl

both : Head
both = record { method = codes "POST"; target = codes "/q"; minor = 1; fields = (codes "Host", codes "h") ∷ (codes "Content-Length", codes "2") ∷ (codes "Transfer-Encoding", codes "chunked") ∷ [] }

both_refused : Refuses BadHead (whole both_text)
unfolding httparse_on_literals is_sound is_sound_field field request both_text with_line framing_by both
both_refused =
    refuses_head both_text both [] (read_head (request (codes "/q") 1 (field (codes "Host") (codes " h") ∷ field (codes "Content-Length") (codes " 2") ∷ field (codes "Transfer-Encoding") (codes " chunked") ∷ [])) both [] refl refl refl refl) refl

too_long : Head
too_long = record { method = codes "POST"; target = codes "/q"; minor = 0; fields = (codes "Content-Length", codes "1048577") ∷ [] }

too_long_refused : Refuses BodyTooLarge (whole too_long_text)
unfolding httparse_on_literals is_sound is_sound_field field request too_long_text with_line framing_by too_long
too_long_refused =
    let read : ReadsHead too_long_text too_long [] = read_head (request (codes "/q") 0 (field (codes "Content-Length") (codes " 1048577") ∷ [])) too_long [] refl refl refl refl in
    record { never = too_much too_long_text too_long [] 1048577 read refl (lit< tt); cause = (too_long, [], 1048577, read, refl, lit< tt) }

-- ---- all

pub worked : Worked
unfolding field_line status_line digits
worked = record {
  two_requests = (receive_text, send_read receive_text, ([], receive_read, same_left (whole [])));
  a_part_behind = (codes "GET", send_read (codes "GET"), same_left (whole (codes "GET")));
  chunks = ([], chunks_read, same_left (whole []));
  two_lengths = two_lengths_refused;
  length_and_chunks = both_refused;
  too_long = too_long_refused;
  created_bytes = refl;
  nothing_bytes = refl;
  bad_bytes = refl;
}
