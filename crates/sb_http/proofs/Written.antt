-- What is written of a response is read as that response.
use Rattle.std.proofs.Common.{◌≡◌, ℕ, ◌<◌, ◌^◌, Bool, true, false, List, [], ◌∷◌, ◌++◌, length, map, refl, sym, ap, ◌∙◌, arith, append_assoc, lit≤, lit<}
use Rattle.std.specs.Prelude.{All, IsTrue, codes, if◌then◌else◌, slice_index_or}
use Rattle.std.specs.List.{flat_map, list_all}
use Rattle.std.specs.Fmt.{digits, decimal}
use Rattle.std.specs.Char.{is_ascii_digit}
use Rattle.std.specs.Int.{IsInRange}
use Rattle.std.specs.Str.Parse.{AllDigits}
use Rattle.std.proofs.lemmas.List.Sums.{AllPass-from_list_all}
use Rattle.std.proofs.lemmas.List.Elements.{All-append, All-nil, All-cons, All-map}
use Rattle.std.proofs.lemmas.List.{append-nil}
use Rattle.std.proofs.lemmas.Bool.{and_from}
use Rattle.std.proofs.lemmas.Bool.Decides.{nat_tests}
use Rattle.std.proofs.lemmas.Str.Parse.{digit_at}
use Rattle.std.proofs.lemmas.Fmt.{decimal_is_IsNumeral}
use Rattle.httparse.specs.Ascii.{crlf_bytes, space}
use Rattle.httparse.specs.Grammar.{IsField, is_token_byte, is_value_byte, print_field, print_version, print_response}
use Rattle.sb_http.specs.declared.response.Status.{Status}
use Rattle.sb_http.specs.declared.response.Status.TheVariants.{Ok as Fine, Created, NoContent, BadRequest, Unauthorized, Forbidden, NotFound, MethodNotAllowed, Conflict, Gone, PayloadTooLarge, HeaderFieldsTooLarge, InternalServerError, ServiceUnavailable}
use Rattle.sb_http.specs.Fields.{Field}
use Rattle.sb_http.specs.Responses.{code_of, phrase_of, ResponseMessage, has_no_length, length_fields, end_fields, all_fields, field_line, status_line, response_bytes, line_of, response_head, IsWritable, ResponsesAreRead}

-- ---- statuses

pub record IsSound (s : Status) : Type 0 where
  pub three : length (decimal (code_of s)) ≡ 3
  pub digits : list_all is_ascii_digit (decimal (code_of s)) ≡ true
  pub phrase : list_all is_value_byte (phrase_of s) ≡ true

sound : (s : Status) → IsSound s
unfolding digits
sound Fine = record { three = refl; digits = refl; phrase = refl }
sound Created = record { three = refl; digits = refl; phrase = refl }
sound NoContent = record { three = refl; digits = refl; phrase = refl }
sound BadRequest = record { three = refl; digits = refl; phrase = refl }
sound Unauthorized = record { three = refl; digits = refl; phrase = refl }
sound Forbidden = record { three = refl; digits = refl; phrase = refl }
sound NotFound = record { three = refl; digits = refl; phrase = refl }
sound MethodNotAllowed = record { three = refl; digits = refl; phrase = refl }
sound Conflict = record { three = refl; digits = refl; phrase = refl }
sound Gone = record { three = refl; digits = refl; phrase = refl }
sound PayloadTooLarge = record { three = refl; digits = refl; phrase = refl }
sound HeaderFieldsTooLarge = record { three = refl; digits = refl; phrase = refl }
sound InternalServerError = record { three = refl; digits = refl; phrase = refl }
sound ServiceUnavailable = record { three = refl; digits = refl; phrase = refl }

-- ---- fields

-- the digits of a number may stand in a value
digit_in_value : (b : ℕ) → IsInRange 48 57 b → is_value_byte b ≡ true
digit_in_value b h = grind (arith, nat_tests)

digits_in_value : (ds : List ℕ) → AllDigits 10 ds → list_all is_value_byte ds ≡ true
digits_in_value [] h = refl
digits_in_value (d ∷ ds) h = and_from _ _ (digit_in_value d (digit_at (d ∷ ds) 0 h (omega arith))) (digits_in_value ds h.1)

writable_unless : (b : Bool) (f : Field) → IsWritable f → All IsWritable (if b then [] else f ∷ [])
writable_unless true f w = All-nil IsWritable
writable_unless false f w = All-cons IsWritable f [] w (All-nil IsWritable)

length_writable : (s : Status) (n : ℕ) → n < 2 ^ 64 → All IsWritable (length_fields s n)
unfolding is_token_byte
length_writable s n fits =
    let digits_are = (decimal_is_IsNumeral n fits).0.1 in
    writable_unless (has_no_length s) (codes "Content-Length", decimal n) ((lit< tt, AllPass-from_list_all is_token_byte (codes "Content-Length") refl), AllPass-from_list_all is_value_byte (decimal n) (digits_in_value (decimal n) digits_are))

end_writable : (ends : Bool) → All IsWritable (end_fields ends)
unfolding is_token_byte
end_writable true =
    All-cons IsWritable (codes "Connection", codes "close") [] ((lit< tt, AllPass-from_list_all is_token_byte (codes "Connection") refl), AllPass-from_list_all is_value_byte (codes "close") refl) (All-nil IsWritable)
end_writable false = All-nil IsWritable

all_writable : (r : ResponseMessage) → All IsWritable r.fields → length r.body < 2 ^ 64 → All IsWritable (all_fields r)
all_writable r h fits =
    All-append IsWritable (r.fields ++ length_fields r.status (length r.body)) (end_fields r.ends) (All-append IsWritable r.fields (length_fields r.status (length r.body)) h (length_writable r.status (length r.body) fits)) (end_writable r.ends)

field_read : (f : Field) → IsWritable f → IsField (line_of f)
field_read f w = record { name = w.0; raw = All-cons (λ b. IsTrue (is_value_byte b)) space f.1 refl w.1 }

fields_read : (fs : List Field) → All IsWritable fs → All IsField (map line_of fs)
fields_read fs h = All-map IsField line_of fs (λ k d lt. field_read (slice_index_or fs k d) (h k d lt))

-- ---- bytes

-- a length that is written
pub length_written : (s : Status) (n : ℕ) → has_no_length s ≡ false → flat_map field_line (length_fields s n) ≡ field_line (codes "Content-Length", decimal n)
length_written s n e = ap (λ (b : Bool). flat_map field_line (if b then [] else (codes "Content-Length", decimal n) ∷ [])) e ∙ append-nil (field_line (codes "Content-Length", decimal n))

line_printed : (f : Field) → print_field (line_of f) ≡ field_line f
unfolding field_line
line_printed f = simp append_assoc

lines_printed : (fs : List Field) → flat_map print_field (map line_of fs) ≡ flat_map field_line fs
lines_printed [] = refl
lines_printed (f ∷ fs) = λ i. line_printed f i ++ lines_printed fs i

-- a head with these digits, phrase and field lines, as it is printed
abbrev head_with : List ℕ → List ℕ → List ℕ → List ℕ
head_with digits_are phrase lines = print_version 1 ++ space ∷ digits_are ++ space ∷ phrase ++ crlf_bytes ++ (lines ++ crlf_bytes)

regroup : (version blank digits_are phrase end lines body : List ℕ)
    → (version ++ blank) ++ digits_are ++ blank ++ phrase ++ end ++ lines ++ end ++ body ≡ (version ++ (blank ++ digits_are) ++ (blank ++ phrase) ++ end ++ (lines ++ end)) ++ body
regroup version blank digits_are phrase end lines body = simp append_assoc

laid_out : (digits_are phrase lines body : List ℕ) → codes "HTTP/1.1 " ++ digits_are ++ codes " " ++ phrase ++ crlf_bytes ++ lines ++ crlf_bytes ++ body ≡ head_with digits_are phrase lines ++ body
laid_out digits_are phrase lines body = regroup (print_version 1) (space ∷ []) digits_are phrase crlf_bytes lines body

printed : (r : ResponseMessage) → response_bytes r ≡ print_response (response_head r) ++ r.body
unfolding print_response status_line
printed r =
    laid_out (decimal (code_of r.status)) (phrase_of r.status) (flat_map field_line (all_fields r)) r.body
    ∙ ap (λ (lines : List ℕ). head_with (decimal (code_of r.status)) (phrase_of r.status) lines ++ r.body) (sym (lines_printed (all_fields r)))

pub responses_are_read : ResponsesAreRead
responses_are_read r h fits =
    let s = sound r.status in (
      record {
        minor = lit≤ tt;
        digits = (s.three, AllPass-from_list_all is_ascii_digit (decimal (code_of r.status)) s.digits);
        reason = AllPass-from_list_all is_value_byte (phrase_of r.status) s.phrase;
        fields = fields_read (all_fields r) (all_writable r h fits);
      },
      printed r,
    )
