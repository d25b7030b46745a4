-- The worked responses: each head is given as a tree of the grammar, which is tested and printed.
use Rattle.std.proofs.Common.{◌≡◌, ℕ, Bool, true, List, [], ◌∷◌, ◌++◌, length, map, refl, sym, ap, ◌∙◌, Option, Some, None}
use Rattle.std.specs.Prelude.{◌&&◌, codes, nat_le}
use Rattle.std.specs.List.{list_all}
use Rattle.std.specs.Char.{is_ascii_digit}
use Rattle.std.proofs.lemmas.Bool.{and_parts, eqb-true, leb-true}
use Rattle.std.proofs.lemmas.List.Sums.{AllPass-from_list_all}
use Rattle.httparse.specs.Ascii.{crlf_bytes}
use Rattle.httparse.specs.Grammar.{ResponseHead, Field as FieldLine, crlf, IsResponseHead, is_value_byte, print_response, status_code, ReadsResponse}
use Rattle.httparse.specs.Spans.{name_and_value}
use Rattle.httparse.proofs.GrammarLemmas.{response_unique}
use Rattle.httparse.proofs.OnLiterals.{httparse_on_literals}
use Rattle.sb_http.specs.Fields.{with_line, stated_by}
use Rattle.sb_http.specs.Heads.{max_fields}
use Rattle.sb_http.specs.WholeResponses.{WholeMessage, IsWhole, body_size}
use Rattle.sb_http.specs.WorkedResponses.{WorkedResponses, reply_text, reply, nothing_text, nothing, behind_text, unsized_text, chunked_text}
use Rattle.sb_http.proofs.WorkedStreams.{is_sound_field, sound_fields, field}

abbrev fine : List FieldLine → ResponseHead
fine fields = record { blank = []; minor = 1; digits = codes "200"; reason = Some (codes "OK"); line_end = crlf; fields = fields; last = crlf }

sound_head : (minor : ℕ) (digits reason : List ℕ) (fields : List FieldLine) → nat_le minor 1 ≡ true → length digits ≡ 3 → list_all is_ascii_digit digits ≡ true → list_all is_value_byte reason ≡ true → list_all is_sound_field fields ≡ true
    → IsResponseHead (record { blank = []; minor = minor; digits = digits; reason = Some reason; line_end = crlf; fields = fields; last = crlf })
sound_head minor digits reason fields m three ds phrase fs = record {
  minor = leb-true minor 1 m;
  digits = (three, AllPass-from_list_all is_ascii_digit digits ds);
  reason = AllPass-from_list_all is_value_byte reason phrase;
  fields = sound_fields fields fs;
}

-- a head with another size than what stands behind it is none
other_size : (bytes : List ℕ) (h : ResponseHead) (rest : List ℕ) (o : Option ℕ) → ReadsResponse bytes h rest → body_size (status_code h) (stated_by (map name_and_value h.fields)) ≡ o → (o ≡ Some (length rest) → ⊥) → (m : WholeMessage) → IsWhole bytes m → ⊥
other_size bytes h rest o reads is other m w =
    let same = response_unique bytes w.tree h m.body rest w.reads reads in
    let code : m.code ≡ status_code h = w.code ∙ ap status_code same.0 in
    let fields : m.fields ≡ map name_and_value h.fields = w.fields ∙ ap (λ (x : ResponseHead). map name_and_value x.fields) same.0 in
    other (sym is ∙ sym (λ i. body_size (code i) (stated_by (fields i))) ∙ w.sized ∙ ap (λ (b : List ℕ). Some (length b)) same.1)

a_reply : IsWhole reply_text reply
unfolding httparse_on_literals is_sound_field field reply_text with_line
a_reply = record {
  tree = fine (field (codes "content-length") (codes "  14 ") ∷ field (codes "Connection") (codes " close") ∷ []);
  reads = (sound_head 1 (codes "200") (codes "OK") (field (codes "content-length") (codes "  14 ") ∷ field (codes "Connection") (codes " close") ∷ []) refl refl refl refl refl, refl);
  minor = refl;
  code = refl;
  fields = refl;
  few = leb-true 2 max_fields refl;
  sized = refl;
}

a_204 : IsWhole nothing_text nothing
unfolding httparse_on_literals is_sound_field field nothing_text with_line
a_204 = record {
  tree = record { blank = []; minor = 0; digits = codes "204"; reason = Some (codes "No Content"); line_end = crlf; fields = []; last = crlf };
  reads = (sound_head 0 (codes "204") (codes "No Content") [] refl refl refl refl refl, refl);
  minor = refl;
  code = refl;
  fields = refl;
  few = leb-true 0 max_fields refl;
  sized = refl;
}

behind_read : ReadsResponse behind_text (fine (field (codes "Content-Length") (codes " 2") ∷ [])) (codes "hi!")
unfolding httparse_on_literals is_sound_field field behind_text
behind_read = (sound_head 1 (codes "200") (codes "OK") (field (codes "Content-Length") (codes " 2") ∷ []) refl refl refl refl refl, refl)

behind_size : body_size (status_code (fine (field (codes "Content-Length") (codes " 2") ∷ []))) (stated_by (map name_and_value (fine (field (codes "Content-Length") (codes " 2") ∷ [])).fields)) ≡ Some 2
unfolding httparse_on_literals field with_line
behind_size = refl

unsized_read : ReadsResponse unsized_text (fine []) (codes "hi")
unfolding httparse_on_literals is_sound_field unsized_text
unsized_read = (sound_head 1 (codes "200") (codes "OK") [] refl refl refl refl refl, refl)

unsized_size : body_size (status_code (fine [])) (stated_by (map name_and_value (fine []).fields)) ≡ None
unfolding httparse_on_literals with_line
unsized_size = refl

abbrev chunks : List ℕ
chunks = codes "2" ++ crlf_bytes ++ codes "hi" ++ crlf_bytes ++ codes "0" ++ crlf_bytes ++ crlf_bytes

chunked_read : ReadsResponse chunked_text (fine (field (codes "Transfer-Encoding") (codes " chunked") ∷ [])) chunks
unfolding httparse_on_literals is_sound_field field chunked_text
chunked_read = (sound_head 1 (codes "200") (codes "OK") (field (codes "Transfer-Encoding") (codes " chunked") ∷ []) refl refl refl refl refl, refl)

chunked_size : body_size (status_code (fine (field (codes "Transfer-Encoding") (codes " chunked") ∷ []))) (stated_by (map name_and_value (fine (field (codes "Transfer-Encoding") (codes " chunked") ∷ [])).fields)) ≡ None
unfolding httparse_on_literals field with_line
chunked_size = refl

none_is_some : (n : ℕ) → None ≡ Some n → ⊥
none_is_some n e = absurd cc

two_is_three : ◌≡◌ {A = Option ℕ} (Some 2) (Some 3) → ⊥
two_is_three e = absurd cc

pub worked_responses : WorkedResponses
worked_responses = record {
  a_reply = a_reply;
  a_204 = a_204;
  behind = other_size behind_text _ (codes "hi!") (Some 2) behind_read behind_size two_is_three;
  unsized = other_size unsized_text _ (codes "hi") None unsized_read unsized_size (none_is_some 2);
  in_chunks = other_size chunked_text _ chunks None chunked_read chunked_size (none_is_some _);
}
