-- The response that bytes are, from what the parser says of them.
use Rattle.std.proofs.Common.{◌≡◌, ℕ, ◌≤◌, List, ◌++◌, length, take, drop, map, refl, sym, ap, subst, ◌∙◌, arith, Option, Some}
use Rattle.std.specs.Prelude.{All}
use Rattle.std.proofs.lemmas.List.{drop_at, length-map, length-take}
use Rattle.httparse.specs.Grammar.{ResponseHead, print_response, status_code}
use Rattle.httparse.proofs.GrammarLemmas.{response_unique}
use Rattle.httparse.specs.Spans.{IsHeaderWithin, header_bytes, name_and_value, IsResponseWithin, IsResponseAt}
use Rattle.httparse.specs.declared.spans.HeaderSpan.{HeaderSpan}
use Rattle.httparse.specs.declared.spans.ResponseSpans.{ResponseSpans}
use Rattle.sb_http.specs.Fields.{Field, stated_by}
use Rattle.sb_http.specs.Heads.{max_fields}
use Rattle.sb_http.specs.WholeResponses.{WholeMessage, IsWhole, body_size, AreOneResponse}

-- what lies in a front lies in the whole
pub lie_within : (len n : ℕ) (hs : List HeaderSpan) → len ≤ n → All (IsHeaderWithin len) hs → All (IsHeaderWithin n) hs
lie_within len n hs le all = λ k d lt. let h = all k d lt in ((h.0.0, omega (arith, h.0.1, le)), (h.1.0, omega (arith, h.1.1, le)))

-- what is found is the response
pub found_whole : (bytes : List ℕ) (spans : List HeaderSpan) (r : ResponseSpans) (minor : ℕ) (body : List ℕ) → length spans ≡ max_fields → IsResponseWithin bytes spans r → (h : ResponseHead) × IsResponseAt bytes spans r h
    → minor ≡ r.version → body ≡ drop r.len bytes → body_size r.code (stated_by (map (header_bytes bytes) (take r.headers spans))) ≡ Some (length body)
    → IsWhole bytes (record { minor = minor; code = r.code; fields = map (header_bytes bytes) (take r.headers spans); body = body })
found_whole bytes spans r minor body room w x version behind sized =
    let h = x.0 in
    let at = x.1 in
    record {
      tree = h;
      reads = (at.reads.0, at.reads.1 ∙ ap (λ (b : List ℕ). print_response h ++ b) (sym behind));
      minor = version ∙ at.version;
      code = at.code;
      fields = at.fields;
      few = omega (arith, room, length-map (take r.headers spans) (header_bytes bytes), length-map h.fields name_and_value, ap length at.fields, length-take r.headers spans);
      sized = sized;
    }

-- a response has the size that was looked for
pub has_size : (bytes : List ℕ) (spans : List HeaderSpan) (r : ResponseSpans) (m : WholeMessage) (w : IsWhole bytes m) → IsResponseAt bytes spans r w.tree → body_size r.code (stated_by (map (header_bytes bytes) (take r.headers spans))) ≡ Some (length (drop r.len bytes))
has_size bytes spans r m w at =
    let fields : map (header_bytes bytes) (take r.headers spans) ≡ m.fields = at.fields ∙ sym w.fields in
    let code : r.code ≡ m.code = at.code ∙ sym w.code in
    let body : drop r.len bytes ≡ m.body = ap (drop r.len) w.reads.1 ∙ drop_at (print_response w.tree) m.body r.len (sym at.len) in
    (λ i. body_size (code i) (stated_by (fields i))) ∙ w.sized ∙ ap (λ (b : List ℕ). Some (length b)) (sym body)

pub one_response : AreOneResponse
one_response bytes m n x y =
    let same = response_unique bytes x.tree y.tree m.body n.body x.reads y.reads in
    let minor : m.minor ≡ n.minor = x.minor ∙ ap (λ (h : ResponseHead). h.minor) same.0 ∙ sym y.minor in
    let code : m.code ≡ n.code = x.code ∙ ap status_code same.0 ∙ sym y.code in
    let fields : m.fields ≡ n.fields = x.fields ∙ ap (λ (h : ResponseHead). map name_and_value h.fields) same.0 ∙ sym y.fields in
    let body : m.body ≡ n.body = same.1 in
    λ i. record { minor = minor i; code = code i; fields = fields i; body = body i }
