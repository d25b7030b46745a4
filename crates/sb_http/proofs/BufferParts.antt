-- Parts of the buffer: what the steps make of them.
use Rattle.std.proofs.Common.{◌≡◌, ℕ, ◌+◌, ◌-◌, ◌≤◌, ◌<◌, List, [], ◌++◌, length, take, drop, sym, ap, subst, ◌∙◌, arith, Err}
use Rattle.std.specs.Prelude.{slice_range}
use Rattle.std.proofs.lemmas.List.{drop-drop, length-drop, length-append, take_at, take-take, drop-append-le, length-take-le, take-append-drop}
use Rattle.std.proofs.lemmas.Slice.{between_is}
use Rattle.httparse.specs.Ascii.{crlf_bytes}
use Rattle.httparse.specs.Grammar.{print_request}
use Rattle.httparse.specs.Spans.{IsRequestWithin}
use Rattle.httparse.specs.declared.spans.HeaderSpan.{HeaderSpan}
use Rattle.httparse.specs.declared.spans.RequestSpans.{RequestSpans}
use Rattle.sb_http.specs.declared.fields.Framing.TheVariants.{Sized, Chunked}
use Rattle.sb_http.specs.declared.fault.HttpFault.{HttpFault}
use Rattle.sb_http.specs.declared.fault.HttpFault.TheVariants.{BadHead, HeadTooLarge, BodyTooLarge}
use Rattle.sb_http.specs.Heads.{Head, ReadsHead, framing}
use Rattle.sb_http.specs.Bodies.{max_body}
use Rattle.sb_http.specs.Messages.{ReadsMessage}
use Rattle.sb_http.specs.Stages.{at_body, at_line, at_data, at_trailers, whole, IsHeadText, Reads, Continues}
use Rattle.sb_http.specs.Causes.{Refuses}
use Rattle.sb_http.specs.Found.{head_at, IsHeadAt, IsLineAt, JudgesLine, EndAnswers, TrailersAnswer}
use Rattle.sb_http.proofs.Refusals.{never_line, large_chunk, bad_end, never_trailers}
use Rattle.sb_http.proofs.Items.{head_text}
use Rattle.sb_http.proofs.ReadingOn.{at, sized_read, whole_sized, whole_body, head_read, line_read, last_read, data_read, data_ended}

pub slice_from : (xs : List ℕ) (i n : ℕ) → slice_range xs i (i + n) ≡ take n (drop i xs)
slice_from xs i n = let some : i + n - i ≡ n = omega arith in ap (λ (k : ℕ). take k (drop i xs)) some

pub slice_none : (xs : List ℕ) (i : ℕ) → slice_range xs i i ≡ []
slice_none xs i = let none : i - i ≡ 0 = omega arith in ap (λ (k : ℕ). take k (drop i xs)) none

pub length_part : (xs : List ℕ) (i j : ℕ) → i ≤ j → j ≤ length xs → length (slice_range xs i j) ≡ j - i
length_part xs i j h k = length-take-le (j - i) (drop i xs) (omega (arith, length-drop i xs))

-- the text of a head that was found
pub text_of : (bytes : List ℕ) (spans : List HeaderSpan) (r : RequestSpans) → IsHeadAt bytes spans r → ReadsHead (take r.len bytes) (head_at (take r.len bytes) spans r) []
text_of bytes spans r x =
    let text = print_request x.reads.tree in
    let count : length text ≡ r.len = omega (arith, ap length x.reads.reads.1, length-append text (drop r.len bytes), length-drop r.len bytes, x.within.section.len_fits) in
    let is : take r.len bytes ≡ text = ap (take r.len) x.reads.reads.1 ∙ take_at text (drop r.len bytes) r.len count in
    subst (λ (t : List ℕ). ReadsHead t (head_at (take r.len bytes) spans r) []) (sym is) (head_text bytes _ _ x.reads)

-- ---- a head with its body

module _ (items : List ℕ) (spans : List HeaderSpan) (r : RequestSpans) (start : ℕ) where
  pub sized_head : (size : ℕ) → IsRequestWithin (drop start items) spans r → r.len + size ≤ length (drop start items) → IsRequestWithin (slice_range items start (start + r.len)) spans r
  sized_head size w fits =
      let count : length (slice_range items start (start + r.len)) ≡ r.len = ap length (slice_from items start r.len) ∙ length-take-le r.len (drop start items) (omega arith) in
      record { method = w.method; path = w.path; version = w.version; section = record { len_fits = omega (arith, count); count_fits = w.section.count_fits; headers_fit = w.section.headers_fit } }

  pub sized_message : (size : ℕ) → IsHeadAt (drop start items) spans r → framing (head_at (take r.len (drop start items)) spans r) ≡ Sized size → size ≤ max_body → r.len + size ≤ length (drop start items)
      → ReadsMessage (drop start items) (record { head = head_at (slice_range items start (start + r.len)) spans r; body = slice_range items (start + r.len) (start + r.len + size) }) (drop (start + r.len + size) items)
  sized_message size x sized fits there =
      let bytes = drop start items in
      let m = whole_sized bytes _ (drop r.len bytes) size x.reads sized fits (omega (arith, length-drop r.len bytes)) in
      let text = sym (slice_from items start r.len) in
      let body : take size (drop r.len bytes) ≡ slice_range items (start + r.len) (start + r.len + size) = ap (take size) (drop-drop r.len start items) ∙ sym (slice_from items (start + r.len) size) in
      let rest : drop size (drop r.len bytes) ≡ drop (start + r.len + size) items = ap (drop size) (drop-drop r.len start items) ∙ drop-drop size (start + r.len) items in
      subst (λ (q : List ℕ). ReadsMessage bytes (record { head = head_at (slice_range items start (start + r.len)) spans r; body = slice_range items (start + r.len) (start + r.len + size) }) q) rest
      (subst (λ (b : List ℕ). ReadsMessage bytes (record { head = head_at (slice_range items start (start + r.len)) spans r; body = b }) (drop size (drop r.len bytes))) body
      (subst (λ (t : List ℕ). ReadsMessage bytes (record { head = head_at t spans r; body = take size (drop r.len bytes) }) (drop size (drop r.len bytes))) text m))

  -- a head whose body isn't there yet
  pub sized_stage : (size : ℕ) → IsHeadAt (drop start items) spans r → framing (head_at (take r.len (drop start items)) spans r) ≡ Sized size
      → Continues (whole (drop start items)) (at (at_body (slice_range items start (start + r.len)) size) (drop (start + r.len) items))
  sized_stage size x sized =
      let bytes = drop start items in
      let read = sized_read bytes (take r.len bytes) _ (drop r.len bytes) size x.reads (text_of bytes spans r x) sized in
      subst (λ (q : List ℕ). Continues (whole bytes) (at (at_body (slice_range items start (start + r.len)) size) q)) (drop-drop r.len start items)
      (subst (λ (t : List ℕ). Continues (whole bytes) (at (at_body t size) (drop r.len bytes))) (sym (slice_from items start r.len)) read)

  -- a head with a chunked body
  pub chunked_head : IsHeadAt (drop start items) spans r → framing (head_at (take r.len (drop start items)) spans r) ≡ Chunked
      → Continues (whole (drop start items)) (at (at_line (slice_range items start (start + r.len)) (slice_range items (start + r.len) (start + r.len))) (drop (start + r.len) items))
  chunked_head x chunked =
      let bytes = drop start items in
      let read = head_read bytes (take r.len bytes) _ (drop r.len bytes) x.reads (text_of bytes spans r x) chunked in
      subst (λ (q : List ℕ). Continues (whole bytes) (at (at_line (slice_range items start (start + r.len)) (slice_range items (start + r.len) (start + r.len))) q)) (drop-drop r.len start items)
      (subst (λ (d : List ℕ). Continues (whole bytes) (at (at_line (slice_range items start (start + r.len)) d) (drop r.len bytes))) (sym (slice_none items (start + r.len)))
      (subst (λ (t : List ℕ). Continues (whole bytes) (at (at_line t []) (drop r.len bytes))) (sym (slice_from items start r.len)) read))

-- the body behind a head that was read before
pub body_message : (items text : List ℕ) (body raw n : ℕ) (head : Head) → raw ≡ body → IsHeadText text head (Sized n) → n ≤ max_body → raw + n ≤ length items
    → Reads (at (at_body text n) (drop raw items)) (record { head = head; body = slice_range items body (raw + n) }) (drop (raw + n) items)
body_message items text body raw n head plain x fits there =
    let m = whole_body text (drop raw items) head n x fits (omega (arith, length-drop raw items)) in
    let part : take n (drop raw items) ≡ slice_range items body (raw + n) = sym (slice_from items raw n) ∙ ap (λ (k : ℕ). slice_range items k (raw + n)) plain in
    subst (λ (q : List ℕ). Reads (at (at_body text n) (drop raw items)) (record { head = head; body = slice_range items body (raw + n) }) q) (drop-drop n raw items)
    (subst (λ (b : List ℕ). Reads (at (at_body text n) (drop raw items)) (record { head = head; body = b }) (drop n (drop raw items))) part m)

-- fewer are left
pub fewer : (items : List ℕ) (i n : ℕ) → 0 < n → n ≤ length (drop i items) → length (drop (i + n) items) < length (drop i items)
fewer items i n some fits = omega (arith, length-drop i items, length-drop (i + n) items)

-- ---- a chunk's line

module _ (items : List ℕ) (raw len : ℕ) (text done : List ℕ) where
  pub last_line : IsLineAt (drop raw items) len 0 → Continues (at (at_line text done) (drop raw items)) (at (at_trailers text done) (drop (raw + len) items))
  last_line x = subst (λ (q : List ℕ). Continues (at (at_line text done) (drop raw items)) (at (at_trailers text done) q)) (drop-drop len raw items) (last_read text done (drop raw items) _ x.reads)

  pub chunk_line : (size : ℕ) → IsLineAt (drop raw items) len size → 0 < size → length done + size ≤ max_body → Continues (at (at_line text done) (drop raw items)) (at (at_data text done size) (drop (raw + len) items))
  chunk_line size x some fits = subst (λ (q : List ℕ). Continues (at (at_line text done) (drop raw items)) (at (at_data text done size) q)) (drop-drop len raw items) (line_read text done (drop raw items) size _ x.reads some fits)

-- ---- bytes of a chunk

-- the bytes after n of them were moved down from raw to done
module _ (old new : List ℕ) (start body done raw n : ℕ) (s : start ≤ body) (b : body ≤ done) (d : done ≤ raw) (fits : raw + n ≤ length old)
    (front : take (done + n) new ≡ take done old ++ take n (drop raw old)) (others : drop (done + n) new ≡ drop (done + n) old) where
  first : take done new ≡ take done old
  first =
      let whole_is : length (take done old) ≡ done = length-take-le done old (omega arith) in
      sym (take-take done (done + n) new (omega arith)) ∙ ap (take done) front ∙ take_at (take done old) (take n (drop raw old)) done whole_is

  within_front : (xs : List ℕ) (i j k : ℕ) → j ≤ k → slice_range (take k xs) i j ≡ slice_range xs i j
  within_front xs i j k h = between_is (take k xs) i j ∙ ap (drop i) (take-take j k xs h) ∙ sym (between_is xs i j)

  pub same_text : slice_range new start body ≡ slice_range old start body
  same_text = sym (within_front new start body done b) ∙ ap (λ (xs : List ℕ). slice_range xs start body) first ∙ within_front old start body done b

  pub more_done : slice_range new body (done + n) ≡ slice_range old body done ++ take n (drop raw old)
  more_done =
      let whole_is : length (take done old) ≡ done = length-take-le done old (omega arith) in
      between_is new body (done + n) ∙ ap (drop body) front ∙ drop-append-le body (take done old) (take n (drop raw old)) (omega (arith, whole_is))
      ∙ ap (λ (xs : List ℕ). xs ++ take n (drop raw old)) (sym (between_is old body done))

  pub rest_done : drop (raw + n) new ≡ drop n (drop raw old)
  rest_done =
      let k : done + n + (raw - done) ≡ raw + n = omega arith in
      ap (λ (m : ℕ). drop m new) (sym k) ∙ sym (drop-drop (raw - done) (done + n) new) ∙ ap (drop (raw - done)) others ∙ drop-drop (raw - done) (done + n) old
      ∙ ap (λ (m : ℕ). drop m old) k ∙ sym (drop-drop n raw old)

  -- so many bytes of a chunk were read
  pub moved : (come : ℕ) → n ≤ come → Continues (at (at_data (slice_range old start body) (slice_range old body done) come) (drop raw old))
      (at (at_data (slice_range new start body) (slice_range new body (done + n)) (come - n)) (drop (raw + n) new))
  moved come within =
      let bytes = drop raw old in
      let part = take n bytes in
      let text = slice_range old start body in
      let so_far = slice_range old body done in
      let count : length part ≡ n = length-take-le n bytes (omega (arith, length-drop raw old)) in
      let total : length part + (come - n) ≡ come = omega (arith, count) in
      let step : Continues (at (at_data text so_far come) bytes) (at (at_data text (so_far ++ part) (come - n)) (drop n bytes)) =
      subst (λ (b : List ℕ). Continues (at (at_data text so_far come) b) (at (at_data text (so_far ++ part) (come - n)) (drop n bytes))) (take-append-drop n bytes)
      (subst (λ (k : ℕ). Continues (at (at_data text so_far k) (part ++ drop n bytes)) (at (at_data text (so_far ++ part) (come - n)) (drop n bytes))) total (data_read text so_far part (drop n bytes) (come - n))) in
      subst (λ (q : List ℕ). Continues (at (at_data text so_far come) bytes) (at (at_data (slice_range new start body) (slice_range new body (done + n)) (come - n)) q)) (sym rest_done)
      (subst (λ (d : List ℕ). Continues (at (at_data text so_far come) bytes) (at (at_data (slice_range new start body) d (come - n)) (drop n bytes))) (sym more_done)
      (subst (λ (t : List ℕ). Continues (at (at_data text so_far come) bytes) (at (at_data t (so_far ++ part) (come - n)) (drop n bytes))) (sym same_text) step))

-- ---- the end of a chunk, trailers

pub ended : (items text done : List ℕ) (raw n : ℕ) → n ≡ 0 → drop raw items ≡ crlf_bytes ++ drop 2 (drop raw items) → Continues (at (at_data text done n) (drop raw items)) (at (at_line text done) (drop (raw + 2) items))
ended items text done raw n none e =
    subst (λ (k : ℕ). Continues (at (at_data text done k) (drop raw items)) (at (at_line text done) (drop (raw + 2) items))) (sym none)
    (subst (λ (q : List ℕ). Continues (at (at_data text done 0) (drop raw items)) (at (at_line text done) q)) (drop-drop 2 raw items)
    (subst (λ (b : List ℕ). Continues (at (at_data text done 0) b) (at (at_line text done) (drop 2 (drop raw items)))) (sym e) (data_ended text done (drop 2 (drop raw items)))))

-- ---- what is refused, for the reason that was found

pub line_refused : (text done bytes : List ℕ) (have : ℕ) (fault : HttpFault) → have ≡ length done → JudgesLine have bytes (Err fault) → Refuses fault (at (at_line text done) bytes)
line_refused text done bytes have BadHead same x = record { never = never_line text done bytes x; cause = (tt, λ more p. x more p.0 p.1 p.2) }
line_refused text done bytes have HeadTooLarge same x = absurd x
line_refused text done bytes have BodyTooLarge same x =
    let large : max_body < length done + x.0 = omega (arith, x.4, same) in
    record { never = large_chunk text done bytes x.0 x.1 x.2 x.3 large; cause = (x.0, x.1, x.2, large) }

pub end_refused : (text done bytes : List ℕ) (n : ℕ) (fault : HttpFault) → n ≡ 0 → EndAnswers bytes (Err fault) → Refuses fault (at (at_data text done n) bytes)
end_refused text done bytes n BadHead none x = subst (λ (k : ℕ). Refuses BadHead (at (at_data text done k) bytes)) (sym none) (record { never = bad_end text done bytes x; cause = (tt, λ more p. p) })
end_refused text done bytes n HeadTooLarge none x = absurd x
end_refused text done bytes n BodyTooLarge none x = absurd x

pub trailers_refused : (text done bytes : List ℕ) (fault : HttpFault) → TrailersAnswer bytes (Err fault) → Refuses fault (at (at_trailers text done) bytes)
trailers_refused text done bytes BadHead x = record { never = never_trailers text done bytes x; cause = (tt, λ more p. p) }
trailers_refused text done bytes HeadTooLarge x = absurd x
trailers_refused text done bytes BodyTooLarge x = absurd x
