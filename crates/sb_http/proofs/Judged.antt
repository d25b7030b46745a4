-- The readers' answers, from what the parsers say of the first bytes.
use Rattle.std.proofs.Common.{◌≡◌, ℕ, ◌≤◌, ◌<◌, inl, inr, List, length, take, subst, ◌∙◌, arith}
use Rattle.std.proofs.lemmas.List.{take_all}
use Rattle.httparse.specs.Grammar.{HasNoRequest, NeverHasRequest, MayBecomeRequest, HasNoChunkLine, NeverHasChunkLine, HasNoSection, ChunkLine}
use Rattle.httparse.specs.Spans.{IsRequestWithin, IsRequestOf, IsRequestAt, IsChunkLineAt, IsSectionWithin, IsSectionOf, IsSectionAt, RequestOverflows, RequestExceeds, SectionOverflows}
use Rattle.httparse.specs.declared.spans.HeaderSpan.{HeaderSpan}
use Rattle.httparse.specs.declared.spans.RequestSpans.{RequestSpans}
use Rattle.sb_http.specs.Heads.{WaitsForHead, PassesHead, max_head, max_fields}
use Rattle.sb_http.specs.Bodies.{max_line, max_trailers, max_trailer_lines}
use Rattle.sb_http.specs.Found.{IsHeadAt, NoHead, IsLineAt, NoLine, AreTrailersAt, NoTrailers}
use Rattle.sb_http.proofs.SpanPlaces.{found_head, found_line, found_trailers}
use Rattle.sb_http.proofs.Refusals.{overflows, too_long, bad_line, long_line, bad_trailers, long_trailers}

-- the front is the first n bytes, and all where there are fewer
all_there : (n : ℕ) (bytes front : List ℕ) → front ≡ take n bytes → length bytes < n → front ≡ bytes
all_there n bytes front e short = e ∙ take_all n bytes (omega arith)

-- ---- heads

module _ (bytes front : List ℕ) (e : front ≡ take max_head bytes) where
  pub head_whole : (spans : List HeaderSpan) (r : RequestSpans) → length spans ≡ max_fields → IsRequestWithin front spans r → IsRequestOf front spans r → IsHeadAt bytes spans r
  head_whole spans r room w x = found_head bytes spans r x.0 room (subst (λ (b : List ℕ). IsRequestWithin b spans r) e w) (subst (λ (b : List ℕ). IsRequestAt b spans r x.0) e x.1)

  pub head_waits : length bytes < max_head → HasNoRequest front → WaitsForHead bytes
  head_waits short none = record { short = short; none = subst HasNoRequest (all_there max_head bytes front e short) none }

  pub head_long : max_head ≤ length bytes → HasNoRequest front → MayBecomeRequest front → NoHead bytes × PassesHead bytes
  head_long full none open_yet = let judged = subst HasNoRequest e none in (too_long bytes full judged, inl (full, judged, subst MayBecomeRequest e open_yet))

  pub head_bad : (room : ℕ) → room ≡ max_fields → RequestOverflows room front → NoHead bytes
  head_bad room r h = overflows bytes (subst (λ (b : List ℕ). RequestOverflows max_fields b) e (subst (λ (k : ℕ). RequestOverflows k front) r h))

  pub head_never : (room : ℕ) → room ≡ max_fields → RequestOverflows room front → NeverHasRequest front → NoHead bytes × NeverHasRequest (take max_head bytes)
  head_never room r h never = (head_bad room r h, subst NeverHasRequest e never)

  pub head_many : (room : ℕ) → room ≡ max_fields → RequestOverflows room front → RequestExceeds room front → NoHead bytes × PassesHead bytes
  head_many room r h x = (head_bad room r h, inr (subst (λ (b : List ℕ). RequestExceeds max_fields b) e (subst (λ (k : ℕ). RequestExceeds k front) r x)))

-- ---- chunk lines

module _ (bytes front : List ℕ) (e : front ≡ take max_line bytes) where
  pub line_whole : (len size : ℕ) → (l : ChunkLine) × IsChunkLineAt front len size l → IsLineAt bytes len size
  line_whole len size x = found_line bytes len size x.0 (subst (λ (b : List ℕ). IsChunkLineAt b len size x.0) e x.1)

  pub line_waits : length bytes < max_line → HasNoChunkLine front → (length bytes < max_line) × HasNoChunkLine bytes
  line_waits short none = (short, subst HasNoChunkLine (all_there max_line bytes front e short) none)

  pub line_long : max_line ≤ length bytes → HasNoChunkLine front → NoLine bytes
  line_long full none = long_line bytes full (subst HasNoChunkLine e none)

  pub line_bad : NeverHasChunkLine front → NoLine bytes
  line_bad never = bad_line bytes (subst NeverHasChunkLine e never)

-- ---- trailers

module _ (bytes front : List ℕ) (e : front ≡ take max_trailers bytes) where
  pub trailers_whole : (spans : List HeaderSpan) (len count : ℕ) → length spans ≡ max_fields → IsSectionWithin front spans len count → IsSectionOf front 0 spans (len, count) → AreTrailersAt bytes len
  trailers_whole spans len count room w x = found_trailers bytes spans len count x.0 x.1 room (subst (λ (b : List ℕ). len ≤ length b) e w.len_fits) (subst (λ (b : List ℕ). IsSectionAt b 0 spans len count x.0 x.1) e x.2)

  pub trailers_wait : length bytes < max_trailers → HasNoSection front → (length bytes < max_trailers) × HasNoSection bytes
  trailers_wait short none = (short, subst HasNoSection (all_there max_trailers bytes front e short) none)

  pub trailers_long : max_trailers ≤ length bytes → HasNoSection front → NoTrailers bytes
  trailers_long full none = long_trailers bytes full (subst HasNoSection e none)

  pub trailers_bad : (room : ℕ) → room ≡ max_fields → SectionOverflows room front → NoTrailers bytes
  trailers_bad room r h = bad_trailers bytes (subst (λ (b : List ℕ). SectionOverflows max_trailer_lines b) e (subst (λ (k : ℕ). SectionOverflows k front) r h))
