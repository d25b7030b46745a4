-- What the readers of heads, chunk lines and trailers answer. No other crate needs these words.
use Rattle.std.specs.Prelude.{◌≡◌, ℕ, ◌+◌, ◌≤◌, ◌<◌, ◌⊎◌, List, [], ◌∷◌, ◌++◌, length, take, drop, map, Result, Ok, Err, Option, Some, None, Bool, true, false}
use Rattle.httparse.specs.Ascii.{crlf_bytes, carriage_return}
use Rattle.httparse.specs.Grammar.{NeverHasRequest, HasNoChunkLine, HasNoSection}
use Rattle.httparse.specs.Spans.{span_bytes, header_bytes, IsRequestWithin}
use Rattle.httparse.specs.declared.spans.HeaderSpan.{HeaderSpan}
use Rattle.httparse.specs.declared.spans.RequestSpans.{RequestSpans}
use Rattle.sb_http.specs.declared.fault.HttpFault.{HttpFault}
use Rattle.sb_http.specs.declared.fault.HttpFault.TheVariants.{BadHead, HeadTooLarge, BodyTooLarge}
use Rattle.sb_http.specs.declared.fields.Framing.{Framing}
use Rattle.sb_http.specs.declared.fields.Framing.TheVariants.{Sized, Chunked}
use Rattle.sb_http.specs.declared.judge.Judged.{Judged}
use Rattle.sb_http.specs.declared.judge.Judged.TheVariants.{Waits as HeadWaits, Sized as SizedBody, Chunked as ChunkedBody}
use Rattle.sb_http.specs.declared.judge.LineJudged.{LineJudged}
use Rattle.sb_http.specs.declared.judge.LineJudged.TheVariants.{Waits as LineWaits, Last as LastLine, Chunk as ChunkLine}
use Rattle.sb_http.specs.Heads.{Head, ReadsHead, WaitsForHead, PassesHead, framing, max_head}
use Rattle.sb_http.specs.Bodies.{ReadsLine, ReadsTrailers, max_body, max_line, max_trailers}
use Rattle.sb_http.specs.Stages.{whole, IsHeadText}
use Rattle.sb_http.specs.Causes.{Refuses}

-- what the spans cover of a head's text
abbrev pub head_at : List ℕ → List HeaderSpan → RequestSpans → Head
head_at text spans r = record { method = span_bytes text r.method; target = span_bytes text r.path; minor = r.version; fields = map (header_bytes text) (take r.headers spans) }

-- the spans are those of a head that the bytes begin with
pub record IsHeadAt (bytes : List ℕ) (spans : List HeaderSpan) (r : RequestSpans) : Type 0 where
  pub some : 0 < r.len
  pub within : IsRequestWithin bytes spans r
  pub reads : ReadsHead bytes (head_at (take r.len bytes) spans r) (drop r.len bytes)

-- no head begins here, whatever more comes
abbrev pub NoHead : List ℕ → Type 0
NoHead bytes = (others : List ℕ) (head : Head) (rest : List ℕ) → ReadsHead (bytes ++ others) head rest → ⊥

-- each answer on a head: its spans, that more has to come, or why it is refused
abbrev pub HeadAnswers : List ℕ → List HeaderSpan → Result (Option RequestSpans) HttpFault → Type 0
HeadAnswers bytes spans (Ok (Some r)) = IsHeadAt bytes spans r
HeadAnswers bytes spans (Ok None) = WaitsForHead bytes
HeadAnswers bytes spans (Err BadHead) = NoHead bytes × NeverHasRequest (take max_head bytes)
HeadAnswers bytes spans (Err HeadTooLarge) = NoHead bytes × PassesHead bytes
HeadAnswers bytes spans (Err BodyTooLarge) = ⊥

-- no chunk line begins here, whatever more comes
abbrev pub NoLine : List ℕ → Type 0
NoLine bytes = (others : List ℕ) (size : ℕ) (after : List ℕ) → ReadsLine (bytes ++ others) size after → ⊥

-- the first len bytes are the line of a chunk of this size
pub record IsLineAt (bytes : List ℕ) (len size : ℕ) : Type 0 where
  pub within : len ≤ length bytes
  pub some : 0 < len
  pub reads : ReadsLine bytes size (drop len bytes)

-- each answer on a chunk's line: its length and the chunk's size, that more has to come, or that it is none
abbrev pub LineAnswers : List ℕ → Result (Option (ℕ × ℕ)) HttpFault → Type 0
LineAnswers bytes (Ok (Some x)) = IsLineAt bytes x.0 x.1
LineAnswers bytes (Ok None) = (length bytes < max_line) × HasNoChunkLine bytes
LineAnswers bytes (Err BadHead) = NoLine bytes
LineAnswers bytes (Err HeadTooLarge) = ⊥
LineAnswers bytes (Err BodyTooLarge) = ⊥

-- no trailers begin here, whatever more comes
abbrev pub NoTrailers : List ℕ → Type 0
NoTrailers bytes = (others rest : List ℕ) → ReadsTrailers (bytes ++ others) rest → ⊥

-- the first len bytes are trailers
pub record AreTrailersAt (bytes : List ℕ) (len : ℕ) : Type 0 where
  pub within : len ≤ length bytes
  pub reads : ReadsTrailers bytes (drop len bytes)

-- each answer on trailers: their length, that more has to come, or that they are none
abbrev pub TrailersAnswer : List ℕ → Result (Option ℕ) HttpFault → Type 0
TrailersAnswer bytes (Ok (Some len)) = AreTrailersAt bytes len
TrailersAnswer bytes (Ok None) = (length bytes < max_trailers) × HasNoSection bytes
TrailersAnswer bytes (Err BadHead) = NoTrailers bytes
TrailersAnswer bytes (Err HeadTooLarge) = ⊥
TrailersAnswer bytes (Err BodyTooLarge) = ⊥

-- ---- what stands behind the bytes read so far

-- a head of a request that isn't refused, with a body of so many bytes or a chunked one behind it
abbrev pub JudgesHead : List ℕ → List HeaderSpan → Result Judged HttpFault → Type 0
JudgesHead bytes spans (Ok HeadWaits) = WaitsForHead bytes
JudgesHead bytes spans (Ok (SizedBody r size)) = IsHeadAt bytes spans r × (framing (head_at (take r.len bytes) spans r) ≡ Sized size) × (size ≤ max_body)
JudgesHead bytes spans (Ok (ChunkedBody r)) = IsHeadAt bytes spans r × (framing (head_at (take r.len bytes) spans r) ≡ Chunked)
JudgesHead bytes spans (Err fault) = Refuses fault (whole bytes)

-- what stands where a chunk's line is to come, behind so many bytes of the body
abbrev pub JudgesLine : ℕ → List ℕ → Result LineJudged HttpFault → Type 0
JudgesLine have bytes (Ok LineWaits) = (length bytes < max_line) × HasNoChunkLine bytes
JudgesLine have bytes (Ok (LastLine len)) = IsLineAt bytes len 0
JudgesLine have bytes (Ok (ChunkLine len size)) = IsLineAt bytes len size × (0 < size) × (have + size ≤ max_body)
JudgesLine have bytes (Err BadHead) = NoLine bytes
JudgesLine have bytes (Err HeadTooLarge) = ⊥
JudgesLine have bytes (Err BodyTooLarge) = (size : ℕ) × (after : List ℕ) × ReadsLine bytes size after × (0 < size) × (max_body < have + size)

-- the spans of the head that the text is, with a body that goes so
abbrev pub Rereads : List ℕ → Framing → List HeaderSpan → Option RequestSpans → Type 0
Rereads text f spans (Some r) = IsRequestWithin text spans r × IsHeadText text (head_at text spans r) f
Rereads text f spans None = (head : Head) → IsHeadText text head f → ⊥

-- whether the end of a chunk stands here
abbrev pub EndAnswers : List ℕ → Result Bool HttpFault → Type 0
EndAnswers bytes (Ok true) = (2 ≤ length bytes) × (bytes ≡ crlf_bytes ++ drop 2 bytes)
EndAnswers bytes (Ok false) = (bytes ≡ []) ⊎ (bytes ≡ carriage_return ∷ [])
EndAnswers bytes (Err BadHead) = (others next : List ℕ) → bytes ++ others ≡ crlf_bytes ++ next → ⊥
EndAnswers bytes (Err HeadTooLarge) = ⊥
EndAnswers bytes (Err BodyTooLarge) = ⊥
