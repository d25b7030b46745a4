-- Where no request begins, and where none is whole yet.
use Rattle.std.proofs.Common.{◌≡◌, ℕ, ◌+◌, ◌≤◌, ◌<◌, ◌⊎◌, inl, inr, List, [], ◌∷◌, ◌++◌, length, take, sym, ap, subst, ◌∙◌, arith, length-append}
use Rattle.httparse.specs.Ascii.{crlf_bytes}
use Rattle.httparse.specs.Grammar.{HasNoRequest, HasNoChunkLine, NeverHasChunkLine, HasNoSection}
use Rattle.httparse.specs.Spans.{RequestOverflows, SectionOverflows}
use Rattle.sb_http.specs.declared.fields.Framing.{Framing}
use Rattle.sb_http.specs.declared.fields.Framing.TheVariants.{Refused, Sized, Chunked}
use Rattle.sb_http.specs.Heads.{Head, ReadsHead, framing, max_head, max_fields}
use Rattle.sb_http.specs.Bodies.{ReadsLine, ReadsBody, max_body, max_line, max_trailers, max_trailer_lines}
use Rattle.sb_http.specs.Messages.{RequestMessage}
use Rattle.sb_http.specs.declared.fault.HttpFault.TheVariants.{BadHead}
use Rattle.sb_http.specs.Stages.{Stage, at_head, at_body, at_line, at_data, at_trailers, whole, IsHeadText, ReadsAt}
use Rattle.sb_http.specs.Causes.{NeverReads, WaitsAt, Refuses}
use Rattle.sb_http.specs.Found.{NoHead, NoLine, NoTrailers}
use Rattle.sb_http.proofs.Items.{judged, judged_full, head_prefix, line_prefix}
use Rattle.sb_http.proofs.ReadingOn.{at, LastChunk, NextChunk, unrolled}

-- ---- heads

pub never_head : (bytes : List ℕ) → NoHead bytes → NeverReads (whole bytes)
never_head bytes none others m rest r = none others m.head r.after r.head

pub overflows : (bytes : List ℕ) → RequestOverflows max_fields (take max_head bytes) → NoHead bytes
overflows bytes h others head rest x =
    let j = judged max_head bytes others _ rest x.reads.1 x.short in
    let many : max_fields < length x.tree.fields = h j.0 x.tree j.1 (x.reads.0, j.2) in
    absurd (omega (arith, many, x.few))

pub too_long : (bytes : List ℕ) → max_head ≤ length bytes → HasNoRequest (take max_head bytes) → NoHead bytes
too_long bytes full none others head rest x = none x.tree _ (x.reads.0, judged_full max_head bytes others _ rest full x.reads.1 x.short)

pub refused : (bytes : List ℕ) (head : Head) (after : List ℕ) → ReadsHead bytes head after → framing head ≡ Refused → NeverReads (whole bytes)
refused bytes head after x bad others m rest r =
    let same = head_prefix bytes others head m.head after r.after x r.head in
    subst (λ (f : Framing). ReadsBody f r.after m.body rest) (sym (ap framing same.0) ∙ bad) r.body

pub refuses_head : (bytes : List ℕ) (head : Head) (after : List ℕ) → ReadsHead bytes head after → framing head ≡ Refused → Refuses BadHead (whole bytes)
refuses_head bytes head after x bad = record {
  never = refused bytes head after x bad;
  cause = (
    inr (head, after, x, bad),
    λ more p.
        let same = (head_prefix bytes more head p.0 after p.1 x p.3).0 in
        let clash : Refused ≡ Sized p.2 = sym bad ∙ ap framing same ∙ p.4 in
        absurd cc,
  );
}

-- a length that is too large
pub too_much : (bytes : List ℕ) (head : Head) (after : List ℕ) (size : ℕ) → ReadsHead bytes head after → framing head ≡ Sized size → max_body < size → NeverReads (whole bytes)
too_much bytes head after size x sized large others m rest r =
    let same = head_prefix bytes others head m.head after r.after x r.head in
    let body = subst (λ (f : Framing). ReadsBody f r.after m.body rest) (sym (ap framing same.0) ∙ sized) r.body in
    absurd (omega (arith, large, body.fits))

-- ---- chunk lines

pub never_line : (text done bytes : List ℕ) → NoLine bytes → NeverReads (at (at_line text done) bytes)
never_line text done bytes none others m rest r = line (unrolled r.rest) where
  line : LastChunk (bytes ++ others) r.body rest ⊎ NextChunk (length done) (bytes ++ others) r.body rest → ⊥
  line (inl l) = none others 0 l.after l.line
  line (inr n) = none others n.size n.after n.line

pub bad_line : (bytes : List ℕ) → NeverHasChunkLine (take max_line bytes) → NoLine bytes
bad_line bytes never others size after x =
    let j = judged max_line bytes others _ after x.reads.1 x.short in
    never j.0 x.line j.1 (x.reads.0, j.2)

pub long_line : (bytes : List ℕ) → max_line ≤ length bytes → HasNoChunkLine (take max_line bytes) → NoLine bytes
long_line bytes full never others size after x = never x.line _ (x.reads.0, judged_full max_line bytes others _ after full x.reads.1 x.short)

pub large_chunk : (text done bytes : List ℕ) (size : ℕ) (after : List ℕ) → ReadsLine bytes size after → 0 < size → max_body < length done + size → NeverReads (at (at_line text done) bytes)
large_chunk text done bytes size after x some large others m rest r = chunk (unrolled r.rest) where
  chunk : LastChunk (bytes ++ others) r.body rest ⊎ NextChunk (length done) (bytes ++ others) r.body rest → ⊥
  chunk (inl l) = absurd (let e = (line_prefix bytes others size 0 after l.after x l.line).0 in omega (arith, e, some))
  chunk (inr n) = absurd (let e = (line_prefix bytes others size n.size after n.after x n.line).0 in omega (arith, e, large, n.fits))

-- ---- the end of a chunk

no_part : (part rest bytes : List ℕ) → length part ≡ 0 → bytes ≡ part ++ crlf_bytes ++ rest → bytes ≡ crlf_bytes ++ rest
no_part [] rest bytes e h = h
no_part (x ∷ part) rest bytes e h = absurd cc

pub bad_end : (text done bytes : List ℕ) → ((others next : List ℕ) → bytes ++ others ≡ crlf_bytes ++ next → ⊥) → NeverReads (at (at_data text done 0) bytes)
bad_end text done bytes none others m rest r = none others r.rest.next (no_part r.rest.part r.rest.next (bytes ++ others) r.rest.size_is r.rest.bytes_are)

-- ---- trailers

pub never_trailers : (text done bytes : List ℕ) → NoTrailers bytes → NeverReads (at (at_trailers text done) bytes)
never_trailers text done bytes none others m rest r = none others rest r.rest.1

pub bad_trailers : (bytes : List ℕ) → SectionOverflows max_trailer_lines (take max_trailers bytes) → NoTrailers bytes
bad_trailers bytes h others rest x =
    let j = judged max_trailers bytes others _ rest x.reads.1 x.short in
    let many : max_trailer_lines < length x.fields = h j.0 x.fields x.last j.1 (x.reads.0, j.2) in
    absurd (omega (arith, many, x.few))

pub long_trailers : (bytes : List ℕ) → max_trailers ≤ length bytes → HasNoSection (take max_trailers bytes) → NoTrailers bytes
long_trailers bytes full none others rest x = none x.fields x.last _ (x.reads.0, judged_full max_trailers bytes others _ rest full x.reads.1 x.short)

-- what isn't the text of such a head
pub no_sized : (text bytes : List ℕ) (n : ℕ) → ((head : Head) → IsHeadText text head (Sized n) → ⊥) → Refuses BadHead (at (at_body text n) bytes)
no_sized text bytes n none = record { never = λ others m rest r. none m.head r.0; cause = (tt, λ more p. p) }

pub no_chunked : (text done bytes : List ℕ) → ((head : Head) → IsHeadText text head Chunked → ⊥) → Refuses BadHead (at (at_trailers text done) bytes)
no_chunked text done bytes none = record { never = λ others m rest r. none m.head r.head; cause = (tt, λ more p. p) }

-- ---- none yet

too_short : (part next bytes : List ℕ) → length bytes < 2 → bytes ≡ part ++ crlf_bytes ++ next → ⊥
too_short part next bytes short e = absurd (omega (arith, short, ap length e, length-append (part ++ crlf_bytes) next, length-append part crlf_bytes))

pub none_yet : (stage : Stage) (bytes : List ℕ) → WaitsAt stage bytes → (m : RequestMessage) (rest : List ℕ) → ReadsAt stage bytes m rest → ⊥
none_yet at_head bytes w m rest r = w.none r.head.tree r.after r.head.reads
none_yet (at_body text n) bytes w m rest r = absurd (omega (arith, w, ap length r.1.whole, length-append m.body rest, r.1.size_is))
none_yet (at_line text done) bytes w m rest r = line (unrolled r.rest) where
  line : LastChunk bytes r.body rest ⊎ NextChunk (length done) bytes r.body rest → ⊥
  line (inl l) = w.1 l.line.line l.after l.line.reads
  line (inr n) = w.1 n.line.line n.after n.line.reads
none_yet (at_data text done n) bytes (inl w) m rest r = too_short r.rest.part r.rest.next bytes (omega (arith, ap length w)) r.rest.bytes_are
none_yet (at_data text done n) bytes (inr w) m rest r = too_short r.rest.part r.rest.next bytes (omega (arith, ap length w.1)) r.rest.bytes_are
none_yet (at_trailers text done) bytes w m rest r = w.1 r.rest.1.fields r.rest.1.last rest r.rest.1.reads
