-- Reading on: each part that is read leaves the requests as they were.
use Rattle.std.proofs.Common.{◌≡◌, ℕ, ◌+◌, ◌≤◌, ◌<◌, ◌⊎◌, inl, inr, List, [], ◌∷◌, ◌++◌, length, take, drop, refl, sym, ap, subst, ◌∙◌, arith, append_assoc, length-append, add-zero}
use Rattle.std.proofs.lemmas.List.{append-nil, append_cancel_left, take_at, take-append-le, take-append-drop, length-take-le, length-drop}
use Rattle.httparse.specs.Ascii.{crlf_bytes}
use Rattle.sb_http.specs.declared.fields.Framing.{Framing}
use Rattle.sb_http.specs.declared.fields.Framing.TheVariants.{Sized, Chunked}
use Rattle.sb_http.specs.Heads.{Head, ReadsHead, framing}
use Rattle.sb_http.specs.Bodies.{Chunks, last_chunk, one_chunk, ReadsLine, ReadsTrailers, ReadsSized, ReadsBody, max_body}
use Rattle.sb_http.specs.Messages.{RequestMessage, ReadsMessage}
use Rattle.sb_http.specs.Stages.{Stage, at_body, at_line, at_data, at_trailers, Left, whole, and_more, IsHeadText, InChunk, Behind, Reads, Continues}
use Rattle.sb_http.proofs.Items.{head_unique, head_more, head_prefix, line_more, line_prefix}

abbrev pub at : Stage → List ℕ → Left
at stage bytes = record { stage = stage; bytes = bytes }

-- ---- chunks, one step unrolled

pub record LastChunk (bytes body rest : List ℕ) : Type 0 where
  pub after : List ℕ
  pub line : ReadsLine bytes 0 after
  pub trailers : ReadsTrailers after rest
  pub body_is : body ≡ []

pub record NextChunk (done : ℕ) (bytes body rest : List ℕ) : Type 0 where
  pub size : ℕ
  pub after : List ℕ
  pub line : ReadsLine bytes size after
  pub some : 0 < size
  pub fits : done + size ≤ max_body
  pub chunk : InChunk done size after body rest

pub unrolled : {done : ℕ} {bytes body rest : List ℕ} → Chunks done bytes body rest → LastChunk bytes body rest ⊎ NextChunk done bytes body rest
unrolled (last_chunk line trailers) = inl (record { after = _; line = line; trailers = trailers; body_is = refl })
unrolled (one_chunk part next line some size_is fits chunks) =
    inr (record { size = _; after = _; line = line; some = some; fits = fits; chunk = record { part = part; next = next; others = _; size_is = size_is; bytes_are = refl; body_is = refl; chunks = chunks } })

pub rolled_last : (done : ℕ) (bytes body rest : List ℕ) → LastChunk bytes body rest → Chunks done bytes body rest
rolled_last done bytes body rest x = subst (λ (b : List ℕ). Chunks done bytes b rest) (sym x.body_is) (last_chunk x.line x.trailers)

pub rolled_next : (done : ℕ) (bytes body rest : List ℕ) → NextChunk done bytes body rest → Chunks done bytes body rest
rolled_next done bytes body rest x =
    let line : ReadsLine bytes x.size (x.chunk.part ++ crlf_bytes ++ x.chunk.next) = subst (λ (a : List ℕ). ReadsLine bytes x.size a) x.chunk.bytes_are x.line in
    subst (λ (b : List ℕ). Chunks done bytes b rest) (sym x.chunk.body_is) (one_chunk x.chunk.part x.chunk.next line x.some x.chunk.size_is x.fits x.chunk.chunks)

-- ---- what continues

pub same_left : (left : Left) → Continues left left
same_left left = record { here = λ more m rest x. x; there = λ more m rest x. x; unread = λ _. refl }

pub further : (a b c : Left) → Continues a b → Continues b c → Continues a c
further a b c x y = record {
  here = λ more m rest r. x.here more m rest (y.here more m rest r);
  there = λ more m rest r. y.there more m rest (x.there more m rest r);
  unread = λ e. let same = y.unread e in same ∙ x.unread (sym (ap (λ (l : Left). l.stage) same) ∙ e);
}

-- two readings of one head's text
same_head : (text : List ℕ) (head : Head) (f : Framing) (m : RequestMessage) → ReadsHead text head [] → IsHeadText text m.head f → m.head ≡ head
same_head text head f m x y = (head_unique text m.head head [] [] y.reads x).0

-- a head was read whose body is so many bytes
pub sized_read : (bytes text : List ℕ) (head : Head) (after : List ℕ) (size : ℕ) → ReadsHead bytes head after → ReadsHead text head [] → framing head ≡ Sized size
    → Continues (whole bytes) (at (at_body text size) after)
sized_read bytes text head after size x t sized = record { here = here; there = there; unread = λ e. absurd cc } where
  here : (more : List ℕ) (m : RequestMessage) (rest : List ℕ) → IsHeadText text m.head (Sized size) × ReadsSized size (after ++ more) m.body rest → ReadsMessage (bytes ++ more) m rest
  here more m rest r =
      let same = same_head text head (Sized size) m t r.0 in
      record {
        after = after ++ more;
        head = subst (λ (h : Head). ReadsHead (bytes ++ more) h (after ++ more)) (sym same) (head_more bytes head after more x);
        body = subst (λ (f : Framing). ReadsBody f (after ++ more) m.body rest) (sym r.0.framed) r.1;
      }

  there : (more : List ℕ) (m : RequestMessage) (rest : List ℕ) → ReadsMessage (bytes ++ more) m rest → IsHeadText text m.head (Sized size) × ReadsSized size (after ++ more) m.body rest
  there more m rest r =
      let same = head_prefix bytes more head m.head after r.after x r.head in
      let sized_too : framing m.head ≡ Sized size = sym (ap framing same.0) ∙ sized in
      let body : ReadsSized size r.after m.body rest = subst (λ (f : Framing). ReadsBody f r.after m.body rest) sized_too r.body in (
        record { reads = subst (λ (h : Head). ReadsHead text h []) same.0 t; framed = sized_too },
        subst (λ (a : List ℕ). ReadsSized size a m.body rest) (sym same.1) body,
      )

-- a head with a chunked body was read
pub head_read : (bytes text : List ℕ) (head : Head) (after : List ℕ) → ReadsHead bytes head after → ReadsHead text head [] → framing head ≡ Chunked
    → Continues (whole bytes) (at (at_line text []) after)
head_read bytes text head after x t chunked = record { here = here; there = there; unread = λ e. absurd cc } where
  here : (more : List ℕ) (m : RequestMessage) (rest : List ℕ) → Behind text [] m (λ body. Chunks 0 (after ++ more) body rest) → ReadsMessage (bytes ++ more) m rest
  here more m rest r =
      let same = same_head text head Chunked m t r.head in
      record {
        after = after ++ more;
        head = subst (λ (h : Head). ReadsHead (bytes ++ more) h (after ++ more)) (sym same) (head_more bytes head after more x);
        body = subst (λ (f : Framing). ReadsBody f (after ++ more) m.body rest) (sym r.head.framed) (subst (λ (b : List ℕ). Chunks 0 (after ++ more) b rest) (sym r.body_is) r.rest);
      }

  there : (more : List ℕ) (m : RequestMessage) (rest : List ℕ) → ReadsMessage (bytes ++ more) m rest → Behind text [] m (λ body. Chunks 0 (after ++ more) body rest)
  there more m rest r =
      let same = head_prefix bytes more head m.head after r.after x r.head in
      let chunked_too : framing m.head ≡ Chunked = sym (ap framing same.0) ∙ chunked in
      let body : Chunks 0 r.after m.body rest = subst (λ (f : Framing). ReadsBody f r.after m.body rest) chunked_too r.body in
      record {
        head = record { reads = subst (λ (h : Head). ReadsHead text h []) same.0 t; framed = chunked_too };
        body = m.body;
        body_is = refl;
        rest = subst (λ (a : List ℕ). Chunks 0 a m.body rest) (sym same.1) body;
      }

-- a chunk's line was read
pub line_read : (text done bytes : List ℕ) (size : ℕ) (after : List ℕ) → ReadsLine bytes size after → 0 < size → length done + size ≤ max_body
    → Continues (at (at_line text done) bytes) (at (at_data text done size) after)
line_read text done bytes size after x some fits = record { here = here; there = there; unread = λ e. absurd cc } where
  here : (more : List ℕ) (m : RequestMessage) (rest : List ℕ) → Behind text done m (λ body. InChunk (length done) size (after ++ more) body rest) → Behind text done m (λ body. Chunks (length done) (bytes ++ more) body rest)
  here more m rest r = record {
    head = r.head;
    body = r.body;
    body_is = r.body_is;
    rest = rolled_next (length done) (bytes ++ more) r.body rest (record { size = size; after = after ++ more; line = line_more bytes size after more x; some = some; fits = fits; chunk = r.rest });
  }

  there : (more : List ℕ) (m : RequestMessage) (rest : List ℕ) → Behind text done m (λ body. Chunks (length done) (bytes ++ more) body rest) → Behind text done m (λ body. InChunk (length done) size (after ++ more) body rest)
  there more m rest r = record {
    head = r.head;
    body = r.body;
    body_is = r.body_is;
    rest = chunk (unrolled r.rest);
  } where
    chunk : LastChunk (bytes ++ more) r.body rest ⊎ NextChunk (length done) (bytes ++ more) r.body rest → InChunk (length done) size (after ++ more) r.body rest
    chunk (inl l) = absurd (let e = (line_prefix bytes more size 0 after l.after x l.line).0 in omega (arith, e))
    chunk (inr n) =
        let same = line_prefix bytes more size n.size after n.after x n.line in
        subst (λ (k : ℕ). InChunk (length done) k (after ++ more) r.body rest) (sym same.0) (subst (λ (a : List ℕ). InChunk (length done) n.size a r.body rest) (sym same.1) n.chunk)

-- the line of the last chunk was read
pub last_read : (text done bytes after : List ℕ) → ReadsLine bytes 0 after → Continues (at (at_line text done) bytes) (at (at_trailers text done) after)
last_read text done bytes after x = record { here = here; there = there; unread = λ e. absurd cc } where
  here : (more : List ℕ) (m : RequestMessage) (rest : List ℕ) → Behind text done m (λ body. (body ≡ []) × ReadsTrailers (after ++ more) rest) → Behind text done m (λ body. Chunks (length done) (bytes ++ more) body rest)
  here more m rest r = record {
    head = r.head;
    body = r.body;
    body_is = r.body_is;
    rest = rolled_last (length done) (bytes ++ more) r.body rest (record { after = after ++ more; line = line_more bytes 0 after more x; trailers = r.rest.1; body_is = r.rest.0 });
  }

  there : (more : List ℕ) (m : RequestMessage) (rest : List ℕ) → Behind text done m (λ body. Chunks (length done) (bytes ++ more) body rest) → Behind text done m (λ body. (body ≡ []) × ReadsTrailers (after ++ more) rest)
  there more m rest r = record {
    head = r.head;
    body = r.body;
    body_is = r.body_is;
    rest = trailers (unrolled r.rest);
  } where
    trailers : LastChunk (bytes ++ more) r.body rest ⊎ NextChunk (length done) (bytes ++ more) r.body rest → (r.body ≡ []) × ReadsTrailers (after ++ more) rest
    trailers (inl l) =
        let same = (line_prefix bytes more 0 0 after l.after x l.line).1 in
        (l.body_is, subst (λ (a : List ℕ). ReadsTrailers a rest) (sym same) l.trailers)
    trailers (inr n) = absurd (let e = (line_prefix bytes more 0 n.size after n.after x n.line).0 in omega (arith, e, n.some))

-- ---- within a chunk

regroup : (a b c d : List ℕ) → a ++ (b ++ c ++ d) ≡ (a ++ b) ++ c ++ d
regroup a b c d = simp append_assoc

-- the front of a list that another begins with
front_is : (part bytes ip rest : List ℕ) (n : ℕ) → part ++ bytes ≡ ip ++ rest → length ip ≡ length part + n → ip ≡ part ++ drop (length part) ip
front_is part bytes ip rest n e h =
    let k = length part in
    let left : take k (part ++ bytes) ≡ part = take_at part bytes k refl in
    let right : take k (ip ++ rest) ≡ take k ip = take-append-le k ip rest (omega arith) in
    let front : take k ip ≡ part = sym right ∙ sym (ap (take k) e) ∙ left in
    sym (take-append-drop k ip) ∙ ap (λ (x : List ℕ). x ++ drop k ip) front

-- bytes of a chunk were read
pub data_read : (text done part bytes : List ℕ) (n : ℕ) → Continues (at (at_data text done (length part + n)) (part ++ bytes)) (at (at_data text (done ++ part) n) bytes)
data_read text done part bytes n = record { here = here; there = there; unread = λ e. absurd cc } where
  count : length (done ++ part) + n ≡ length done + (length part + n)
  count = omega (arith, length-append done part)

  here : (others : List ℕ) (m : RequestMessage) (rest : List ℕ) → Behind text (done ++ part) m (λ body. InChunk (length (done ++ part)) n (bytes ++ others) body rest) → Behind text done m (λ body. InChunk (length done) (length part + n) (part ++ bytes ++ others) body rest)
  here others m rest r =
      let i = r.rest in
      record {
        head = r.head;
        body = part ++ r.body;
        body_is = r.body_is ∙ append_assoc done part r.body;
        rest = record {
          part = part ++ i.part;
          next = i.next;
          others = i.others;
          size_is = length-append part i.part ∙ ap (λ (k : ℕ). length part + k) i.size_is;
          bytes_are = append_assoc part bytes others ∙ ap (λ (x : List ℕ). part ++ x) i.bytes_are ∙ regroup part i.part crlf_bytes i.next;
          body_is = ap (λ (x : List ℕ). part ++ x) i.body_is ∙ sym (append_assoc part i.part i.others);
          chunks = subst (λ (k : ℕ). Chunks k i.next i.others rest) count i.chunks;
        };
      }

  there : (others : List ℕ) (m : RequestMessage) (rest : List ℕ) → Behind text done m (λ body. InChunk (length done) (length part + n) (part ++ bytes ++ others) body rest) → Behind text (done ++ part) m (λ body. InChunk (length (done ++ part)) n (bytes ++ others) body rest)
  there others m rest r =
      let i = r.rest in
      let later = drop (length part) i.part in
      let whole_is : part ++ (bytes ++ others) ≡ i.part ++ (crlf_bytes ++ i.next) = sym (append_assoc part bytes others) ∙ i.bytes_are ∙ append_assoc i.part crlf_bytes i.next in
      let front : i.part ≡ part ++ later = front_is part (bytes ++ others) i.part (crlf_bytes ++ i.next) n whole_is i.size_is in
      record {
        head = r.head;
        body = later ++ i.others;
        body_is = r.body_is ∙ ap (λ (x : List ℕ). done ++ x) (i.body_is ∙ ap (λ (x : List ℕ). x ++ i.others) front ∙ append_assoc part later i.others) ∙ sym (append_assoc done part (later ++ i.others));
        rest = record {
          part = later;
          next = i.next;
          others = i.others;
          size_is = omega (arith, length-drop (length part) i.part, i.size_is);
          bytes_are = append_cancel_left part (bytes ++ others) (later ++ crlf_bytes ++ i.next) (whole_is ∙ ap (λ (x : List ℕ). x ++ (crlf_bytes ++ i.next)) front ∙ append_assoc part later (crlf_bytes ++ i.next) ∙ ap (λ (x : List ℕ). part ++ x) (sym (append_assoc later crlf_bytes i.next)));
          body_is = refl;
          chunks = subst (λ (k : ℕ). Chunks k i.next i.others rest) (sym count) i.chunks;
        };
      }

empty_part : (part : List ℕ) → length part ≡ 0 → part ≡ []
empty_part [] e = refl
empty_part (x ∷ part) e = absurd cc

-- the end of a chunk was read
pub data_ended : (text done bytes : List ℕ) → Continues (at (at_data text done 0) (crlf_bytes ++ bytes)) (at (at_line text done) bytes)
data_ended text done bytes = record { here = here; there = there; unread = λ e. absurd cc } where
  here : (others : List ℕ) (m : RequestMessage) (rest : List ℕ) → Behind text done m (λ body. Chunks (length done) (bytes ++ others) body rest) → Behind text done m (λ body. InChunk (length done) 0 (crlf_bytes ++ bytes ++ others) body rest)
  here others m rest r = record {
    head = r.head;
    body = r.body;
    body_is = r.body_is;
    rest = record { part = []; next = bytes ++ others; others = r.body; size_is = refl; bytes_are = refl; body_is = refl; chunks = rw add-zero r.rest };
  }

  there : (others : List ℕ) (m : RequestMessage) (rest : List ℕ) → Behind text done m (λ body. InChunk (length done) 0 (crlf_bytes ++ bytes ++ others) body rest) → Behind text done m (λ body. Chunks (length done) (bytes ++ others) body rest)
  there others m rest r =
      let i = r.rest in
      let none = empty_part i.part i.size_is in
      let next_is : i.next ≡ bytes ++ others = sym (append_cancel_left crlf_bytes (bytes ++ others) i.next (i.bytes_are ∙ ap (λ (x : List ℕ). x ++ crlf_bytes ++ i.next) none)) in
      let body_is : i.others ≡ r.body = sym (i.body_is ∙ ap (λ (x : List ℕ). x ++ i.others) none) in
      record {
        head = r.head;
        body = r.body;
        body_is = r.body_is;
        rest = subst (λ (b : List ℕ). Chunks (length done) (bytes ++ others) b rest) body_is (subst (λ (x : List ℕ). Chunks (length done) x i.others rest) next_is (rw add-zero at i.chunks));
      }

-- ---- whole requests

pub whole_sized : (bytes : List ℕ) (head : Head) (after : List ℕ) (size : ℕ) → ReadsHead bytes head after → framing head ≡ Sized size → size ≤ max_body → size ≤ length after
    → ReadsMessage bytes (record { head = head; body = take size after }) (drop size after)
whole_sized bytes head after size x sized fits there = record {
  after = after;
  head = x;
  body = subst (λ (f : Framing). ReadsBody f after (take size after) (drop size after)) (sym sized) (record { whole = sym (take-append-drop size after); size_is = length-take-le size after there; fits = fits });
}

-- the same, where the head was read before
pub whole_body : (text bytes : List ℕ) (head : Head) (n : ℕ) → IsHeadText text head (Sized n) → n ≤ max_body → n ≤ length bytes
    → Reads (at (at_body text n) bytes) (record { head = head; body = take n bytes }) (drop n bytes)
whole_body text bytes head n x fits there = (x, record { whole = sym (take-append-drop n bytes); size_is = length-take-le n bytes there; fits = fits })

pub whole_chunked : (text done bytes : List ℕ) (head : Head) (rest : List ℕ) → IsHeadText text head Chunked → ReadsTrailers bytes rest
    → Reads (at (at_trailers text done) bytes) (record { head = head; body = done }) rest
whole_chunked text done bytes head rest x trailers = record {
  head = x;
  body = [];
  body_is = sym (append-nil done);
  rest = (refl, trailers);
}

-- ---- reading on and then an answer

-- what is left, and nothing more
pub and_none : (left : Left) → and_more left [] ≡ left
and_none left = λ i. record { stage = left.stage; bytes = append-nil left.bytes i }

pub here_now : (old new : Left) (m : RequestMessage) (rest : List ℕ) → Continues old new → Reads new m rest → Reads old m rest
here_now old new m rest c r =
    subst (λ (l : Left). Reads l m rest) (and_none old) (c.here [] m rest (subst (λ (l : Left). Reads l m rest) (sym (and_none new)) r))

pub there_now : (old new : Left) (m : RequestMessage) (rest : List ℕ) → Continues old new → Reads old m rest → Reads new m rest
there_now old new m rest c r =
    subst (λ (l : Left). Reads l m rest) (and_none new) (c.there [] m rest (subst (λ (l : Left). Reads l m rest) (sym (and_none old)) r))

pub as_before : (old mid new : Left) → Continues old mid → new ≡ mid → Continues old new
as_before old mid new c e = subst (λ (l : Left). Continues old l) (sym e) c
