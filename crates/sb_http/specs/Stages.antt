-- What is left of a stream, where a part of the next request may have been read already.
use Rattle.std.specs.Prelude.{◌≡◌, ℕ, ◌+◌, List, [], ◌++◌, length}
use Rattle.httparse.specs.Ascii.{crlf_bytes}
use Rattle.sb_http.specs.declared.fields.Framing.{Framing}
use Rattle.sb_http.specs.declared.fields.Framing.TheVariants.{Sized, Chunked}
use Rattle.sb_http.specs.Heads.{Head, ReadsHead, framing}
use Rattle.sb_http.specs.Bodies.{Chunks, ReadsTrailers, ReadsSized}
use Rattle.sb_http.specs.Messages.{RequestMessage, ReadsMessage}

-- What was read of the request under way: nothing; or the text of its head, and next come a body of
-- so many bytes; or also the body so far, and next comes the line of a chunk, or so many bytes of a
-- chunk and its end, or the trailers.
pub data Stage : Type 0 where
  at_head : Stage
  at_body : List ℕ → ℕ → Stage
  at_line : List ℕ → List ℕ → Stage
  at_data : List ℕ → List ℕ → ℕ → Stage
  at_trailers : List ℕ → List ℕ → Stage

-- what was read, and the bytes behind that
pub record Left : Type 0 where
  pub stage : Stage
  pub bytes : List ℕ

-- nothing was read yet
abbrev pub whole : List ℕ → Left
whole bytes = record { stage = at_head; bytes = bytes }

-- how many bytes were read
abbrev pub held_at : Stage → ℕ
held_at at_head = 0
held_at (at_body text n) = length text
held_at (at_line text done) = length text + length done
held_at (at_data text done n) = length text + length done
held_at (at_trailers text done) = length text + length done

-- how many bytes are left; of chunks that were read, the bytes of the body alone
abbrev pub held : Left → ℕ
held left = held_at left.stage + length left.bytes

-- more bytes have come
abbrev pub and_more : Left → List ℕ → Left
and_more left more = record { stage = left.stage; bytes = left.bytes ++ more }

-- the text is a head that says this, and the body behind it goes so
pub record IsHeadText (text : List ℕ) (head : Head) (f : Framing) : Type 0 where
  pub reads : ReadsHead text head []
  pub framed : framing head ≡ f

-- behind done bytes of a body, and within a chunk of which n bytes are to come, the bytes begin with
-- the rest of the body
pub record InChunk (done n : ℕ) (bytes body rest : List ℕ) : Type 0 where
  pub part : List ℕ
  pub next : List ℕ
  pub others : List ℕ
  pub size_is : length part ≡ n
  pub bytes_are : bytes ≡ part ++ crlf_bytes ++ next
  pub body_is : body ≡ part ++ others
  pub chunks : Chunks (done + n) next others rest

-- the request has this chunked head, and its body begins with done; of the rest of the body P holds
pub record Behind (text done : List ℕ) (m : RequestMessage) (P : List ℕ → Type 0) : Type 0 where
  pub head : IsHeadText text m.head Chunked
  pub body : List ℕ
  pub body_is : m.body ≡ done ++ body
  pub rest : P body

-- behind what was read, the bytes go on with this request, and rest follows it
abbrev pub ReadsAt : Stage → List ℕ → RequestMessage → List ℕ → Type 0
ReadsAt at_head bytes m rest = ReadsMessage bytes m rest
ReadsAt (at_body text n) bytes m rest = IsHeadText text m.head (Sized n) × ReadsSized n bytes m.body rest
ReadsAt (at_line text done) bytes m rest = Behind text done m (λ body. Chunks (length done) bytes body rest)
ReadsAt (at_data text done n) bytes m rest = Behind text done m (λ body. InChunk (length done) n bytes body rest)
ReadsAt (at_trailers text done) bytes m rest = Behind text done m (λ body. (body ≡ []) × ReadsTrailers bytes rest)

-- what is left begins with this request, and rest follows it
abbrev pub Reads : Left → RequestMessage → List ℕ → Type 0
Reads left m rest = ReadsAt left.stage left.bytes m rest

-- More was read of the request under way, or nothing: whatever more comes, both begin with the same
-- requests; and where nothing of a request was read, the bytes are untouched.
pub record Continues (old new : Left) : Type 0 where
  pub here : (more : List ℕ) (m : RequestMessage) (rest : List ℕ) → Reads (and_more new more) m rest → Reads (and_more old more) m rest
  pub there : (more : List ℕ) (m : RequestMessage) (rest : List ℕ) → Reads (and_more old more) m rest → Reads (and_more new more) m rest
  pub unread : new.stage ≡ at_head → new ≡ old
