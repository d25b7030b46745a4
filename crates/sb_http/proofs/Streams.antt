-- The requests of a stream: how they go on, and that there are no others.
use Rattle.std.proofs.Common.{◌≡◌, ℕ, ◌+◌, ◌<◌, ◌⊎◌, inl, inr, List, [], ◌∷◌, ◌++◌, length, refl, sym, ap, subst, ◌∙◌, arith, append_assoc, Ok, Err, Some, None}
use Rattle.std.specs.Prelude.{Result, Option}
use Rattle.std.proofs.lemmas.List.{append-nil, append_cancel_left}
use Rattle.httparse.specs.Ascii.{crlf_bytes}
use Rattle.sb_http.specs.declared.fault.HttpFault.{HttpFault}
use Rattle.sb_http.specs.declared.fields.Framing.{Framing}
use Rattle.sb_http.specs.declared.fields.Framing.TheVariants.{Refused, Sized, Chunked}
use Rattle.sb_http.specs.Heads.{framing}
use Rattle.sb_http.specs.Bodies.{Chunks, last_chunk, one_chunk, ReadsLine, ReadsTrailers, ReadsBody}
use Rattle.sb_http.specs.Messages.{RequestMessage, ReadsMessage}
use Rattle.sb_http.specs.Stages.{at_head, Left, whole, and_more, Reads, Continues}
use Rattle.sb_http.specs.Streams.{Requests, Answers, AreTheRequests, BeginsWithOne, FeedGoesOn, AnswerGoesOn}
use Rattle.sb_http.proofs.Items.{head_more, head_prefix, line_more, line_prefix, trailers_more, trailers_unique}
use Rattle.sb_http.proofs.ReadingOn.{LastChunk, NextChunk, unrolled, same_left, further, here_now, there_now}

-- ---- more behind a request

chunks_more : {done : ℕ} {bytes body rest : List ℕ} (others : List ℕ) → Chunks done bytes body rest → Chunks done (bytes ++ others) body (rest ++ others)
chunks_more others (last_chunk line trailers) = last_chunk (line_more _ 0 _ others line) (trailers_more _ _ others trailers)
chunks_more {done} {bytes} others (one_chunk {size = size} part next line some size_is fits chunks) =
    one_chunk part (next ++ others) (subst (λ (a : List ℕ). ReadsLine (bytes ++ others) size a) (append_assoc (part ++ crlf_bytes) next others) (line_more bytes size _ others line)) some size_is fits (chunks_more others chunks)

body_more : (f : Framing) (bytes body rest others : List ℕ) → ReadsBody f bytes body rest → ReadsBody f (bytes ++ others) body (rest ++ others)
body_more Refused bytes body rest others x = x
body_more (Sized n) bytes body rest others x = record { whole = ap (λ (b : List ℕ). b ++ others) x.whole ∙ append_assoc body rest others; size_is = x.size_is; fits = x.fits }
body_more Chunked bytes body rest others x = chunks_more others x

pub message_more : (bytes : List ℕ) (m : RequestMessage) (rest others : List ℕ) → ReadsMessage bytes m rest → ReadsMessage (bytes ++ others) m (rest ++ others)
message_more bytes m rest others x = record { after = x.after ++ others; head = head_more bytes m.head x.after others x.head; body = body_more (framing m.head) x.after m.body rest others x.body }

-- ---- one reading

same_length : (a b r q : List ℕ) → a ++ r ≡ b ++ q → length a ≡ length b → (a ≡ b) × (r ≡ q)
same_length [] [] r q e h = (refl, e)
same_length [] (y ∷ b) r q e h = absurd cc
same_length (x ∷ a) [] r q e h = absurd cc
same_length (x ∷ a) (y ∷ b) r q e h =
    let tails : a ++ r ≡ b ++ q = cc in
    let count : length a ≡ length b = omega (arith, h) in
    let more = same_length a b r q tails count in
    let head : x ≡ y = cc in
    (λ i. head i ∷ more.0 i, more.1)

-- the next chunk of both is the same, and what holds of those behind it holds of both
one_unique : (done size : ℕ) (bytes others part next body rest b2 r2 : List ℕ) → ReadsLine bytes size (part ++ crlf_bytes ++ next) → 0 < size → length part ≡ size
    → ((b r : List ℕ) → Chunks (done + size) (next ++ others) b r → (body ≡ b) × (rest ++ others ≡ r))
    → LastChunk (bytes ++ others) b2 r2 ⊎ NextChunk done (bytes ++ others) b2 r2 → (part ++ body ≡ b2) × (rest ++ others ≡ r2)
one_unique done size bytes others part next body rest b2 r2 line some size_is behind (inl l) = absurd (let e = (line_prefix bytes others size 0 (part ++ crlf_bytes ++ next) l.after line l.line).0 in omega (arith, e, some))
one_unique done size bytes others part next body rest b2 r2 line some size_is behind (inr n) =
    let same = line_prefix bytes others size n.size (part ++ crlf_bytes ++ next) n.after line n.line in
    let i = n.chunk in
    let bytes_are : part ++ (crlf_bytes ++ (next ++ others)) ≡ i.part ++ (crlf_bytes ++ i.next) =
    sym (append_assoc part crlf_bytes (next ++ others)) ∙ sym (append_assoc (part ++ crlf_bytes) next others) ∙ same.1 ∙ i.bytes_are ∙ append_assoc i.part crlf_bytes i.next in
    let parts = same_length part i.part (crlf_bytes ++ (next ++ others)) (crlf_bytes ++ i.next) bytes_are (omega (arith, size_is, i.size_is, same.0)) in
    let next_is : next ++ others ≡ i.next = append_cancel_left crlf_bytes (next ++ others) i.next parts.1 in
    let chunks : Chunks (done + size) (next ++ others) i.others r2 = subst (λ (k : ℕ). Chunks (done + k) (next ++ others) i.others r2) (sym same.0) (subst (λ (b : List ℕ). Chunks (done + n.size) b i.others r2) (sym next_is) i.chunks) in
    let later = behind i.others r2 chunks in
    ((λ j. parts.0 j ++ later.0 j) ∙ sym i.body_is, later.1)

chunks_unique : {done : ℕ} {bytes body rest : List ℕ} (others b2 r2 : List ℕ) → Chunks done bytes body rest → Chunks done (bytes ++ others) b2 r2 → (body ≡ b2) × (rest ++ others ≡ r2)
chunks_unique {done} {bytes} others b2 r2 (last_chunk {after = after} {rest = rest} line trailers) y = other (unrolled y) where
  other : LastChunk (bytes ++ others) b2 r2 ⊎ NextChunk done (bytes ++ others) b2 r2 → ([] ≡ b2) × (rest ++ others ≡ r2)
  other (inl l) =
      let same = (line_prefix bytes others 0 0 after l.after line l.line).1 in
      (sym l.body_is, trailers_unique l.after _ r2 (subst (λ (a : List ℕ). ReadsTrailers a (rest ++ others)) same (trailers_more after rest others trailers)) l.trailers)
  other (inr n) = absurd (let e = (line_prefix bytes others 0 n.size after n.after line n.line).0 in omega (arith, e, n.some))
chunks_unique {done} {bytes} others b2 r2 (one_chunk {size = size} {body = body} {rest = rest} part next line some size_is fits chunks) y =
    one_unique done size bytes others part next body rest b2 r2 line some size_is (λ b r x. chunks_unique others b r chunks x) (unrolled y)

body_unique : (f : Framing) (bytes b1 r1 others b2 r2 : List ℕ) → ReadsBody f bytes b1 r1 → ReadsBody f (bytes ++ others) b2 r2 → (b1 ≡ b2) × (r1 ++ others ≡ r2)
body_unique Refused bytes b1 r1 others b2 r2 x y = absurd x
body_unique (Sized n) bytes b1 r1 others b2 r2 x y =
    same_length b1 b2 (r1 ++ others) r2 (sym (append_assoc b1 r1 others) ∙ sym (ap (λ (b : List ℕ). b ++ others) x.whole) ∙ y.whole) (x.size_is ∙ sym y.size_is)
body_unique Chunked bytes b1 r1 others b2 r2 x y = chunks_unique others b2 r2 x y

pub begins_with_one : BeginsWithOne
begins_with_one bytes others m k rest behind x y =
    let head = head_prefix bytes others m.head k.head x.after y.after x.head y.head in
    let later : ReadsBody (framing m.head) (x.after ++ others) k.body behind = subst (λ (f : Framing). ReadsBody f (x.after ++ others) k.body behind) (sym (ap framing head.0)) (subst (λ (a : List ℕ). ReadsBody (framing k.head) a k.body behind) (sym head.1) y.body) in
    let body = body_unique (framing m.head) x.after m.body rest others k.body behind x.body later in
    (λ i. record { head = head.0 i; body = body.0 i }, body.1)

-- ---- the requests of a stream

same_stage : (old new : Left) → new.stage ≡ at_head → old ≡ new → old.stage ≡ at_head
same_stage old new e h = ap (λ (l : Left). l.stage) h ∙ e

pub more_left : (old new : Left) (others : List ℕ) → Continues old new → Continues (and_more old others) (and_more new others)
more_left old new others c = record {
  here = λ more m rest r. subst (λ (b : List ℕ). Reads (record { stage = old.stage; bytes = b }) m rest) (sym (append_assoc old.bytes others more)) (c.here (others ++ more) m rest (subst (λ (b : List ℕ). Reads (record { stage = new.stage; bytes = b }) m rest) (append_assoc new.bytes others more) r));
  there = λ more m rest r. subst (λ (b : List ℕ). Reads (record { stage = new.stage; bytes = b }) m rest) (sym (append_assoc new.bytes others more)) (c.there (others ++ more) m rest (subst (λ (b : List ℕ). Reads (record { stage = old.stage; bytes = b }) m rest) (append_assoc old.bytes others more) r));
  unread = λ e. ap (λ (l : Left). and_more l others) (c.unread e);
}

requests_on : (stream : List ℕ) (ms : List RequestMessage) (a b : Left) → Requests stream ms a → Continues a b → Requests stream ms b
requests_on stream [] a b x c = further (whole stream) a b x c
requests_on stream (m ∷ ms) a b x c = (x.0, x.1, requests_on x.0 ms a b x.2 c)

requests_more : (stream : List ℕ) (ms : List RequestMessage) (a : Left) (others : List ℕ) → Requests stream ms a → Requests (stream ++ others) ms (and_more a others)
requests_more stream [] a others x = more_left (whole stream) a others x
requests_more stream (m ∷ ms) a others x = (x.0 ++ others, message_more stream m x.0 others x.1, requests_more x.0 ms a others x.2)

requests_one : (stream : List ℕ) (ms : List RequestMessage) (a : Left) (m : RequestMessage) (rest : List ℕ) → Requests stream ms a → Reads a m rest → Requests stream (ms ++ m ∷ []) (whole rest)
requests_one stream [] a m rest x r = (rest, here_now (whole stream) a m rest x r, same_left (whole rest))
requests_one stream (k ∷ ms) a m rest x r = (x.0, x.1, requests_one x.0 ms a m rest x.2 r)

-- what is fed
pub feed_goes_on : (old new : Left) (piece : List ℕ) → Continues (and_more old piece) new → FeedGoesOn old piece new
feed_goes_on old new piece c stream ms x = requests_on (stream ++ piece) ms (and_more old piece) new (requests_more stream ms old piece x) c

whole_is : (new : Left) → new.stage ≡ at_head → whole new.bytes ≡ new
whole_is new e = λ i. record { stage = sym e i; bytes = new.bytes }

-- what is answered
pub answer_goes_on : (old : Left) (r : Result (Option RequestMessage) HttpFault) (new : Left) → Answers old r new → AnswerGoesOn old r new
answer_goes_on old (Ok (Some m)) new x stream ms s = subst (λ (l : Left). Requests stream (ms ++ m ∷ []) l) (whole_is new x.1) (requests_one stream ms old m new.bytes s x.0)
answer_goes_on old (Ok None) new x stream ms s = subst (λ (l : List RequestMessage). Requests stream l new) (sym (append-nil ms)) (requests_on stream ms old new s x.0)
answer_goes_on old (Err f) new x stream ms s = subst (λ (l : List RequestMessage). Requests stream l new) (sym (append-nil ms)) (requests_on stream ms old new s x.0)

-- there are no others
pub are_the_requests : AreTheRequests
are_the_requests stream [] [] a b x y p q = refl
are_the_requests stream [] (n ∷ ns) a b x y p q = absurd (p n y.0 (there_now (whole stream) a n y.0 x y.1))
are_the_requests stream (m ∷ ms) [] a b x y p q = absurd (q m x.0 (there_now (whole stream) b m x.0 y x.1))
are_the_requests stream (m ∷ ms) (n ∷ ns) a b x y p q =
    let one = begins_with_one stream [] m n x.0 y.0 x.1 (subst (λ (s : List ℕ). ReadsMessage s n y.0) (sym (append-nil stream)) y.1) in
    let rest : x.0 ≡ y.0 = sym (append-nil x.0) ∙ one.1 in
    let others = are_the_requests y.0 ms ns a b (subst (λ (r : List ℕ). Requests r ms a) rest x.2) y.2 p q in
    λ i. one.0 i ∷ others i
