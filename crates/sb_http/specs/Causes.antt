-- Why what is left is no request yet, and why it is refused.
use Rattle.std.specs.Prelude.{◌≡◌, ℕ, ◌+◌, ◌<◌, ◌⊎◌, List, [], ◌∷◌, ◌++◌, length, take, Option, Some, None}
use Rattle.httparse.specs.Ascii.{carriage_return}
use Rattle.httparse.specs.Grammar.{NeverHasRequest, HasNoChunkLine, HasNoSection}
use Rattle.sb_http.specs.declared.fields.Framing.TheVariants.{Refused, Sized}
use Rattle.sb_http.specs.declared.fault.HttpFault.{HttpFault}
use Rattle.sb_http.specs.declared.fault.HttpFault.TheVariants.{BadHead, HeadTooLarge, BodyTooLarge}
use Rattle.sb_http.specs.Heads.{Head, ReadsHead, framing, max_head, WaitsForHead, PassesHead}
use Rattle.sb_http.specs.Bodies.{ReadsLine, max_body, max_line, max_trailers}
use Rattle.sb_http.specs.Messages.{RequestMessage}
use Rattle.sb_http.specs.Stages.{Stage, at_head, at_body, at_line, at_data, at_trailers, Left, and_more, Reads}

-- no whole request is there
abbrev pub HasNone : Left → Type 0
HasNone left = (m : RequestMessage) (rest : List ℕ) → Reads left m rest → ⊥

-- whatever more comes, no request begins here
abbrev pub NeverReads : Left → Type 0
NeverReads left = (more : List ℕ) → HasNone (and_more left more)

-- What is next isn't whole, and isn't over its limit: a head; the body of its size; the line of a
-- chunk; a byte of a chunk, or its end; trailers.
abbrev pub WaitsAt : Stage → List ℕ → Type 0
WaitsAt at_head bytes = WaitsForHead bytes
WaitsAt (at_body text n) bytes = length bytes < n
WaitsAt (at_line text done) bytes = (length bytes < max_line) × HasNoChunkLine bytes
WaitsAt (at_data text done n) bytes = (bytes ≡ []) ⊎ ((n ≡ 0) × (bytes ≡ carriage_return ∷ []))
WaitsAt (at_trailers text done) bytes = (length bytes < max_trailers) × HasNoSection bytes

-- nothing stands here that is whole, or that is refused
abbrev pub Waits : Left → Type 0
Waits left = WaitsAt left.stage left.bytes

-- the length that a sound head states, or the body so far and the chunk whose line stands here, are
-- more than a body may have
abbrev pub PassesBody : Stage → List ℕ → Type 0
PassesBody at_head bytes = (head : Head) × (after : List ℕ) × (size : ℕ) × ReadsHead bytes head after × (framing head ≡ Sized size) × (max_body < size)
PassesBody (at_body text n) bytes = ⊥
PassesBody (at_line text done) bytes = (size : ℕ) × (after : List ℕ) × ReadsLine bytes size after × (max_body < length done + size)
PassesBody (at_data text done n) bytes = ⊥
PassesBody (at_trailers text done) bytes = ⊥

-- the head that is next passes its limits
abbrev pub PassesHeadAt : Stage → List ℕ → Type 0
PassesHeadAt at_head bytes = PassesHead bytes
PassesHeadAt (at_body text n) bytes = ⊥
PassesHeadAt (at_line text done) bytes = ⊥
PassesHeadAt (at_data text done n) bytes = ⊥
PassesHeadAt (at_trailers text done) bytes = ⊥

-- What is next is bad, and not only too large: the first bytes that a head may have never become one,
-- whatever its limits, or it is a head whose framing is refused. Chunk lines and trailers are bad also
-- where they are too long.
abbrev pub IsBadAt : Stage → List ℕ → Type 0
IsBadAt at_head bytes = NeverHasRequest (take max_head bytes) ⊎ ((head : Head) × (after : List ℕ) × ReadsHead bytes head after × (framing head ≡ Refused))
IsBadAt (at_body text n) bytes = Unit {0}
IsBadAt (at_line text done) bytes = Unit {0}
IsBadAt (at_data text done n) bytes = Unit {0}
IsBadAt (at_trailers text done) bytes = Unit {0}

-- What the fault says beside that no request begins here. What is only too large is never called bad,
-- whatever more comes.
abbrev pub HasCause : HttpFault → Left → Type 0
HasCause BadHead left = IsBadAt left.stage left.bytes × ((more : List ℕ) → PassesBody left.stage (left.bytes ++ more) → ⊥)
HasCause HeadTooLarge left = PassesHeadAt left.stage left.bytes
HasCause BodyTooLarge left = PassesBody left.stage left.bytes

-- what is left is refused by this fault
pub record Refuses (fault : HttpFault) (left : Left) : Type 0 where
  pub never : NeverReads left
  pub cause : HasCause fault left

-- a fault that is kept has its cause
abbrev pub IsCaused : Option HttpFault → Left → Type 0
IsCaused None left = Unit {0}
IsCaused (Some fault) left = Refuses fault left
