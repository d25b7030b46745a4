-- A request: a head and a body (RFC 9112, section 2.1).
use Rattle.std.specs.Prelude.{ℕ, List}
use Rattle.sb_http.specs.Heads.{Head, ReadsHead, framing}
use Rattle.sb_http.specs.Bodies.{ReadsBody}

-- what a request says; of a chunked body, what the chunks hold
pub record RequestMessage : Type 0 where
  pub head : Head
  pub body : List ℕ

-- the bytes begin with this request, and rest follows it
pub record ReadsMessage (bytes : List ℕ) (m : RequestMessage) (rest : List ℕ) : Type 0 where
  pub after : List ℕ
  pub head : ReadsHead bytes m.head after
  pub body : ReadsBody (framing m.head) after m.body rest
