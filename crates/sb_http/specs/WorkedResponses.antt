-- Whole responses that were worked out by hand.
use Rattle.std.specs.Prelude.{ℕ, List, [], ◌∷◌, ◌++◌, codes}
use Rattle.sb_http.specs.Worked.{text_of}
use Rattle.sb_http.specs.WholeResponses.{WholeMessage, IsWhole}

-- a reply line of 14 bytes
unfoldable pub reply_text : List ℕ
reply_text = text_of (codes "HTTP/1.1 200 OK" ∷ codes "content-length:  14 " ∷ codes "Connection: close" ∷ [] ∷ []) ++ codes "{\"ok\":\"done\"}\n"

-- a reply
abbrev pub reply : WholeMessage
reply = record { minor = 1; code = 200; fields = (codes "content-length", codes "14") ∷ (codes "Connection", codes "close") ∷ []; body = codes "{\"ok\":\"done\"}\n" }

-- no body and no length
unfoldable pub nothing_text : List ℕ
nothing_text = text_of (codes "HTTP/1.0 204 No Content" ∷ [] ∷ [])

-- a response without a body
abbrev pub nothing : WholeMessage
nothing = record { minor = 0; code = 204; fields = []; body = [] }

-- one byte behind the body
unfoldable pub behind_text : List ℕ
behind_text = text_of (codes "HTTP/1.1 200 OK" ∷ codes "Content-Length: 2" ∷ [] ∷ []) ++ codes "hi!"

-- a body without a length
unfoldable pub unsized_text : List ℕ
unsized_text = text_of (codes "HTTP/1.1 200 OK" ∷ [] ∷ []) ++ codes "hi"

-- a body in chunks
unfoldable pub chunked_text : List ℕ
chunked_text = text_of (codes "HTTP/1.1 200 OK" ∷ codes "Transfer-Encoding: chunked" ∷ [] ∷ codes "2" ∷ codes "hi" ∷ codes "0" ∷ [] ∷ [])

-- what the definitions say of them
pub record WorkedResponses : Type 0 where
  pub a_reply : IsWhole reply_text reply
  pub a_204 : IsWhole nothing_text nothing
  pub behind : (m : WholeMessage) → IsWhole behind_text m → ⊥
  pub unsized : (m : WholeMessage) → IsWhole unsized_text m → ⊥
  pub in_chunks : (m : WholeMessage) → IsWhole chunked_text m → ⊥
