-- Streams and responses that were worked out by hand.
use Rattle.std.specs.Prelude.{◌≡◌, ℕ, true, false, List, [], ◌∷◌, ◌++◌, codes}
use Rattle.std.specs.List.{flat_map}
use Rattle.httparse.specs.Ascii.{crlf_bytes}
use Rattle.sb_http.specs.declared.fault.HttpFault.TheVariants.{BadHead, BodyTooLarge}
use Rattle.sb_http.specs.declared.response.Status.TheVariants.{Created, NoContent, BadRequest}
use Rattle.sb_http.specs.Messages.{RequestMessage}
use Rattle.sb_http.specs.Stages.{whole}
use Rattle.sb_http.specs.Causes.{Refuses}
use Rattle.sb_http.specs.Streams.{Requests}
use Rattle.sb_http.specs.Responses.{ResponseMessage, response_bytes}

-- lines that end with CR LF
abbrev pub text_of : List (List ℕ) → List ℕ
text_of lines = flat_map (λ line. line ++ crlf_bytes) lines

-- a send, with its length
unfoldable pub send_text : List ℕ
send_text = text_of (codes "POST /Q/messages HTTP/1.1" ∷ codes "Host: h" ∷ codes "Content-Length: 2" ∷ [] ∷ []) ++ codes "hi"

-- a send
abbrev pub send : RequestMessage
send = record {
  head = record { method = codes "POST"; target = codes "/Q/messages"; minor = 1; fields = (codes "Host", codes "h") ∷ (codes "Content-Length", codes "2") ∷ [] };
  body = codes "hi";
}

-- a receive, with no body
unfoldable pub receive_text : List ℕ
receive_text = text_of (codes "POST /q/messages/head?timeout=0 HTTP/1.1" ∷ codes "Host: h" ∷ [] ∷ [])

-- a receive
abbrev pub receive : RequestMessage
receive = record { head = record { method = codes "POST"; target = codes "/q/messages/head?timeout=0"; minor = 1; fields = (codes "Host", codes "h") ∷ [] }; body = [] }

-- a send in one chunk, with an extension and a trailer
unfoldable pub chunks_text : List ℕ
chunks_text = text_of (codes "POST /q/messages HTTP/1.1" ∷ codes "Host:h" ∷ codes "Transfer-Encoding: Chunked" ∷ [] ∷ codes "2;x=1" ∷ codes "hi" ∷ codes "0" ∷ codes "Host: g" ∷ [] ∷ [])

-- a send whose body comes in chunks
abbrev pub in_chunks : RequestMessage
in_chunks = record {
  head = record { method = codes "POST"; target = codes "/q/messages"; minor = 1; fields = (codes "Host", codes "h") ∷ (codes "Transfer-Encoding", codes "Chunked") ∷ [] };
  body = codes "hi";
}

-- two lengths that differ
unfoldable pub two_lengths_text : List ℕ
two_lengths_text = text_of (codes "POST /q HTTP/1.0" ∷ codes "Content-Length: 2" ∷ codes "Content-Length: 3" ∷ [] ∷ [])

-- a length beside chunks
unfoldable pub both_text : List ℕ
both_text = text_of (codes "POST /q HTTP/1.1" ∷ codes "Host: h" ∷ codes "Content-Length: 2" ∷ codes "Transfer-Encoding: chunked" ∷ [] ∷ [])

-- one byte more than a body may have
unfoldable pub too_long_text : List ℕ
too_long_text = text_of (codes "POST /q HTTP/1.0" ∷ codes "Content-Length: 1048577" ∷ [] ∷ [])

-- a response with a body
abbrev pub created : ResponseMessage
created = record { status = Created; fields = (codes "Location", codes "/q") ∷ []; body = codes "hi"; ends = false }

-- a response without one
abbrev pub nothing_there : ResponseMessage
nothing_there = record { status = NoContent; fields = []; body = []; ends = false }

-- the last response of a connection
abbrev pub bad_request : ResponseMessage
bad_request = record { status = BadRequest; fields = []; body = []; ends = true }

-- what the definitions say of them
pub record Worked : Type 0 where
  pub two_requests : Requests (send_text ++ receive_text) (send ∷ receive ∷ []) (whole [])
  pub a_part_behind : Requests (send_text ++ codes "GET") (send ∷ []) (whole (codes "GET"))
  pub chunks : Requests chunks_text (in_chunks ∷ []) (whole [])
  pub two_lengths : Refuses BadHead (whole two_lengths_text)
  pub length_and_chunks : Refuses BadHead (whole both_text)
  pub too_long : Refuses BodyTooLarge (whole too_long_text)
  pub created_bytes : response_bytes created ≡ text_of (codes "HTTP/1.1 201 Created" ∷ codes "Location: /q" ∷ codes "Content-Length: 2" ∷ [] ∷ []) ++ codes "hi"
  pub nothing_bytes : response_bytes nothing_there ≡ text_of (codes "HTTP/1.1 204 No Content" ∷ [] ∷ [])
  pub bad_bytes : response_bytes bad_request ≡ text_of (codes "HTTP/1.1 400 Bad Request" ∷ codes "Content-Length: 0" ∷ codes "Connection: close" ∷ [] ∷ [])
