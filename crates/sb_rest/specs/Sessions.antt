-- What a response says of a session that was accepted.
use Rattle.std.specs.Prelude.{ℕ, List, [], ◌∷◌, codes}
use Rattle.serde_json.specs.Data.{string, object, Members, no_members, put}
use Rattle.serde_json.specs.Written.{compact_text}
use Rattle.sb_http.specs.Fields.{Field}
use Rattle.sb_rest.specs.Escapes.{ascii_json}
use Rattle.sb_rest.specs.Shown.{url_text}

-- the session's id, and the moment up to which its lock lives
abbrev pub session_members : List ℕ → List ℕ → Members
session_members id until = put (codes "SessionId") (string id) (put (codes "LockedUntilUtc") (string until) no_members)

-- the value of its BrokerProperties, in ASCII alone
unfoldable pub session_text : List ℕ → List ℕ → List ℕ
session_text id until = ascii_json (compact_text (object (session_members id until)))

-- with its place, where it is renewed and given back, and its messages are received
abbrev pub accepted_fields : List ℕ → List ℕ → List ℕ → List ℕ → List Field
accepted_fields host place id until = (codes "BrokerProperties", session_text id until) ∷ (codes "Location", url_text host place) ∷ []
