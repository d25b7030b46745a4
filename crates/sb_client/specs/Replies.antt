-- The reply lines that a server may give, and which of them are refusals.
use Rattle.std.specs.Prelude.{◌≡◌, ℕ, List, [], ◌∷◌, ◌++◌, Bool, true, false, codes, Some, is_some}
use Rattle.std.specs.Str.{IsUtf8}
use Rattle.json.specs.Lex.{tokens}
use Rattle.json.specs.Print.{print}
use Rattle.serde_json.specs.Data.{Data}
use Rattle.serde_json.specs.Read.{read}
use Rattle.serde_json.specs.Find.{get, as_object}
use Rattle.serde_json.specs.Written.{has_float, compact_text, IsInOrder}
use Rattle.sb_http.specs.WholeResponses.{WholeMessage, IsWhole}

-- The line is the compact text of an object, and a line feed. No reply has a float.
pub record IsReplyLine (line : List ℕ) (d : Data) : Type 0 where
  pub is : line ≡ compact_text d ++ 10 ∷ []
  pub utf8 : IsUtf8 (compact_text d)
  pub reads : read (compact_text d) ≡ Some d
  pub object : is_some (as_object d) ≡ true
  pub no_float : has_float d ≡ false

-- What is taken as a reply line: the compact text of an object, its keys in byte order and each once, its
-- integers in decimal, and a line feed. Without floats it is a reply line.
pub record MayBeReply (line : List ℕ) (d : Data) : Type 0 where
  pub text : List ℕ
  pub is : line ≡ text ++ 10 ∷ []
  pub reads : read text ≡ Some d
  pub object : is_some (as_object d) ≡ true
  pub compact : text ≡ print (tokens text)
  pub order : IsInOrder text d
  pub plain : has_float d ≡ false → text ≡ compact_text d

-- ---- refusals

-- The reply is a refusal, whatever its name: the server failed, too, where it says `DiskFault`, and a newer one may
-- have names that nobody knows here.
unfoldable pub refuses : Data → Bool
refuses d = is_some (get (codes "refused") d)

-- the line of the refusal that a line is too long
unfoldable pub long_line : List ℕ
long_line = codes "{\"key\":\"line\",\"refused\":\"BadCall\"}\n"

-- ---- in a response

-- these bytes are a response 200 with this line, which says this
pub record TakesLine (bytes line : List ℕ) (d : Data) : Type 0 where
  pub response : WholeMessage
  pub is : IsWhole bytes response
  pub fine : response.code ≡ 200
  pub body : response.body ≡ line
  pub reply : MayBeReply line d

-- these bytes are no response 200 with a reply line
abbrev pub HasNoLine : List ℕ → Type 0
HasNoLine bytes = (response : WholeMessage) (d : Data) → IsWhole bytes response → response.code ≡ 200 → IsReplyLine response.body d → ⊥
