-- What stands in the path of a target (RFC 3986, section 3.3).
use Rattle.std.specs.Prelude.{ℕ, zero, suc, List, [], ◌∷◌, map, Bool, ◌&&◌, ◌==◌, if◌then◌else◌, Option, Some, None}
use Rattle.std.specs.Char.{to_ascii_lowercase}
use Rattle.std.specs.Str.{is_utf8}
use Rattle.form_urlencoded.specs.Form.{split_once}

-- the three bytes are an escaped dollar sign
abbrev pub is_dollar : ℕ → ℕ → ℕ → Bool
is_dollar a b c = a == 37 && b == 50 && c == 52

-- with each escaped dollar sign as a plain one
unfoldable pub undollared : List ℕ → List ℕ
undollared [] = []
undollared (a ∷ []) = a ∷ []
undollared (a ∷ b ∷ []) = a ∷ b ∷ []
undollared (a ∷ b ∷ c ∷ rest) = if is_dollar a b c then 36 ∷ undollared rest else a ∷ undollared (b ∷ c ∷ rest)

-- as it is looked up
abbrev pub looked_up : List ℕ → List ℕ
looked_up path = map to_ascii_lowercase (undollared path)

-- the path of a target, and its query
abbrev pub path_of : List ℕ → List ℕ
path_of target = (split_once 63 target).0

-- what stands behind the question mark
abbrev pub query_of : List ℕ → List ℕ
query_of target = (split_once 63 target).1

-- what stands behind so many slashes, up to the next
unfoldable pub segment : ℕ → List ℕ → List ℕ
segment zero path = (split_once 47 path).0
segment (suc n) path = segment n (split_once 47 path).1

-- the text that these bytes are
abbrev pub as_text : List ℕ → Option (List ℕ)
as_text bytes = if is_utf8 bytes then Some bytes else None
