-- Which bytes spell which token, and which tokens a text has.
use Rattle.std.specs.Prelude.{◌≡◌, ℕ, ◌<◌, ◌≤◌, ◌-◌, ◌^◌, ◌==◌, true, false, List, [], ◌∷◌, ◌++◌, length, Some, pos}
use Rattle.std.specs.List.{list_all}
use Rattle.sb_model.specs.declared.message.PropertyValue.TheVariants.{Int, Text}
use Rattle.sb_model.specs.declared.token.Kind.{Kind}
use Rattle.sb_model.specs.declared.token.Kind.TheVariants.{Constant, Name, Unknown}
use Rattle.sb_model.specs.declared.token.Role.TheVariants.{Plain}
use Rattle.sb_model.specs.TokenBytes.{is_white, is_digit, is_word, digits_value}
use Rattle.sb_model.specs.Tokens.{goes_on, word_kind, pair_kind, symbol_kind, tokens_of}

-- behind an opening quote: these bytes, the closing quote with them, spell this text
pub data IsQuoted (q : ℕ) : List ℕ → List ℕ → Type 0 where
  closed : IsQuoted q (q ∷ []) []
  doubled : {u t : List ℕ} → IsQuoted q u t → IsQuoted q (q ∷ q ∷ u) (q ∷ t)
  other : {a : ℕ} {u t : List ℕ} → a == q ≡ false → IsQuoted q u t → IsQuoted q (a ∷ u) (a ∷ t)

-- these bytes, before those, spell this token
pub data IsToken : List ℕ → List ℕ → Kind → Type 0 where
  text : {u t rest : List ℕ} → IsQuoted 39 u t → IsToken (39 ∷ u) rest (Constant (Text t))
  name : {u t rest : List ℕ} → IsQuoted 34 u t → IsToken (34 ∷ u) rest (Name Plain t)
  bracketed : {u t rest : List ℕ} → IsQuoted 93 u t → IsToken (91 ∷ u) rest (Name Plain t)
  number : {d : ℕ} {ds rest : List ℕ} → list_all is_digit (d ∷ ds) ≡ true → digits_value 0 (d ∷ ds) < 2 ^ 63 → goes_on rest ≡ false → IsToken (d ∷ ds) rest (Constant (Int (pos (digits_value 0 (d ∷ ds)))))
  word : {b : ℕ} {u rest : List ℕ} → is_digit b ≡ false → list_all is_word (b ∷ u) ≡ true → IsToken (b ∷ u) rest (word_kind (b ∷ u))
  pair : {a b : ℕ} {k : Kind} {rest : List ℕ} → pair_kind a b ≡ Some k → IsToken (a ∷ b ∷ []) rest k
  single : {a : ℕ} {k : Kind} {rest : List ℕ} → symbol_kind a ≡ Some k → IsToken (a ∷ []) rest k

-- of the tokens that begin where these bytes do, this one and no longer one
pub record IsLongest (u rest : List ℕ) (k : Kind) : Type 0 where
  pub spelled : IsToken u rest k
  pub longest : (v w : List ℕ) (j : Kind) → v ++ w ≡ u ++ rest → IsToken v w j → length v ≤ length u

-- no token begins here
abbrev pub BeginsNone : List ℕ → Type 0
BeginsNone bytes = (v w : List ℕ) (j : Kind) → v ++ w ≡ bytes → IsToken v w j → ⊥

-- what is left of a text of so many bytes has these tokens, each with the place at which it ends
pub data HasTokens (total : ℕ) : List ℕ → List (Kind × ℕ) → Type 0 where
  over : {white : List ℕ} → list_all is_white white ≡ true → HasTokens total white []
  unknown : (white u : List ℕ) (b : ℕ) → list_all is_white white ≡ true → is_white b ≡ false → BeginsNone (b ∷ u) → HasTokens total (white ++ b ∷ u) ((Unknown, total) ∷ [])
  token : (white : List ℕ) {u rest : List ℕ} {k : Kind} {tokens : List (Kind × ℕ)} → list_all is_white white ≡ true → IsLongest u rest k → HasTokens total rest tokens → HasTokens total (white ++ (u ++ rest)) ((k, total - length rest) ∷ tokens)

-- a text has these tokens
abbrev pub TokensFound : Type 0
TokensFound = (text : List ℕ) → HasTokens (length text) text (tokens_of text)

-- and no others
abbrev pub TokensOnly : Type 0
TokensOnly = (text : List ℕ) (tokens : List (Kind × ℕ)) → HasTokens (length text) text tokens → tokens ≡ tokens_of text
