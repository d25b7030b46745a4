-- The tokens of a text, one by one.
use Rattle.std.proofs.Common.{◌≡◌, ◌-◌, ◌+◌, ℕ, zero, suc, ◌<◌, ◌≤◌, List, [], ◌∷◌, ◌++◌, length, drop, map, Option, Some, None, refl, ◌∙◌, append_assoc, append-nil, arith, length-drop, Bool, true, false}
use Rattle.std.specs.Prelude.{◌==◌, if◌then◌else◌, IfSome, option_map}
use Rattle.std.specs.List.{prefix_len, take_while}
use Rattle.std.proofs.lemmas.Bool.Decides.{nat_tests}
use Rattle.sb_model.specs.declared.token.Kind.{Kind}
use Rattle.sb_model.specs.declared.token.Kind.TheVariants.{Constant, Unknown}
use Rattle.sb_model.specs.declared.message.PropertyValue.TheVariants.{Int}
use Rattle.sb_model.specs.TokenBytes.{is_white, is_digit, is_word, with_front, or_else, quoted}
use Rattle.sb_model.specs.Tokens.{goes_on, number_of, pair_kind, symbol_kind, followed, text_at, name_at, number_at, word_at, pair_at, single_at, symbol_at, token_at, behind_white, next_token, and_more, tokens_in, tokens_left}

pub is_zero : (n : ℕ) → true ≡ (n == 0) → n ≡ 0
is_zero n e = grind (arith, nat_tests)

pub not_zero : (n : ℕ) → false ≡ (n == 0) → 0 < n
not_zero n e = grind (arith, nat_tests)

-- what stands behind is shorter than n
abbrev pub Below : {A : Type 0} → ℕ → Option (A × List ℕ) → Type 0
Below n o = IfSome o (λ x. length x.1 < n)

either_below : {A : Type 0} (n : ℕ) (b : Bool) (x y : Option (A × List ℕ)) → (b ≡ true → Below n x) → (b ≡ false → Below n y) → Below n (if b then x else y)
either_below n true x y a b = a refl
either_below n false x y a b = b refl

or_below : {A : Type 0} (n : ℕ) (x y : Option (A × List ℕ)) → Below n x → Below n y → Below n (or_else x y)
or_below n None y a b = b
or_below n (Some x) y a b = a

front_below : (m n : ℕ) (front : List ℕ) (o : Option (List ℕ × List ℕ)) → m ≤ n → Below m o → Below n (with_front front o)
front_below m n front None le b = tt
front_below m n front (Some x) le b = omega arith

pub quoted_below : (q : ℕ) (bytes : List ℕ) → Below (length bytes) (quoted q bytes)
quoted_below q [] = tt
quoted_below q (a ∷ []) = either_below 1 (a == q) (Some ([], [])) None (λ e. omega arith) (λ e. tt)
quoted_below q (a ∷ b ∷ rest) =
    let n = length (a ∷ b ∷ rest) in
    let one : Below {A = List ℕ} n (Some ([], b ∷ rest)) = omega arith in
    let two : Below n (with_front (a ∷ []) (quoted q rest)) = front_below (length rest) n (a ∷ []) (quoted q rest) (omega arith) (quoted_below q rest) in
    let more : Below n (with_front (a ∷ []) (quoted q (b ∷ rest))) = front_below (length (b ∷ rest)) n (a ∷ []) (quoted q (b ∷ rest)) (omega arith) (quoted_below q (b ∷ rest)) in
    either_below n (a == q) (if b == q then or_else (with_front (a ∷ []) (quoted q rest)) (Some ([], b ∷ rest)) else Some ([], b ∷ rest)) (with_front (a ∷ []) (quoted q (b ∷ rest)))
    (λ e. either_below n (b == q) (or_else (with_front (a ∷ []) (quoted q rest)) (Some ([], b ∷ rest))) (Some ([], b ∷ rest)) (λ e. or_below n (with_front (a ∷ []) (quoted q rest)) (Some ([], b ∷ rest)) two one) (λ e. one))
    (λ e. more)

kind_below : (m n : ℕ) (k : List ℕ → Kind) (o : Option (List ℕ × List ℕ)) → m ≤ n → Below m o → Below n (option_map (λ x. (k x.0, x.1)) o)
kind_below m n k None le b = tt
kind_below m n k (Some x) le b = omega arith

run_below : (p : ℕ → Bool) (b : ℕ) (bytes : List ℕ) → p b ≡ true → length (drop (prefix_len p (b ∷ bytes)) (b ∷ bytes)) < length (b ∷ bytes)
run_below p b bytes is =
    let long : prefix_len p (b ∷ bytes) ≡ 1 + prefix_len p bytes = rw is refl in
    omega (arith, length-drop (prefix_len p (b ∷ bytes)) (b ∷ bytes), long)

mapped_below : {A T : Type 0} (n : ℕ) (k : A → T) (rest : List ℕ) (o : Option A) → length rest < n → Below n (option_map (λ z. (k z, rest)) o)
mapped_below n k rest None less = tt
mapped_below n k rest (Some z) less = less

number_below : (b : ℕ) (bytes : List ℕ) → is_digit b ≡ true → Below (length (b ∷ bytes)) (number_at (b ∷ bytes))
number_below b bytes is =
    let n = length (b ∷ bytes) in
    let rest : List ℕ = drop (prefix_len is_digit (b ∷ bytes)) (b ∷ bytes) in
    either_below n (goes_on rest) None _ (λ e. tt) (λ e. mapped_below n (λ z. Constant (Int z)) rest (number_of (take_while is_digit (b ∷ bytes))) (run_below is_digit b bytes is))

followed_below : (n : ℕ) (rest : List ℕ) (o : Option Kind) → length rest < n → Below n (followed rest o)
followed_below n rest None less = tt
followed_below n rest (Some k) less = less

pair_below : (bytes : List ℕ) → Below (length bytes) (pair_at bytes)
pair_below [] = tt
pair_below (a ∷ []) = tt
pair_below (a ∷ b ∷ rest) = followed_below (length (a ∷ b ∷ rest)) rest (pair_kind a b) (omega arith)

single_below : (bytes : List ℕ) → Below (length bytes) (single_at bytes)
single_below [] = tt
single_below (a ∷ rest) = followed_below (length (a ∷ rest)) rest (symbol_kind a) (omega arith)

token_below : (bytes : List ℕ) → Below (length bytes) (token_at bytes)
token_below [] = tt
token_below (b ∷ bytes) =
    let n = length (b ∷ bytes) in
    either_below n (b == 39) (text_at bytes) _ (λ e. kind_below (length bytes) n _ (quoted 39 bytes) (omega arith) (quoted_below 39 bytes)) (λ e.
    either_below n (b == 34) (name_at 34 bytes) _ (λ e. kind_below (length bytes) n _ (quoted 34 bytes) (omega arith) (quoted_below 34 bytes)) (λ e.
    either_below n (b == 91) (name_at 93 bytes) _ (λ e. kind_below (length bytes) n _ (quoted 93 bytes) (omega arith) (quoted_below 93 bytes)) (λ e.
    either_below n (is_digit b) (number_at (b ∷ bytes)) _ (number_below b bytes) (λ e.
    either_below n (is_word b) (word_at (b ∷ bytes)) (symbol_at (b ∷ bytes)) (run_below is_word b bytes) (λ e.
    or_below n (pair_at (b ∷ bytes)) (single_at (b ∷ bytes)) (pair_below (b ∷ bytes)) (single_below (b ∷ bytes)))))))

white_below : (left : List ℕ) → length (behind_white left) ≤ length left
white_below left = omega (arith, length-drop (prefix_len is_white left) left)

pub token_shorter : (left : List ℕ) (k : Kind) (rest : List ℕ) → token_at (behind_white left) ≡ Some (k, rest) → length rest < length left
token_shorter left k rest e =
    let below : length rest < length (behind_white left) = rw e at (token_below (behind_white left)) in
    omega (arith, white_below left)

-- more turns than there are bytes change nothing
enough : (n m total : ℕ) (left : List ℕ) → length left < n → length left < m → tokens_in n total left ≡ tokens_in m total left
enough zero m total left long wide = absurd (omega arith)
enough (suc n) zero total left long wide = absurd (omega arith)
enough (suc n) (suc m) total left long wide = at (behind_white left) (white_below left) (λ rest less. enough n m total rest (omega arith) (omega arith)) where
  turn : (bytes : List ℕ) (o : Option (Kind × List ℕ)) → Below (length bytes) o → length bytes ≤ length left → ((rest : List ℕ) → length rest < length left → tokens_in n total rest ≡ tokens_in m total rest) → and_more total (λ rest. tokens_in n total rest) (Some o) ≡ and_more total (λ rest. tokens_in m total rest) (Some o)
  turn bytes None below le ih = refl
  turn bytes (Some t) below le ih = rw (ih t.1 (omega arith)) refl

  at : (bytes : List ℕ) → length bytes ≤ length left → ((rest : List ℕ) → length rest < length left → tokens_in n total rest ≡ tokens_in m total rest) → and_more total (λ rest. tokens_in n total rest) (next_token bytes) ≡ and_more total (λ rest. tokens_in m total rest) (next_token bytes)
  at [] le ih = refl
  at (b ∷ bytes) le ih = turn (b ∷ bytes) (token_at (b ∷ bytes)) (token_below (b ∷ bytes)) le ih

-- the ends of a list of tokens, and the way on
pub none_left : (total : ℕ) (left : List ℕ) → length (behind_white left) ≡ 0 → tokens_left total left ≡ []
unfolding tokens_left
none_left total left e = at (behind_white left) e where
  at : (bytes : List ℕ) → length bytes ≡ 0 → and_more total (λ rest. tokens_in (length left) total rest) (next_token bytes) ≡ []
  at [] e = refl
  at (b ∷ bytes) e = absurd (omega arith)

pub unknown_left : (total : ℕ) (left : List ℕ) → 0 < length (behind_white left) → token_at (behind_white left) ≡ None → tokens_left total left ≡ (Unknown, total) ∷ []
unfolding tokens_left
unknown_left total left some e = at (behind_white left) some e where
  at : (bytes : List ℕ) → 0 < length bytes → token_at bytes ≡ None → and_more total (λ rest. tokens_in (length left) total rest) (next_token bytes) ≡ (Unknown, total) ∷ []
  at [] some e = absurd (omega arith)
  at (b ∷ bytes) some e = rw e refl

pub one_left : (total : ℕ) (left : List ℕ) (k : Kind) (rest : List ℕ) → token_at (behind_white left) ≡ Some (k, rest) → tokens_left total left ≡ (k, total - length rest) ∷ tokens_left total rest
unfolding tokens_left
one_left total left k rest e = at (behind_white left) (token_shorter left k rest e) e where
  at : (bytes : List ℕ) → length rest < length left → token_at bytes ≡ Some (k, rest) → and_more total (λ rest. tokens_in (length left) total rest) (next_token bytes) ≡ (k, total - length rest) ∷ tokens_in (suc (length rest)) total rest
  at [] less e = absurd cc
  at (b ∷ bytes) less e = rw (e, enough (length left) (suc (length rest)) total rest less (omega arith)) refl

-- a view of the tokens so far and of those that are left
module _ {B : Type 0} (f : Kind × ℕ → B) (total : ℕ) where
  pub view_ends : (left : List ℕ) (seen all : List B) → length (behind_white left) ≡ 0 → seen ++ map f (tokens_left total left) ≡ all → seen ≡ all
  view_ends left seen all e so_far = rw (none_left total left e, append-nil) at so_far

  pub view_unknown : (left : List ℕ) (seen made all : List B) → 0 < length (behind_white left) → token_at (behind_white left) ≡ None → made ≡ seen ++ f (Unknown, total) ∷ [] → seen ++ map f (tokens_left total left) ≡ all → made ≡ all
  view_unknown left seen made all some e made_is so_far = made_is ∙ (rw (unknown_left total left some e) at so_far)

  pub view_more : (left : List ℕ) (k : Kind) (rest : List ℕ) (seen made all : List B) → token_at (behind_white left) ≡ Some (k, rest) → made ≡ seen ++ f (k, total - length rest) ∷ [] → seen ++ map f (tokens_left total left) ≡ all → made ++ map f (tokens_left total rest) ≡ all
  view_more left k rest seen made all e made_is so_far = rw (made_is, append_assoc) (rw (one_left total left k rest e) at so_far)
