-- What is read is spelled, and which tokens a text has.
use Rattle.std.proofs.Common.{◌≡◌, ◌-◌, ◌^◌, ℕ, zero, suc, ◌<◌, ◌≤◌, List, [], ◌∷◌, ◌++◌, length, take, drop, Option, Some, None, refl, ap, sym, ◌∙◌, append-nil, one-add, arith, length-append, Bool, true, false, subst, inl, inr, ◌⊎◌}
use Rattle.std.specs.Prelude.{◌==◌, if◌then◌else◌, option_map, nat_lt, pos, ℤ}
use Rattle.std.specs.List.{list_all, prefix_len}
use Rattle.std.proofs.lemmas.List.{take-append-drop}
use Rattle.std.proofs.lemmas.Bool.Decides.{nat_tests}
use Rattle.sb_model.specs.declared.message.PropertyValue.TheVariants.{Int, Text}
use Rattle.sb_model.specs.declared.token.Kind.{Kind}
use Rattle.sb_model.specs.declared.token.Kind.TheVariants.{Constant, Name, Unknown}
use Rattle.sb_model.specs.declared.token.Role.TheVariants.{Plain}
use Rattle.sb_model.specs.TokenBytes.{is_white, is_digit, is_word, with_front, or_else, quoted, digits_value}
use Rattle.sb_model.specs.Tokens.{goes_on, number_of, word_kind, pair_kind, symbol_kind, text_at, name_at, number_at, word_at, followed, symbol_at, token_at, behind_white, next_token, and_more, tokens_in, tokens_left, tokens_of}
use Rattle.sb_sqltokens.specs.Spelled.{IsQuoted, closed, doubled, other, IsToken, text, name, bracketed, number, word, pair, single, IsLongest, BeginsNone, HasTokens, over, unknown, token, TokensFound, TokensOnly}
use Rattle.sb_sqltokens.proofs.Listing.{token_shorter}
use Rattle.sb_sqltokens.proofs.Longest.{both_true, is_byte, symbol_plain, pair_plain, longest_is}

if_cases : {A : Type 0} (c : Bool) (x y z : A) → (if c then x else y) ≡ z → ((c ≡ true) × (x ≡ z)) ⊎ ((c ≡ false) × (y ≡ z))
if_cases true x y z e = inl (refl, e)
if_cases false x y z e = inr (refl, e)

abbrev found_as : {A : Type 0} → A → List ℕ → Option (A × List ℕ)
found_as a rest = Some (a, rest)

some_is : {A : Type 0} (x y : A) → Some x ≡ Some y → x ≡ y
some_is x y e = cc

some_none : {A : Type 0} (x : A) → Some x ≡ None → ⊥
some_none x e = absurd cc

parts : {A : Type 0} (a b : A) (x y : List ℕ) → found_as a x ≡ found_as b y → (a ≡ b) × (x ≡ y)
parts {A = A} a b x y e =
    let p = some_is {A = A × List ℕ} (a, x) (b, y) e in
    (ap (λ (q : A × List ℕ). q.0) p, ap (λ (q : A × List ℕ). q.1) p)

-- texts between quotes
record QuotedFound (q : ℕ) (bytes t rest : List ℕ) : Type 0 where
  front : List ℕ
  split : bytes ≡ front ++ rest
  spelled : IsQuoted q front t

ends_at : (q a : ℕ) (more t rest : List ℕ) → a == q ≡ true → found_as [] more ≡ found_as t rest → QuotedFound q (a ∷ more) t rest
ends_at q a more t rest is e =
    let p = parts [] t more rest e in
    record { front = a ∷ []; split = ap (λ (x : List ℕ). a ∷ x) p.1; spelled = rw (is_byte a q is, ← p.0) closed }

goes_by : (q a : ℕ) (more t rest : List ℕ) (o : Option (List ℕ × List ℕ)) → a == q ≡ false → ((x : List ℕ × List ℕ) → o ≡ Some x → QuotedFound q more x.0 x.1) → with_front (a ∷ []) o ≡ found_as t rest → QuotedFound q (a ∷ more) t rest
goes_by q a more t rest None is ih e = absurd cc
goes_by q a more t rest (Some x) is ih e =
    let p = parts (a ∷ x.0) t x.1 rest e in
    let f = ih x refl in
    record { front = a ∷ f.front; split = ap (λ (y : List ℕ). a ∷ y) (f.split ∙ ap (λ (y : List ℕ). f.front ++ y) p.1); spelled = rw (← p.0) (other is f.spelled) }

doubles : (q a b : ℕ) (more t rest : List ℕ) (o : Option (List ℕ × List ℕ)) → a == q ≡ true → b == q ≡ true → ((x : List ℕ × List ℕ) → o ≡ Some x → QuotedFound q more x.0 x.1) → or_else (with_front (a ∷ []) o) (found_as [] (b ∷ more)) ≡ found_as t rest → QuotedFound q (a ∷ b ∷ more) t rest
doubles q a b more t rest None one two ih e = ends_at q a (b ∷ more) t rest one e
doubles q a b more t rest (Some x) one two ih e =
    let p = parts (a ∷ x.0) t x.1 rest e in
    let f = ih x refl in
    record { front = a ∷ b ∷ f.front; split = ap (λ (y : List ℕ). a ∷ b ∷ y) (f.split ∙ ap (λ (y : List ℕ). f.front ++ y) p.1); spelled = rw (is_byte b q two, ← p.0, is_byte a q one) (doubled f.spelled) }

quote_found : (q : ℕ) (bytes t rest : List ℕ) → quoted q bytes ≡ found_as t rest → QuotedFound q bytes t rest
quote_found q [] t rest e = absurd cc
quote_found q (a ∷ []) t rest e = at (if_cases (a == q) (found_as [] []) None (found_as t rest) e) where
  at : ((a == q ≡ true) × (found_as [] [] ≡ found_as t rest)) ⊎ ((a == q ≡ false) × (None ≡ found_as t rest)) → QuotedFound q (a ∷ []) t rest
  at (inl x) = ends_at q a [] t rest x.0 x.1
  at (inr x) = let none = x.1 in absurd cc
quote_found q (a ∷ b ∷ more) t rest e =
    let here : Option (List ℕ × List ℕ) = found_as [] (b ∷ more) in
    let two : Option (List ℕ × List ℕ) = or_else (with_front (a ∷ []) (quoted q more)) here in
    elim (if_cases (a == q) (if b == q then two else here) (with_front (a ∷ []) (quoted q (b ∷ more))) (found_as t rest) e) [
      | inl x ↦ elim (if_cases (b == q) two here (found_as t rest) x.1) [
        | inl y ↦ doubles q a b more t rest (quoted q more) x.0 y.0 (λ z f. quote_found q more z.0 z.1 f) y.1
        | inr y ↦ ends_at q a (b ∷ more) t rest x.0 y.1
      ]
      | inr x ↦ goes_by q a (b ∷ more) t rest (quoted q (b ∷ more)) x.0 (λ z f. quote_found q (b ∷ more) z.0 z.1 f) x.1
    ]

-- tokens
record Found (bytes : List ℕ) (k : Kind) (rest : List ℕ) : Type 0 where
  front : List ℕ
  split : bytes ≡ front ++ rest
  spelled : IsToken front rest k

abbrev as_token : (List ℕ → Kind) → List ℕ × List ℕ → Kind × List ℕ
as_token mk x = (mk x.0, x.1)

abbrev as_number : List ℕ → ℤ → Kind × List ℕ
as_number rest z = (Constant (Int z), rest)

quoted_token : (q n b : ℕ) (mk : List ℕ → Kind) → ((u t rest : List ℕ) → IsQuoted q u t → IsToken (n ∷ u) rest (mk t)) → (bytes rest : List ℕ) (k : Kind) (o : Option (List ℕ × List ℕ)) → b == n ≡ true → quoted q bytes ≡ o → option_map (as_token mk) o ≡ found_as k rest → Found (b ∷ bytes) k rest
quoted_token q n b mk build bytes rest k None is was e = absurd cc
quoted_token q n b mk build bytes rest k (Some x) is was e =
    let p = parts (mk x.0) k x.1 rest e in
    let f = quote_found q bytes x.0 x.1 was in
    record { front = b ∷ f.front; split = ap (λ (y : List ℕ). b ∷ y) (f.split ∙ ap (λ (y : List ℕ). f.front ++ y) p.1); spelled = rw (is_byte b n is, ← p.0) (build f.front x.0 rest f.spelled) }

-- the bytes of a run, and what stands behind
run_all : (p : ℕ → Bool) (bytes : List ℕ) → list_all p (take (prefix_len p bytes) bytes) ≡ true
run_all p [] = refl
run_all p (b ∷ bytes) = at (p b) refl (run_all p bytes) where
  at : (is : Bool) → p b ≡ is → list_all p (take (prefix_len p bytes) bytes) ≡ true → list_all p (take (prefix_len p (b ∷ bytes)) (b ∷ bytes)) ≡ true
  at true is ih = rw (is, one-add, is) ih
  at false is ih = rw is refl

run_first : (p : ℕ → Bool) (b : ℕ) (bytes : List ℕ) → p b ≡ true → take (prefix_len p (b ∷ bytes)) (b ∷ bytes) ≡ b ∷ take (prefix_len p bytes) bytes
run_first p b bytes is = rw (is, one-add) refl

below_limit : (n : ℕ) → nat_lt n (2 ^ 63) ≡ true → n < 2 ^ 63
below_limit n e = grind (arith, nat_tests)

number_value : (v : List ℕ) (z : ℤ) → number_of v ≡ Some z → (digits_value 0 v < 2 ^ 63) × (z ≡ pos (digits_value 0 v))
number_value v z e = at (if_cases (nat_lt (digits_value 0 v) (2 ^ 63)) (Some (pos (digits_value 0 v))) None (Some z) e) where
  at : ((nat_lt (digits_value 0 v) (2 ^ 63) ≡ true) × (Some (pos (digits_value 0 v)) ≡ Some z)) ⊎ ((nat_lt (digits_value 0 v) (2 ^ 63) ≡ false) × (None ≡ Some z)) → (digits_value 0 v < 2 ^ 63) × (z ≡ pos (digits_value 0 v))
  at (inl x) = let same = x.1 in (below_limit (digits_value 0 v) x.0, cc)
  at (inr x) = let none = x.1 in absurd cc

number_token : (d : ℕ) (ds v rest : List ℕ) → v ≡ d ∷ ds → list_all is_digit v ≡ true → digits_value 0 v < 2 ^ 63 → goes_on rest ≡ false → IsToken v rest (Constant (Int (pos (digits_value 0 v))))
number_token d ds v rest e all small stops = rw e (number (rw e at all) (rw e at small) stops)

word_token : (b : ℕ) (u v rest : List ℕ) → v ≡ b ∷ u → is_digit b ≡ false → list_all is_word v ≡ true → IsToken v rest (word_kind v)
word_token b u v rest e digit all = rw e (word digit (rw e at all))

number_from : (d : ℕ) (ds before after rest : List ℕ) (k : Kind) (o : Option ℤ) → before ≡ d ∷ ds → list_all is_digit before ≡ true → goes_on after ≡ false → number_of before ≡ o → option_map (as_number after) o ≡ found_as k rest → Found (before ++ after) k rest
number_from d ds before after rest k None e all stops was read = absurd cc
number_from d ds before after rest k (Some z) e all stops was read =
    let p = parts (Constant (Int z)) k after rest read in
    let v = number_value before z was in
    let kind_is : Constant (Int (pos (digits_value 0 before))) ≡ k = ap (λ (y : ℤ). Constant (Int y)) (sym v.1) ∙ p.0 in
    record { front = before; split = ap (λ (y : List ℕ). before ++ y) p.1; spelled = rw (← kind_is, ← p.1) (number_token d ds before after e all v.0 stops) }

number_found : (b : ℕ) (bytes rest : List ℕ) (k : Kind) → is_digit b ≡ true → number_at (b ∷ bytes) ≡ found_as k rest → Found (b ∷ bytes) k rest
number_found b bytes rest k is e =
    let n : ℕ = prefix_len is_digit (b ∷ bytes) in
    let before : List ℕ = take n (b ∷ bytes) in
    let after : List ℕ = drop n (b ∷ bytes) in
    elim (if_cases (goes_on after) None (option_map (as_number after) (number_of before)) (found_as k rest) e) [
      | inl x ↦ absurd (some_none (k, rest) (sym x.1))
      | inr x ↦ subst (λ (y : List ℕ). Found y k rest) (take-append-drop n (b ∷ bytes)) (number_from b (take (prefix_len is_digit bytes) bytes) before after rest k (number_of before) (run_first is_digit b bytes is) (run_all is_digit (b ∷ bytes)) x.0 refl x.1)
    ]

word_found : (b : ℕ) (bytes rest : List ℕ) (k : Kind) → is_digit b ≡ false → is_word b ≡ true → word_at (b ∷ bytes) ≡ found_as k rest → Found (b ∷ bytes) k rest
word_found b bytes rest k digit is e =
    let n : ℕ = prefix_len is_word (b ∷ bytes) in
    let before : List ℕ = take n (b ∷ bytes) in
    let after : List ℕ = drop n (b ∷ bytes) in
    let p = parts (word_kind before) k after rest e in
    let spelled : IsToken before after (word_kind before) = word_token b (take (prefix_len is_word bytes) bytes) before after (run_first is_word b bytes is) digit (run_all is_word (b ∷ bytes)) in
    record { front = before; split = sym (take-append-drop n (b ∷ bytes)) ∙ ap (λ (y : List ℕ). before ++ y) p.1; spelled = rw (← p.0, ← p.1) spelled }

followed_is : (rest : List ℕ) (o : Option Kind) (k : Kind) (r : List ℕ) → followed rest o ≡ found_as k r → (o ≡ Some k) × (rest ≡ r)
followed_is rest None k r e = absurd cc
followed_is rest (Some j) k r e = let p = parts j k rest r e in (ap Some p.0, p.1)

single_found : (a : ℕ) (bytes rest : List ℕ) (k : Kind) → followed bytes (symbol_kind a) ≡ found_as k rest → Found (a ∷ bytes) k rest
single_found a bytes rest k e = let f = followed_is bytes (symbol_kind a) k rest e in record { front = a ∷ []; split = ap (λ (y : List ℕ). a ∷ y) f.1; spelled = single f.0 }

symbol_found : (a : ℕ) (bytes rest : List ℕ) (k : Kind) → symbol_at (a ∷ bytes) ≡ found_as k rest → Found (a ∷ bytes) k rest
symbol_found a [] rest k e = single_found a [] rest k e
symbol_found a (b ∷ bytes) rest k e = at (pair_kind a b) refl e where
  at : (o : Option Kind) → pair_kind a b ≡ o → or_else (followed bytes o) (followed (b ∷ bytes) (symbol_kind a)) ≡ found_as k rest → Found (a ∷ b ∷ bytes) k rest
  at None is e = single_found a (b ∷ bytes) rest k e
  at (Some j) is e =
      let p = parts j k bytes rest e in
      record { front = a ∷ b ∷ []; split = ap (λ (y : List ℕ). a ∷ b ∷ y) p.1; spelled = pair (is ∙ ap Some p.0) }

token_found : (bytes rest : List ℕ) (k : Kind) → token_at bytes ≡ found_as k rest → Found bytes k rest
token_found [] rest k e = absurd cc
token_found (b ∷ bytes) rest k e =
    let symbols : Option (Kind × List ℕ) = symbol_at (b ∷ bytes) in
    let words : Option (Kind × List ℕ) = if is_word b then word_at (b ∷ bytes) else symbols in
    let numbers : Option (Kind × List ℕ) = if is_digit b then number_at (b ∷ bytes) else words in
    let brackets : Option (Kind × List ℕ) = if b == 91 then name_at 93 bytes else numbers in
    let names : Option (Kind × List ℕ) = if b == 34 then name_at 34 bytes else brackets in
    elim (if_cases (b == 39) (text_at bytes) names (found_as k rest) e) [
      | inl x ↦ quoted_token 39 39 b (λ t. Constant (Text t)) (λ u t r s. text s) bytes rest k (quoted 39 bytes) x.0 refl x.1
      | inr x1 ↦ elim (if_cases (b == 34) (name_at 34 bytes) brackets (found_as k rest) x1.1) [
        | inl x ↦ quoted_token 34 34 b (λ t. Name Plain t) (λ u t r s. name s) bytes rest k (quoted 34 bytes) x.0 refl x.1
        | inr x2 ↦ elim (if_cases (b == 91) (name_at 93 bytes) numbers (found_as k rest) x2.1) [
          | inl x ↦ quoted_token 93 91 b (λ t. Name Plain t) (λ u t r s. bracketed s) bytes rest k (quoted 93 bytes) x.0 refl x.1
          | inr x3 ↦ elim (if_cases (is_digit b) (number_at (b ∷ bytes)) words (found_as k rest) x3.1) [
            | inl x ↦ number_found b bytes rest k x.0 x.1
            | inr x4 ↦ elim (if_cases (is_word b) (word_at (b ∷ bytes)) symbols (found_as k rest) x4.1) [
              | inl x ↦ word_found b bytes rest k x4.0 x.0 x.1
              | inr x ↦ symbol_found b bytes rest k x.1
            ]
          ]
        ]
      ]
    ]

-- the longest one
longest_found : (bytes rest : List ℕ) (k : Kind) → token_at bytes ≡ found_as k rest → (f : Found bytes k rest) → IsLongest f.front rest k
longest_found bytes rest k e f = record { spelled = f.spelled; longest = longest } where
  longest : (v w : List ℕ) (j : Kind) → v ++ w ≡ f.front ++ rest → IsToken v w j → length v ≤ length f.front
  longest v w j same s =
      let x = longest_is v w j s in
      let all : v ++ w ≡ bytes = same ∙ sym f.split in
      let read : token_at bytes ≡ found_as x.kind x.rest = ap token_at (sym all) ∙ x.read in
      let rest_is : x.rest ≡ rest = (parts x.kind k x.rest rest (sym read ∙ e)).1 in
      omega (arith, ap length rest_is, x.no_longer, ap length same, length-append v w, length-append f.front rest)

begins_none : (bytes : List ℕ) → token_at bytes ≡ None → BeginsNone bytes
begins_none bytes e = λ v w j same s.
    let x = longest_is v w j s in
    let read : token_at bytes ≡ found_as x.kind x.rest = ap token_at (sym same) ∙ x.read in
    some_none (x.kind, x.rest) (sym read ∙ e)

longest_read : (u rest : List ℕ) (k : Kind) → IsLongest u rest k → token_at (u ++ rest) ≡ found_as k rest
longest_read u rest k l =
    let x = longest_is u rest k l.spelled in
    let f = token_found (u ++ rest) x.rest x.kind x.read in
    let no_longer = l.longest f.front x.rest x.kind (sym f.split) f.spelled in
    let same : length x.rest ≡ length rest = omega (arith, x.no_longer, no_longer, ap length f.split, length-append u rest, length-append f.front x.rest) in
    let is = x.same same in
    x.read ∙ (ap (λ (y : List ℕ). found_as x.kind y) is.1 ∙ ap (λ (y : Kind). found_as y rest) is.0)

none_read : (bytes : List ℕ) → BeginsNone bytes → token_at bytes ≡ None
none_read bytes none = at (token_at bytes) refl where
  at : (o : Option (Kind × List ℕ)) → token_at bytes ≡ o → token_at bytes ≡ None
  at None e = e
  at (Some x) e = let f = token_found bytes x.1 x.0 e in absurd (none f.front x.1 x.0 (sym f.split) f.spelled)

-- white space
white_split : (left : List ℕ) → left ≡ take (prefix_len is_white left) left ++ behind_white left
white_split left = sym (take-append-drop (prefix_len is_white left) left)

head_is : (a b : ℕ) (x y : List ℕ) → a ∷ x ≡ b ∷ y → a ≡ b
head_is a b x y e = cc

not_white : (left u : List ℕ) (b : ℕ) → behind_white left ≡ b ∷ u → is_white b ≡ false
not_white [] u b e = absurd cc
not_white (a ∷ left) u b e = at (is_white a) refl e (not_white left u b) where
  at : (is : Bool) → is_white a ≡ is → behind_white (a ∷ left) ≡ b ∷ u → (behind_white left ≡ b ∷ u → is_white b ≡ false) → is_white b ≡ false
  at true is e ih = ih (rw (is, one-add) at e)
  at false is e ih =
      let here : a ∷ left ≡ b ∷ u = rw is at e in
      rw (head_is a b left u here) at is

all_white : (white more : List ℕ) → list_all is_white white ≡ true → prefix_len is_white more ≡ 0 → behind_white (white ++ more) ≡ more
all_white [] more all stops = rw stops refl
all_white (b ∷ white) more all stops =
    let x = both_true (is_white b) (list_all is_white white) all in
    rw (x.0, one-add) (all_white white more x.1 stops)

first_stops : (b : ℕ) (u : List ℕ) → is_white b ≡ false → prefix_len is_white (b ∷ u) ≡ 0
first_stops b u is = rw is refl

digit_no_white : (b : ℕ) → is_digit b ≡ true → is_white b ≡ false
digit_no_white b is = grind (arith, nat_tests)

word_no_white : (b : ℕ) → is_word b ≡ true → is_white b ≡ false
word_no_white b is = grind (arith, nat_tests)

token_stops : (u rest : List ℕ) (k : Kind) → IsToken u rest k → (prefix_len is_white (u ++ rest) ≡ 0) × (0 < length (u ++ rest))
token_stops _ rest _ (text s) = (refl, omega arith)
token_stops _ rest _ (name s) = (refl, omega arith)
token_stops _ rest _ (bracketed s) = (refl, omega arith)
token_stops _ rest _ (number {d = d} {ds = ds} all small stops) = (first_stops d (ds ++ rest) (digit_no_white d (both_true (is_digit d) (list_all is_digit ds) all).0), omega arith)
token_stops _ rest _ (word {b = b} {u = u} digit all) = (first_stops b (u ++ rest) (word_no_white b (both_true (is_word b) (list_all is_word u) all).0), omega arith)
token_stops _ rest k (pair {a = a} {b = b} e) = (first_stops a (b ∷ rest) (pair_plain a b k e).no_white, omega arith)
token_stops _ rest k (single {a = a} e) = (first_stops a rest (symbol_plain a k e).no_white, omega arith)

-- what is listed, a text has
has_tokens : (n total : ℕ) (left : List ℕ) → length left < n → HasTokens total left (tokens_in n total left)
has_tokens zero total left long = absurd (omega arith)
has_tokens (suc n) total left long = at (behind_white left) refl (λ rest less. has_tokens n total rest (omega arith)) where
  turn : (b : ℕ) (u : List ℕ) → behind_white left ≡ b ∷ u → (o : Option (Kind × List ℕ)) → token_at (b ∷ u) ≡ o → ((rest : List ℕ) → length rest < length left → HasTokens total rest (tokens_in n total rest)) → HasTokens total left (and_more total (λ rest. tokens_in n total rest) (Some o))
  turn b u is None e ih =
      let parts : left ≡ take (prefix_len is_white left) left ++ b ∷ u = white_split left ∙ ap (λ (y : List ℕ). take (prefix_len is_white left) left ++ y) is in
      let has : HasTokens total (take (prefix_len is_white left) left ++ b ∷ u) ((Unknown, total) ∷ []) = unknown (take (prefix_len is_white left) left) u b (run_all is_white left) (not_white left u b is) (begins_none (b ∷ u) e) in
      subst (λ (y : List ℕ). HasTokens total y ((Unknown, total) ∷ [])) (sym parts) has
  turn b u is (Some t) e ih =
      let f = token_found (b ∷ u) t.1 t.0 e in
      let l = longest_found (b ∷ u) t.1 t.0 e f in
      let less : length t.1 < length left = token_shorter left t.0 t.1 (rw is e) in
      let parts : left ≡ take (prefix_len is_white left) left ++ (f.front ++ t.1) = white_split left ∙ ap (λ (y : List ℕ). take (prefix_len is_white left) left ++ y) (is ∙ f.split) in
      let has : HasTokens total (take (prefix_len is_white left) left ++ (f.front ++ t.1)) ((t.0, total - length t.1) ∷ tokens_in n total t.1) = token (take (prefix_len is_white left) left) (run_all is_white left) l (ih t.1 less) in
      subst (λ (y : List ℕ). HasTokens total y ((t.0, total - length t.1) ∷ tokens_in n total t.1)) (sym parts) has

  at : (bytes : List ℕ) → behind_white left ≡ bytes → ((rest : List ℕ) → length rest < length left → HasTokens total rest (tokens_in n total rest)) → HasTokens total left (and_more total (λ rest. tokens_in n total rest) (next_token bytes))
  at [] is ih =
      let parts : left ≡ take (prefix_len is_white left) left = white_split left ∙ ap (λ (y : List ℕ). take (prefix_len is_white left) left ++ y) is ∙ append-nil (take (prefix_len is_white left) left) in
      let has : HasTokens total (take (prefix_len is_white left) left) [] = over (run_all is_white left) in
      subst (λ (y : List ℕ). HasTokens total y []) (sym parts) has
  at (b ∷ u) is ih = turn b u is (token_at (b ∷ u)) refl ih

-- what a text has is listed
next_is : (bytes rest : List ℕ) (k : Kind) → 0 < length bytes → token_at bytes ≡ found_as k rest → next_token bytes ≡ Some (found_as k rest)
next_is [] rest k some e = absurd (omega arith)
next_is (b ∷ bytes) rest k some e = ap Some e

only_tokens : (total : ℕ) (left : List ℕ) (tokens : List (Kind × ℕ)) → HasTokens total left tokens → (n : ℕ) → length left < n → tokens ≡ tokens_in n total left
only_tokens total left tokens has zero long = absurd (omega arith)
only_tokens total _ _ (over {white = white} all) (suc n) long =
    let none : behind_white (white ++ []) ≡ [] = all_white white [] all refl in
    let end : behind_white white ≡ [] = rw append-nil at none in
    rw end refl
only_tokens total _ _ (unknown white u b all is none) (suc n) long =
    let begins : behind_white (white ++ b ∷ u) ≡ b ∷ u = all_white white (b ∷ u) all (first_stops b u is) in
    rw (begins, none_read (b ∷ u) none) refl
only_tokens total _ _ (token white {u = u} {rest = rest} {k = k} {tokens = tokens} all l has) (suc n) long =
    let stops = token_stops u rest k l.spelled in
    let begins : behind_white (white ++ (u ++ rest)) ≡ u ++ rest = all_white white (u ++ rest) all stops.0 in
    let read = longest_read u rest k l in
    let less : length rest < n = omega (arith, token_shorter (white ++ (u ++ rest)) k rest (rw begins read)) in
    rw (begins, next_is (u ++ rest) rest k stops.1 read) (ap (λ (ts : List (Kind × ℕ)). (k, total - length rest) ∷ ts) (only_tokens total rest tokens has n less))

pub tokens_found : TokensFound
unfolding tokens_of tokens_left
tokens_found bytes = has_tokens (suc (length bytes)) (length bytes) bytes (omega arith)

pub tokens_only : TokensOnly
unfolding tokens_of tokens_left
tokens_only bytes tokens has = only_tokens (length bytes) bytes tokens has (suc (length bytes)) (omega arith)
