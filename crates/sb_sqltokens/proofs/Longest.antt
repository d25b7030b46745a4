-- The longest token is read.
use Rattle.std.proofs.Common.{◌≡◌, ◌+◌, ◌^◌, ℕ, ◌<◌, ◌≤◌, List, [], ◌∷◌, ◌++◌, length, take, drop, Option, Some, None, refl, ap, ◌∙◌, arith, length-append, length-drop, Bool, true, false}
use Rattle.std.specs.Prelude.{◌==◌, ◌||◌, ◌&&◌, if◌then◌else◌, nat_lt, pos}
use Rattle.std.specs.List.{list_all, prefix_len}
use Rattle.std.proofs.Math.Seq.{take-append_seam, drop-append_seam}
use Rattle.std.proofs.lemmas.List.Sums.{prefix_len-le-length}
use Rattle.std.proofs.lemmas.Bool.Decides.{nat_tests}
use Rattle.sb_model.specs.declared.message.PropertyValue.TheVariants.{Int, Text}
use Rattle.sb_model.specs.declared.token.Kind.{Kind}
use Rattle.sb_model.specs.declared.token.Kind.TheVariants.{Constant, Name}
use Rattle.sb_model.specs.declared.token.Role.TheVariants.{Plain}
use Rattle.sb_model.specs.TokenBytes.{is_white, is_digit, is_word, with_front, quoted, digits_value}
use Rattle.sb_model.specs.Tokens.{goes_on, word_kind, pair_kind, symbol_kind, number_at, word_at, symbol_at, token_at}
use Rattle.sb_sqltokens.specs.Spelled.{IsQuoted, closed, doubled, other, IsToken, text, name, bracketed, number, word, pair, single}
use Rattle.sb_sqltokens.proofs.Listing.{Below, quoted_below}

pub both_true : (x y : Bool) → (x && y) ≡ true → (x ≡ true) × (y ≡ true)
both_true true y e = (refl, e)
both_true false y e = absurd cc

same_byte : (q : ℕ) → q == q ≡ true
same_byte q = grind (arith, nat_tests)

pub is_byte : (a n : ℕ) → a == n ≡ true → a ≡ n
is_byte a n e = grind (arith, nat_tests)

-- a byte that passes a test isn't one that fails it
apart : (p : ℕ → Bool) (a n : ℕ) → p a ≡ true → p n ≡ false → a == n ≡ false
apart p a n holds fails = at (a == n) refl where
  at : (b : Bool) → a == n ≡ b → a == n ≡ false
  at false is = is
  at true is = let same : a ≡ n = is_byte a n is in let passes : p n ≡ true = rw same at holds in absurd cc

-- texts between quotes
record QuotedLongest (q : ℕ) (u w t : List ℕ) : Type 0 where
  found : List ℕ
  rest : List ℕ
  read : quoted q (u ++ w) ≡ Some (found, rest)
  no_longer : length rest ≤ length w
  same : length rest ≡ length w → (found ≡ t) × (rest ≡ w)

quote_closed : (q : ℕ) (w : List ℕ) → QuotedLongest q (q ∷ []) w []
quote_closed q [] = record { found = []; rest = []; read = rw (same_byte q) refl; no_longer = omega arith; same = λ s. (refl, refl) }
quote_closed q (b ∷ w) = at (b == q) refl (quoted q w) refl (quoted_below q w) where
  at : (two : Bool) → b == q ≡ two → (o : Option (List ℕ × List ℕ)) → quoted q w ≡ o → Below (length w) o → QuotedLongest q (q ∷ []) (b ∷ w) []
  at false is o e below = record { found = []; rest = b ∷ w; read = rw (same_byte q, is) refl; no_longer = omega arith; same = λ s. (refl, refl) }
  at true is None e below = record { found = []; rest = b ∷ w; read = rw (same_byte q, is, e) refl; no_longer = omega arith; same = λ s. (refl, refl) }
  at true is (Some x) e below = record { found = q ∷ x.0; rest = x.1; read = rw (same_byte q, is, e) refl; no_longer = omega arith; same = λ s. absurd (omega arith) }

quote_not_empty : (q : ℕ) (u t : List ℕ) → IsQuoted q u t → 0 < length u
quote_not_empty q _ _ closed = omega arith
quote_not_empty q _ _ (doubled {u = u} s) = omega arith
quote_not_empty q _ _ (other {u = u} is s) = omega arith

other_step : (q a : ℕ) (bytes : List ℕ) → 0 < length bytes → a == q ≡ false → quoted q (a ∷ bytes) ≡ with_front (a ∷ []) (quoted q bytes)
other_step q a [] some is = absurd (omega arith)
other_step q a (b ∷ bytes) some is = rw is refl

quote_longest : (q : ℕ) (u w t : List ℕ) → IsQuoted q u t → QuotedLongest q u w t
quote_longest q _ w _ closed = quote_closed q w
quote_longest q _ w _ (doubled {u = u} {t = t} s) =
    let x = quote_longest q u w t s in
    record { found = q ∷ x.found; rest = x.rest; read = rw (same_byte q, x.read) refl; no_longer = x.no_longer; same = λ e. (ap (λ (y : List ℕ). q ∷ y) (x.same e).0, (x.same e).1) }
quote_longest q _ w _ (other {a = a} {u = u} {t = t} is s) =
    let x = quote_longest q u w t s in
    let some : 0 < length (u ++ w) = omega (arith, length-append u w, quote_not_empty q u t s) in
    record { found = a ∷ x.found; rest = x.rest; read = other_step q a (u ++ w) some is ∙ (rw x.read refl); no_longer = x.no_longer; same = λ e. (ap (λ (y : List ℕ). a ∷ y) (x.same e).0, (x.same e).1) }

-- runs
run_stops : (p : ℕ → Bool) (v w : List ℕ) → list_all p v ≡ true → prefix_len p w ≡ 0 → prefix_len p (v ++ w) ≡ length v
run_stops p [] w all stops = stops
run_stops p (b ∷ v) w all stops = let x = both_true (p b) (list_all p v) all in rw (x.0, run_stops p v w x.1 stops) (omega arith)

run_at_least : (p : ℕ → Bool) (v w : List ℕ) → list_all p v ≡ true → length v ≤ prefix_len p (v ++ w)
run_at_least p [] w all = omega arith
run_at_least p (b ∷ v) w all =
    let x = both_true (p b) (list_all p v) all in
    let more : prefix_len p (b ∷ (v ++ w)) ≡ 1 + prefix_len p (v ++ w) = rw x.0 refl in
    omega (arith, run_at_least p v w x.1, more)

goes_stops : (w : List ℕ) → goes_on w ≡ false → prefix_len is_digit w ≡ 0
goes_stops [] e = refl
goes_stops (b ∷ w) e = rw (no_digit b e) refl where
  no_digit : (b : ℕ) → (is_word b || (b == 46)) ≡ false → is_digit b ≡ false
  no_digit b e = grind (arith, nat_tests)

small_value : (n : ℕ) → n < 2 ^ 63 → nat_lt n (2 ^ 63) ≡ true
small_value n h = grind (arith, nat_tests)

number_read : (v w : List ℕ) → list_all is_digit v ≡ true → digits_value 0 v < 2 ^ 63 → goes_on w ≡ false → number_at (v ++ w) ≡ Some (Constant (Int (pos (digits_value 0 v))), w)
number_read v w all small stops =
    rw (run_stops is_digit v w all (goes_stops w stops), drop-append_seam v w, stops, take-append_seam v w, small_value (digits_value 0 v) small) refl

-- what the first byte of a token isn't
pub record IsPlain (a : ℕ) : Type 0 where
  pub no_text : a == 39 ≡ false
  pub no_name : a == 34 ≡ false
  pub no_bracket : a == 91 ≡ false
  pub no_digit : is_digit a ≡ false
  pub no_word : is_word a ≡ false
  pub no_white : is_white a ≡ false

fails : (b : Bool) → (b ≡ true → ⊥) → b ≡ false
fails false no_proof = refl
fails true no_proof = absurd (no_proof refl)

no_symbol : (p : ℕ → Bool) (a : ℕ) → p a ≡ true → p 61 ≡ false → p 62 ≡ false → p 60 ≡ false → p 43 ≡ false → p 45 ≡ false → p 42 ≡ false → p 47 ≡ false → p 37 ≡ false → p 40 ≡ false → p 41 ≡ false → p 46 ≡ false → p 44 ≡ false → p 59 ≡ false → symbol_kind a ≡ None
no_symbol p a is e1 e2 e3 e4 e5 e6 e7 e8 e9 e10 e11 e12 e13 =
    rw (apart p a 61 is e1, apart p a 62 is e2, apart p a 60 is e3, apart p a 43 is e4, apart p a 45 is e5, apart p a 42 is e6, apart p a 47 is e7, apart p a 37 is e8, apart p a 40 is e9, apart p a 41 is e10, apart p a 46 is e11, apart p a 44 is e12, apart p a 59 is e13) refl

no_pair : (p : ℕ → Bool) (a b : ℕ) → p a ≡ true → p 60 ≡ false → p 33 ≡ false → p 62 ≡ false → pair_kind a b ≡ None
no_pair p a b is e1 e2 e3 = rw (apart p a 60 is e1, apart p a 33 is e2, apart p a 62 is e3) refl

pub symbol_plain : (a : ℕ) (k : Kind) → symbol_kind a ≡ Some k → IsPlain a
symbol_plain a k e = record {
  no_text = fails (a == 39) (λ is. let n = no_symbol (λ x. x == 39) a is refl refl refl refl refl refl refl refl refl refl refl refl refl in absurd cc);
  no_name = fails (a == 34) (λ is. let n = no_symbol (λ x. x == 34) a is refl refl refl refl refl refl refl refl refl refl refl refl refl in absurd cc);
  no_bracket = fails (a == 91) (λ is. let n = no_symbol (λ x. x == 91) a is refl refl refl refl refl refl refl refl refl refl refl refl refl in absurd cc);
  no_digit = fails (is_digit a) (λ is. let n = no_symbol is_digit a is refl refl refl refl refl refl refl refl refl refl refl refl refl in absurd cc);
  no_word = fails (is_word a) (λ is. let n = no_symbol is_word a is refl refl refl refl refl refl refl refl refl refl refl refl refl in absurd cc);
  no_white = fails (is_white a) (λ is. let n = no_symbol is_white a is refl refl refl refl refl refl refl refl refl refl refl refl refl in absurd cc);
}

pub pair_plain : (a b : ℕ) (k : Kind) → pair_kind a b ≡ Some k → IsPlain a
pair_plain a b k e = record {
  no_text = fails (a == 39) (λ is. let n = no_pair (λ x. x == 39) a b is refl refl refl in absurd cc);
  no_name = fails (a == 34) (λ is. let n = no_pair (λ x. x == 34) a b is refl refl refl in absurd cc);
  no_bracket = fails (a == 91) (λ is. let n = no_pair (λ x. x == 91) a b is refl refl refl in absurd cc);
  no_digit = fails (is_digit a) (λ is. let n = no_pair is_digit a b is refl refl refl in absurd cc);
  no_word = fails (is_word a) (λ is. let n = no_pair is_word a b is refl refl refl in absurd cc);
  no_white = fails (is_white a) (λ is. let n = no_pair is_white a b is refl refl refl in absurd cc);
}

-- a token that begins here, and the one that is read
pub record Longest (v w : List ℕ) (k : Kind) : Type 0 where
  pub kind : Kind
  pub rest : List ℕ
  pub read : token_at (v ++ w) ≡ Some (kind, rest)
  pub no_longer : length rest ≤ length w
  pub same : length rest ≡ length w → (kind ≡ k) × (rest ≡ w)

if_true : {A : Type 0} (c : Bool) (x y : A) → c ≡ true → (if c then x else y) ≡ x
if_true true x y e = refl
if_true false x y e = absurd cc

if_false : {A : Type 0} (c : Bool) (x y : A) → c ≡ false → (if c then x else y) ≡ y
if_false false x y e = refl
if_false true x y e = absurd cc

-- which kind of token is read by its first byte
numbers_read : (a : ℕ) (bytes : List ℕ) → is_digit a ≡ true → token_at (a ∷ bytes) ≡ number_at (a ∷ bytes)
numbers_read a bytes is =
    if_false (a == 39) _ _ (apart is_digit a 39 is refl) ∙ (if_false (a == 34) _ _ (apart is_digit a 34 is refl) ∙ (if_false (a == 91) _ _ (apart is_digit a 91 is refl) ∙ if_true (is_digit a) _ _ is))

words_read : (a : ℕ) (bytes : List ℕ) → is_digit a ≡ false → is_word a ≡ true → token_at (a ∷ bytes) ≡ word_at (a ∷ bytes)
words_read a bytes digit is =
    if_false (a == 39) _ _ (apart is_word a 39 is refl) ∙ (if_false (a == 34) _ _ (apart is_word a 34 is refl) ∙ (if_false (a == 91) _ _ (apart is_word a 91 is refl) ∙ (if_false (is_digit a) _ _ digit ∙ if_true (is_word a) _ _ is)))

symbols_read : (a : ℕ) (bytes : List ℕ) → IsPlain a → token_at (a ∷ bytes) ≡ symbol_at (a ∷ bytes)
symbols_read a bytes p =
    if_false (a == 39) _ _ p.no_text ∙ (if_false (a == 34) _ _ p.no_name ∙ (if_false (a == 91) _ _ p.no_bracket ∙ (if_false (is_digit a) _ _ p.no_digit ∙ if_false (is_word a) _ _ p.no_word)))

word_longest : (b : ℕ) (u w : List ℕ) → is_digit b ≡ false → list_all is_word (b ∷ u) ≡ true → Longest (b ∷ u) w (word_kind (b ∷ u))
word_longest b u w digit all =
    let is = (both_true (is_word b) (list_all is_word u) all).0 in
    let n : ℕ = prefix_len is_word (b ∷ (u ++ w)) in
    let long : length (b ∷ u) ≤ n = run_at_least is_word (b ∷ u) w all in
    let within : n ≤ length (b ∷ (u ++ w)) = prefix_len-le-length is_word (b ∷ (u ++ w)) in
    record {
      kind = word_kind (take n (b ∷ (u ++ w)));
      rest = drop n (b ∷ (u ++ w));
      read = words_read b (u ++ w) digit is;
      no_longer = omega (arith, length-drop n (b ∷ (u ++ w)), length-append u w);
      same = λ e. same n (omega (arith, length-drop n (b ∷ (u ++ w)), length-append u w));
    } where
      same : (n : ℕ) → n ≡ length (b ∷ u) → (word_kind (take n (b ∷ (u ++ w))) ≡ word_kind (b ∷ u)) × (drop n (b ∷ (u ++ w)) ≡ w)
      same n e = (rw e (ap word_kind (take-append_seam (b ∷ u) w)), rw e (drop-append_seam (b ∷ u) w))

single_longest : (a : ℕ) (w : List ℕ) (k : Kind) → symbol_kind a ≡ Some k → Longest (a ∷ []) w k
single_longest a [] k e =
    let p = symbol_plain a k e in
    record { kind = k; rest = []; read = symbols_read a [] p ∙ (rw e refl); no_longer = omega arith; same = λ s. (refl, refl) }
single_longest a (b ∷ w) k e = at (pair_kind a b) refl (symbol_plain a k e) where
  at : (o : Option Kind) → pair_kind a b ≡ o → IsPlain a → Longest (a ∷ []) (b ∷ w) k
  at None is p = record { kind = k; rest = b ∷ w; read = symbols_read a (b ∷ w) p ∙ (rw (is, e) refl); no_longer = omega arith; same = λ s. (refl, refl) }
  at (Some j) is p = record { kind = j; rest = w; read = symbols_read a (b ∷ w) p ∙ (rw is refl); no_longer = omega arith; same = λ s. absurd (omega arith) }

pub longest_is : (v w : List ℕ) (k : Kind) → IsToken v w k → Longest v w k
longest_is _ w _ (text {u = u} {t = t} s) =
    let x = quote_longest 39 u w t s in
    record { kind = Constant (Text x.found); rest = x.rest; read = rw x.read refl; no_longer = x.no_longer; same = λ e. (ap (λ (y : List ℕ). Constant (Text y)) (x.same e).0, (x.same e).1) }
longest_is _ w _ (name {u = u} {t = t} s) =
    let x = quote_longest 34 u w t s in
    record { kind = Name Plain x.found; rest = x.rest; read = rw x.read refl; no_longer = x.no_longer; same = λ e. (ap (λ (y : List ℕ). Name Plain y) (x.same e).0, (x.same e).1) }
longest_is _ w _ (bracketed {u = u} {t = t} s) =
    let x = quote_longest 93 u w t s in
    record { kind = Name Plain x.found; rest = x.rest; read = rw x.read refl; no_longer = x.no_longer; same = λ e. (ap (λ (y : List ℕ). Name Plain y) (x.same e).0, (x.same e).1) }
longest_is _ w _ (number {d = d} {ds = ds} all small stops) =
    let is = (both_true (is_digit d) (list_all is_digit ds) all).0 in
    record { kind = Constant (Int (pos (digits_value 0 (d ∷ ds)))); rest = w; read = numbers_read d (ds ++ w) is ∙ number_read (d ∷ ds) w all small stops; no_longer = omega arith; same = λ e. (refl, refl) }
longest_is _ w _ (word {b = b} {u = u} digit all) = word_longest b u w digit all
longest_is _ w k (pair {a = a} {b = b} e) =
    let p = pair_plain a b k e in
    record { kind = k; rest = w; read = symbols_read a (b ∷ w) p ∙ (rw e refl); no_longer = omega arith; same = λ s. (refl, refl) }
longest_is _ w k (single {a = a} e) = single_longest a w k e
