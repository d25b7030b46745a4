-- Texts between quotes, quote by quote.
use Rattle.std.proofs.Common.{◌≡◌, ◌+◌, ℕ, ◌<◌, List, [], ◌∷◌, ◌++◌, length, Option, Some, None, refl, sym, ◌∙◌, append_assoc, append-nil, one-add, arith, Bool, true, false}
use Rattle.std.specs.Prelude.{◌==◌, ◌||◌, not, if◌then◌else◌, IfSome, IfNone, MatchOption}
use Rattle.std.specs.Borrow.{Bor}
use Rattle.std.specs.List.{list_any, position_or_len, before_first, after_first}
use Rattle.std.proofs.lemmas.Bool.Decides.{nat_tests}
use Rattle.sb_model.specs.TokenBytes.{with_front, or_else, quoted, ends_here}

abbrev is_quote : ℕ → ℕ → Bool
is_quote q = λ b. b == q

both_false : (x y : Bool) → (x || y) ≡ false → (x ≡ false) × (y ≡ false)
both_false false y e = (refl, e)
both_false true y e = absurd cc

same_quote : (q : ℕ) → q == q ≡ true
same_quote q = grind (arith, nat_tests)

-- what split_once says, as tests on each byte
none_before : (p : ℕ → Bool) (xs : List ℕ) → list_any p (before_first p xs) ≡ false
none_before p [] = refl
none_before p (x ∷ xs) = at (p x) refl (none_before p xs) where
  at : (b : Bool) → p x ≡ b → list_any p (before_first p xs) ≡ false → list_any p (before_first p (x ∷ xs)) ≡ false
  at true is ih = rw is refl
  at false is ih = rw (is, one-add, is) ih

none_found : (p : ℕ → Bool) (xs : List ℕ) → position_or_len p xs ≡ length xs → list_any p xs ≡ false
none_found p [] e = refl
none_found p (x ∷ xs) e = at (p x) refl e (none_found p xs) where
  at : (b : Bool) → p x ≡ b → position_or_len p (x ∷ xs) ≡ length (x ∷ xs) → (position_or_len p xs ≡ length xs → list_any p xs ≡ false) → list_any p (x ∷ xs) ≡ false
  at true is e ih = let zero_is : 0 ≡ length (x ∷ xs) = rw is at e in absurd (omega arith)
  at false is e ih = let more : 1 + position_or_len p xs ≡ length (x ∷ xs) = rw is at e in rw is (ih (omega arith))

abbrev Splits : ℕ → List ℕ → Option (Bor (List ℕ) × Bor (List ℕ)) → Type 0
Splits q bs r = MatchOption r (position_or_len (λ b. b == q) bs ≡ length bs) (λ x. (position_or_len (λ b. b == q) bs < length bs) × (x.0.now ≡ before_first (λ b. b == q) bs) × (x.1.now ≡ after_first (λ b. b == q) bs))

pub split_before : (q : ℕ) (bs : List ℕ) (r : Option (Bor (List ℕ) × Bor (List ℕ))) → Splits q bs r → IfSome r (λ x. list_any (λ b. b == q) x.0.now ≡ false)
split_before q bs None s = tt
split_before q bs (Some x) s = rw s.1 (none_before (is_quote q) bs)

pub split_none : (q : ℕ) (bs : List ℕ) (r : Option (Bor (List ℕ) × Bor (List ℕ))) → Splits q bs r → IfNone r (list_any (λ b. b == q) bs ≡ false)
split_none q bs None s = none_found (is_quote q) bs s
split_none q bs (Some x) s = tt

-- fronts
no_front : (r : Option (List ℕ × List ℕ)) → with_front [] r ≡ r
no_front None = refl
no_front (Some x) = refl

front_front : (a b : List ℕ) (r : Option (List ℕ × List ℕ)) → with_front a (with_front b r) ≡ with_front (a ++ b) r
front_front a b None = refl
front_front a b (Some x) = rw append_assoc refl

-- what stands before the first quote
plain_front : (q : ℕ) (before after : List ℕ) → list_any (is_quote q) before ≡ false → quoted q (before ++ q ∷ after) ≡ with_front before (quoted q (q ∷ after))
plain_front q [] after free = sym (no_front (quoted q (q ∷ after)))
plain_front q (a ∷ []) after free = rw ((both_false (a == q) false free).0) refl
plain_front q (a ∷ b ∷ before) after free =
    let x = both_false (a == q) (list_any (is_quote q) (b ∷ before)) free in
    rw (x.0, plain_front q (b ∷ before) after x.1) (front_front (a ∷ []) (b ∷ before) (quoted q (q ∷ after)))

-- where no quote stands, none closes the text
pub unclosed : (q : ℕ) (rest : List ℕ) → list_any (is_quote q) rest ≡ false → quoted q rest ≡ None
unclosed q [] free = refl
unclosed q (a ∷ []) free = rw ((both_false (a == q) false free).0) refl
unclosed q (a ∷ b ∷ rest) free =
    let x = both_false (a == q) (list_any (is_quote q) (b ∷ rest)) free in
    rw (x.0, unclosed q (b ∷ rest) x.1) refl

or_some : {A : Type 0} (o : Option A) (x : A) → (y : A) × (or_else o (Some x) ≡ Some y)
or_some None x = (x, refl)
or_some (Some y) x = (y, refl)

closed : (q : ℕ) (rest : List ℕ) → list_any (is_quote q) rest ≡ true → (x : List ℕ × List ℕ) × (quoted q rest ≡ Some x)
closed q [] any = absurd cc
closed q (a ∷ []) any = at (a == q) refl any where
  at : (e : Bool) → a == q ≡ e → (e || false) ≡ true → (x : List ℕ × List ℕ) × (quoted q (a ∷ []) ≡ Some x)
  at true is any = (([], []), rw is refl)
  at false is any = absurd cc
closed q (a ∷ b ∷ rest) any = at (a == q) refl any (closed q (b ∷ rest)) where
  quote : (e : Bool) → a == q ≡ true → b == q ≡ e → (x : List ℕ × List ℕ) × (quoted q (a ∷ b ∷ rest) ≡ Some x)
  quote true one two = let o = or_some (with_front (a ∷ []) (quoted q rest)) ([], b ∷ rest) in (o.0, rw (one, two) o.1)
  quote false one two = (([], b ∷ rest), rw (one, two) refl)

  at : (e : Bool) → a == q ≡ e → (e || list_any (is_quote q) (b ∷ rest)) ≡ true → (list_any (is_quote q) (b ∷ rest) ≡ true → (x : List ℕ × List ℕ) × (quoted q (b ∷ rest) ≡ Some x)) → (x : List ℕ × List ℕ) × (quoted q (a ∷ b ∷ rest) ≡ Some x)
  at true is any ih = quote (b == q) is refl
  at false is any ih = let x = ih any in ((a ∷ x.0.0, x.0.1), rw (is, x.1) refl)

-- at a quote
ended : (q : ℕ) (after : List ℕ) → ends_here q after ≡ true → quoted q (q ∷ after) ≡ Some ([], after)
ended q [] e = rw (same_quote q) refl
ended q (b ∷ rest) e = at (b == q) refl e where
  last : (any : Bool) → list_any (is_quote q) rest ≡ any → b == q ≡ true → not any ≡ true → quoted q (q ∷ b ∷ rest) ≡ Some ([], b ∷ rest)
  last true has is e = absurd cc
  last false has is e = rw (same_quote q, is, unclosed q rest has) refl

  at : (two : Bool) → b == q ≡ two → (if two then not (list_any (λ c. c == q) rest) else true) ≡ true → quoted q (q ∷ b ∷ rest) ≡ Some ([], b ∷ rest)
  at true is e = last (list_any (is_quote q) rest) refl is e
  at false is e = rw (same_quote q, is) refl

goes_on : (q : ℕ) (onward : List ℕ) → list_any (is_quote q) onward ≡ true → quoted q (q ∷ q ∷ onward) ≡ with_front (q ∷ []) (quoted q onward)
goes_on q onward any = let x = closed q onward any in rw (same_quote q, x.1) refl

-- the two ways out of the loop, and the way on
pub nothing_left : (q : ℕ) (front rest text : List ℕ) → list_any (λ b. b == q) rest ≡ false → with_front front (quoted q rest) ≡ quoted q text → None ≡ quoted q text
nothing_left q front rest text free so_far = rw (unclosed q rest free) at so_far

pub text_ends : (q : ℕ) (front rest before after text made : List ℕ) → rest ≡ before ++ q ∷ after → list_any (λ b. b == q) before ≡ false → ends_here q after ≡ true → made ≡ front ++ before → with_front front (quoted q rest) ≡ quoted q text → Some (made, after) ≡ quoted q text
text_ends q front rest before after text made is free ends made_is so_far =
    let now : with_front front (with_front before (Some ([], after))) ≡ quoted q text = rw (is, plain_front q before after free, ended q after ends) at so_far in
    rw made_is (rw append-nil at now)

pub text_goes_on : (q : ℕ) (front rest before after onward text made : List ℕ) → rest ≡ before ++ q ∷ after → list_any (λ b. b == q) before ≡ false → after ≡ q ∷ onward → list_any (λ b. b == q) onward ≡ true → made ≡ (front ++ before) ++ q ∷ [] → with_front front (quoted q rest) ≡ quoted q text → with_front made (quoted q onward) ≡ quoted q text
text_goes_on q front rest before after onward text made is free two any made_is so_far =
    let now : with_front front (with_front before (with_front (q ∷ []) (quoted q onward))) ≡ quoted q text = rw (is, two, plain_front q before (q ∷ onward) free, goes_on q onward any) at so_far in
    rw made_is (sym (front_front (front ++ before) (q ∷ []) (quoted q onward)) ∙ (sym (front_front front before (with_front (q ∷ []) (quoted q onward))) ∙ now))
