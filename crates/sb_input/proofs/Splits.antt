-- Lines out of bytes that come in pieces.
use Rattle.std.proofs.Common.{◌≡◌, ◌≢◌, ℕ, suc, ◌+◌, ◌<◌, ◌≤◌, ◌==◌, List, [], ◌∷◌, ◌++◌, length, take, drop, Bool, true, false, Option, Some, None, position, refl, one-add, sym, ◌∙◌, ap, subst, arith, cond, not, nat_lt, append_assoc}
use Rattle.std.proofs.lemmas.List.{take_all}
use Rattle.std.proofs.lemmas.Bool.{eqb-true}
use Rattle.std.proofs.lemmas.Bool.Decides.{nat_tests}
use Rattle.std.specs.List.{position_or_len}
use Rattle.sb_outside.specs.Streams.{Consumes, Ends, Stays}
use Rattle.sb_input.specs.Lines.{onto_first, lines_of, NoFeed}
use Rattle.sb_input.specs.Taking.{Took, HasEnded}

pub lines_of-feed : (front rest : List ℕ) → NoFeed front → lines_of (front ++ 10 ∷ rest) ≡ front ∷ lines_of rest
lines_of-feed [] rest none = refl
lines_of-feed (b ∷ bs) rest none =
    ap (λ (t : Bool). cond t ([] ∷ lines_of (bs ++ 10 ∷ rest)) (onto_first b (lines_of (bs ++ 10 ∷ rest)))) none.0
    ∙ ap (onto_first b) (lines_of-feed bs rest none.1)

pub lines_of-last : (front : List ℕ) → NoFeed front → front ≢ [] → lines_of front ≡ front ∷ []
lines_of-last [] none some = absurd (some refl)
lines_of-last (b ∷ []) none some = ap (λ (t : Bool). cond t ([] ∷ []) ((b ∷ []) ∷ [])) none.0
lines_of-last (b ∷ (c ∷ front)) none some =
    ap (λ (t : Bool). cond t ([] ∷ lines_of (c ∷ front)) (onto_first b (lines_of (c ∷ front)))) none.0
    ∙ ap (onto_first b) (lines_of-last (c ∷ front) none.1 (λ e. absurd cc))

abbrev feed_place : List ℕ → ℕ
feed_place xs = position_or_len (λ b. b == 10) xs

before_step : (x : ℕ) (xs : List ℕ) (n : ℕ) (t : Bool) → (x == 10) ≡ t → NoFeed (take n xs) → NoFeed (take (cond (not t) (1 + n) 0) (x ∷ xs))
before_step x xs n true is rest = tt
before_step x xs n false is rest = rw (one-add) (is, rest)

no-feed-before : (xs : List ℕ) → NoFeed (take (feed_place xs) xs)
no-feed-before [] = tt
no-feed-before (x ∷ xs) = before_step x xs (feed_place xs) (x == 10) refl (no-feed-before xs)

split_step : (x : ℕ) (xs : List ℕ) (n : ℕ) (t : Bool) → (x == 10) ≡ t → (n < length xs → xs ≡ take n xs ++ 10 ∷ drop (suc n) xs) → cond (not t) (1 + n) 0 < suc (length xs)
    → x ∷ xs ≡ take (cond (not t) (1 + n) 0) (x ∷ xs) ++ 10 ∷ drop (suc (cond (not t) (1 + n) 0)) (x ∷ xs)
split_step x xs n true is rest here = ap (λ (b : ℕ). b ∷ xs) (eqb-true x 10 is)
split_step x xs n false is rest here = rw (one-add) (ap (λ (l : List ℕ). x ∷ l) (rest (omega (arith, here))))

split-at : (xs : List ℕ) → feed_place xs < length xs → xs ≡ take (feed_place xs) xs ++ 10 ∷ drop (suc (feed_place xs)) xs
split-at [] here = absurd (omega arith)
split-at (x ∷ xs) here = split_step x xs (feed_place xs) (x == 10) refl (split-at xs) here

found_there : (n m k : ℕ) → cond (nat_lt n m) (Some n) None ≡ Some k → (n < m) × (n ≡ k)
found_there n m k found = grind (arith, nat_tests)

nowhere : (n m : ℕ) → cond (nat_lt n m) (Some n) None ≡ None → m ≤ n
nowhere n m found = grind (arith, nat_tests)

-- the front before the first line feed has none, and a line feed stands there
pub position-split : (xs : List ℕ) (k : ℕ) → position (λ b. b == 10) xs ≡ Some k → NoFeed (take k xs) × (xs ≡ take k xs ++ 10 ∷ drop (suc k) xs)
position-split xs k found =
    let there = found_there (feed_place xs) (length xs) k found in
    subst (λ n. NoFeed (take n xs) × (xs ≡ take n xs ++ 10 ∷ drop (suc n) xs)) there.1 (no-feed-before xs, split-at xs there.0)

pub position-within : (xs : List ℕ) (k : ℕ) → position (λ b. b == 10) xs ≡ Some k → k < length xs
position-within xs k found = let there = found_there (feed_place xs) (length xs) k found in omega (arith, there.0, there.1)

-- where none is found there is none
pub position-none : (xs : List ℕ) → position (λ b. b == 10) xs ≡ None → NoFeed xs
position-none xs found = subst NoFeed (take_all (feed_place xs) xs (nowhere (feed_place xs) (length xs) found)) (no-feed-before xs)

pub NoFeed-append : (xs ys : List ℕ) → NoFeed xs → NoFeed ys → NoFeed (xs ++ ys)
NoFeed-append [] ys first second = second
NoFeed-append (x ∷ xs) ys first second = (first.0, NoFeed-append xs ys first.1 second)

pub ended_of : (before after : Option (List ℕ)) (n room : ℕ) (into : List ℕ) → Consumes before after n into → Ends before n room → 1 ≤ room → n ≡ 0 → HasEnded before after
ended_of None after n room into consumes ends some none = tt
ended_of (Some before) after n room into consumes ends some none = consumes.0 ∙ ap (λ k. Some (drop k before)) none ∙ ap Some (ends none some)

pub took-none : (a : Option (List ℕ)) → Took a a []
took-none None = tt
took-none (Some before) = (before, refl, refl)

pub stays_took : (a b : Option (List ℕ)) → Stays a b → Took a b []
stays_took None b stays = tt
stays_took (Some before) b stays = (before, refl, stays)

pub took-took : (a b c : Option (List ℕ)) (x y : List ℕ) → Took a b x → Took b c y → Took a c (x ++ y)
took-took None b c x y first second = tt
took-took (Some before) b c x y first second =
    let then_on : Took (Some first.0) c y = subst (λ (o : Option (List ℕ)). Took o c y) first.2 second in
    (then_on.0, first.1 ∙ ap (λ (l : List ℕ). x ++ l) then_on.1 ∙ sym (append_assoc x y then_on.0), then_on.2)

pub took-ended : (a b c : Option (List ℕ)) (x : List ℕ) → Took a b x → HasEnded b c → HasEnded a c
took-ended None b c x first ended = tt
took-ended (Some before) b c x first ended = let on : HasEnded (Some first.0) c = subst (λ (o : Option (List ℕ)). HasEnded o c) first.2 ended in on
