-- What holds of each of a list.
use Rattle.std.proofs.Common.{◌≡◌, ◌<◌, ◌≤◌, ◌+◌, ◌*◌, ℕ, zero, suc, List, [], ◌∷◌, ◌++◌, map, take, get_or, length, length-append, append_assoc, refl, ap, subst, sym, ◌∙◌, arith}
use Rattle.std.specs.List.{All, AllByRecursion, flat_map}
use Rattle.std.proofs.lemmas.List.{append-nil, length-map, get_or-map, take_more}
use Rattle.std.proofs.lemmas.Grind.{flat_map-append}
use Rattle.std.proofs.lemmas.List.Elements.{All-nil, All-cons, All-head, All-tail, All-append, All-from_recursion}
use Rattle.sb_machine.specs.declared.state.Entity.{Entity}
use Rattle.sb_snapshot.specs.Base.{leaves_in}

-- of each, where it holds of what f makes of it
pub all_before : {X Y : Type 0} (P : Y → Type 0) (f : X → Y) (xs : List X) → All P (map f xs) → All (λ x. P (f x)) xs
all_before P f xs all i d lt = subst P (get_or-map f xs i d (f d) lt) (all i (f d) (subst (λ (n : ℕ). i < n) (sym (length-map xs f)) lt))

-- of those in front, and of those behind them
pub all_front : {X : Type 0} (P : X → Type 0) (xs ys : List X) → All P (xs ++ ys) → All P xs
all_front P [] ys all = All-nil P
all_front P (x ∷ xs) ys all = All-cons P x xs (All-head P x (xs ++ ys) all) (all_front P xs ys (All-tail P x (xs ++ ys) all))

pub all_behind : {X : Type 0} (P : X → Type 0) (xs ys : List X) → All P (xs ++ ys) → All P ys
all_behind P [] ys all = all
all_behind P (x ∷ xs) ys all = all_behind P xs ys (All-tail P x (xs ++ ys) all)

-- of all that f makes of each
pub all_within : {X Y : Type 0} (P : Y → Type 0) (f : X → List Y) (xs : List X) → All P (flat_map f xs) → All (λ x. All P (f x)) xs
all_within P f [] all = All-nil (λ x. All P (f x))
all_within P f (x ∷ xs) all = All-cons (λ x. All P (f x)) x xs (all_front P (f x) (flat_map f xs) all) (all_within P f xs (all_behind P (f x) (flat_map f xs) all))

-- and the same the other way round
pub all_joined : {X Y : Type 0} (P : Y → Type 0) (f : X → List Y) (xs : List X) → All (λ x. All P (f x)) xs → All P (flat_map f xs)
all_joined P f [] all = All-nil P
all_joined P f (x ∷ xs) all = All-append P (f x) (flat_map f xs) (All-head (λ x. All P (f x)) x xs all) (all_joined P f xs (All-tail (λ x. All P (f x)) x xs all))

-- of all that a loop has passed, at its end
all_taken : {X : Type 0} (P : X → Type 0) (xs : List X) (i : ℕ) → length xs ≤ i → AllByRecursion P (take i xs) → AllByRecursion P xs
all_taken P [] i le all = tt
all_taken P (x ∷ xs) zero le all = absurd (omega arith)
all_taken P (x ∷ xs) (suc i) le all = let below : length xs ≤ i = omega arith in (all.0, all_taken P xs i below all.1)

pub all_at_end : {X : Type 0} (P : X → Type 0) (xs : List X) (i : ℕ) → length xs ≤ i → AllByRecursion P (take i xs) → All P xs
all_at_end P xs i le all = All-from_recursion P xs (all_taken P xs i le all)

-- and of one more
all_with : {X : Type 0} (P : X → Type 0) (xs : List X) (x : X) → AllByRecursion P xs → P x → AllByRecursion P (xs ++ x ∷ [])
all_with P [] x all one = (one, tt)
all_with P (y ∷ xs) x all one = (all.0, all_with P xs x all.1 one)

pub all_next : {X : Type 0} (P : X → Type 0) (xs : List X) (i : ℕ) (d : X) → i < length xs → AllByRecursion P (take i xs) → P (get_or xs i d) → AllByRecursion P (take (i + 1) xs)
all_next P xs i d lt all one = subst (AllByRecursion P) (sym (take_more xs i d lt)) (all_with P (take i xs) (get_or xs i d) all one)

-- what s spells of what f makes of one more
last_spelled : {X Y A : Type 0} (s : A → List ℕ) (f : Y → List A) (v : X → Y) (xs : List X) (x : X) → flat_map s (flat_map f (map v xs)) ++ flat_map s (f (v x)) ≡ flat_map s (flat_map f (map v (xs ++ x ∷ [])))
last_spelled s f v [] x = ap (flat_map s) (sym (append-nil (f (v x))))
last_spelled s f v (y ∷ xs) x =
    let here = flat_map s (f (v y)) in
    ap (λ (z : List ℕ). z ++ flat_map s (f (v x))) (flat_map-append s (f (v y)) (flat_map f (map v xs))) ∙ append_assoc here (flat_map s (flat_map f (map v xs))) (flat_map s (f (v x)))
    ∙ ap (λ (z : List ℕ). here ++ z) (last_spelled s f v xs x) ∙ sym (flat_map-append s (f (v y)) (flat_map f (map v (xs ++ x ∷ []))))

pub next_spelled : {X Y A : Type 0} (s : A → List ℕ) (f : Y → List A) (v : X → Y) (xs : List X) (i : ℕ) (d : X) → i < length xs
    → flat_map s (flat_map f (map v (take i xs))) ++ flat_map s (f (v (get_or xs i d))) ≡ flat_map s (flat_map f (map v (take (i + 1) xs)))
next_spelled {X} s f v xs i d lt = last_spelled s f v (take i xs) (get_or xs i d) ∙ ap (λ (ys : List X). flat_map s (flat_map f (map v ys))) (sym (take_more xs i d lt))

-- ---- how many there are

pub few_made : {X Y : Type 0} (f : X → Y) (xs : List X) (n : ℕ) → length xs < n → length (map f xs) < n
few_made f xs n few = subst (λ (k : ℕ). k < n) (sym (length-map xs f)) few

pub three_each : (es : List Entity) → length (flat_map leaves_in es) ≡ length es * 3
three_each [] = refl
three_each (e ∷ es) = let h = three_each es in let l = length-append (leaves_in e) (flat_map leaves_in es) in omega (arith, h, l)
