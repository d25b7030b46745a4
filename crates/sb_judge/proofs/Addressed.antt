-- Entities by their addresses: the first of each, and that it is the only one.
use Rattle.std.proofs.Common.{◌≡◌, ℕ, zero, suc, ◌+◌, ◌<◌, ◌≤◌, refl, sym, ap, ◌∙◌, Bool, true, false, ◌&&◌, ◌||◌, not, ◌==◌, List, [], ◌∷◌, ◌++◌, find, Option, Some, None, subst, arith}
use Rattle.std.proofs.lemmas.Bool.Decides.{nat_tests}
use Rattle.std.proofs.lemmas.Slice.Eq.{bytes_eq-Decides}
use Rattle.std.specs.Prelude.{bytes_eq}
use Rattle.std.specs.List.{list_all, list_any, slice_get}
use Rattle.sb_machine.specs.Each.{Each}
use Rattle.sb_machine.specs.Names.{is_same_option}
use Rattle.sb_machine.specs.declared.state.Entity.{Entity}
use Rattle.sb_judge.specs.Decided.{paths_verdict}
use Rattle.sb_judge.specs.Entities.{AreNumbered}
use Rattle.sb_judge.specs.Orders.{tested}
use Rattle.sb_judge.specs.Places.{first_place, has_number, hash_of, is_first, is_named, path_hash}

-- ---- texts

text_same : (a b : List ℕ) → bytes_eq a b ≡ true → a ≡ b
text_same a b e = (bytes_eq-Decides a b).0 e

text_self : (a : List ℕ) → bytes_eq a a ≡ true
text_self a = (bytes_eq-Decides a a).1 refl

option_same : (a b : Option (List ℕ)) → is_same_option a b ≡ true → a ≡ b
option_same None None e = refl
option_same (Some a) (Some b) e = ap (λ (t : List ℕ). Some t) (text_same a b e)
option_same None (Some b) e = let bad : false ≡ true = e in absurd cc
option_same (Some a) None e = let bad : false ≡ true = e in absurd cc

option_self : (a : Option (List ℕ)) → is_same_option a a ≡ true
option_self None = refl
option_self (Some a) = text_self a

first_true : (a b : Bool) → (a && b) ≡ true → a ≡ true
first_true true b e = refl
first_true false b e = let bad : false ≡ true = e in absurd cc

second_true : (a b : Bool) → (a && b) ≡ true → b ≡ true
second_true true b e = e
second_true false b e = let bad : false ≡ true = e in absurd cc

-- one of this address comes to its hash
same_hash : (name : List ℕ) (own : Option (List ℕ)) (e : Entity) → is_named name own e ≡ true → (hash_of e == path_hash name own) ≡ true
same_hash name own e is =
    let n : e.about.path.name ≡ name = text_same e.about.path.name name (first_true (bytes_eq e.about.path.name name) (is_same_option e.about.path.subscription own) is) in
    let o : e.about.path.subscription ≡ own = option_same e.about.path.subscription own (second_true (bytes_eq e.about.path.name name) (is_same_option e.about.path.subscription own) is) in
    let same : hash_of e ≡ path_hash name own = ap (λ t. path_hash t e.about.path.subscription) n ∙ ap (path_hash name) o in
    equal (hash_of e) (path_hash name own) same where
      equal : (m n : ℕ) → m ≡ n → (m == n) ≡ true
      equal m n e = grind (arith, nat_tests)

other_hash : (name : List ℕ) (own : Option (List ℕ)) (e : Entity) → (hash_of e == path_hash name own) ≡ false → is_named name own e ≡ false
other_hash name own e off = at (is_named name own e) refl where
  at : (b : Bool) → is_named name own e ≡ b → is_named name own e ≡ false
  at false is = is
  at true is = let bad : true ≡ false = sym (same_hash name own e is) ∙ off in absurd cc

-- ---- finding by the hash

pub found_nowhere : (name : List ℕ) (own : Option (List ℕ)) (from : ℕ) (es : List Entity) → first_place (path_hash name own) from es ≡ None → find (is_named name own) es ≡ None
found_nowhere name own from [] e = refl
found_nowhere name own from (x ∷ xs) e = at (hash_of x == path_hash name own) refl (found_nowhere name own (from + 1) xs) where
  at : (b : Bool) → (hash_of x == path_hash name own) ≡ b → (first_place (path_hash name own) (from + 1) xs ≡ None → find (is_named name own) xs ≡ None) → find (is_named name own) (x ∷ xs) ≡ None
  at true is ih = let bad : Some from ≡ None = rw is at e in absurd cc
  at false is ih = let rest : first_place (path_hash name own) (from + 1) xs ≡ None = rw is at e in rw (other_hash name own x is) (ih rest)

-- it stands at that place or behind it
no_earlier : (k from place : ℕ) (es : List Entity) → first_place k from es ≡ Some place → from ≤ place
no_earlier k from place [] e = absurd cc
no_earlier k from place (x ∷ xs) e = at (hash_of x == k) refl (no_earlier k (from + 1) place xs) where
  at : (b : Bool) → (hash_of x == k) ≡ b → (first_place k (from + 1) xs ≡ Some place → from + 1 ≤ place) → from ≤ place
  at true is ih = let here : Some from ≡ Some place = rw is at e in let same : from ≡ place = cc in omega (arith, same)
  at false is ih = let rest : first_place k (from + 1) xs ≡ Some place = rw is at e in omega (arith, ih rest)

there : (name : List ℕ) (own : Option (List ℕ)) (from n : ℕ) (es : List Entity) (x : Entity) → first_place (path_hash name own) from es ≡ Some (from + n) → tested (is_named name own) (slice_get es n) ≡ Some x → find (is_named name own) es ≡ Some x
there name own from n [] x e is = absurd cc
there name own from zero (y ∷ ys) x e is = at (is_named name own y) refl where
  at : (b : Bool) → is_named name own y ≡ b → find (is_named name own) (y ∷ ys) ≡ Some x
  at true on = let here : Some y ≡ Some x = rw on at is in rw on here
  at false on = let bad : None ≡ Some x = rw on at is in absurd cc
there name own from (suc n) (y ∷ ys) x e is = at (hash_of y == path_hash name own) refl (there name own (from + 1) n ys x) where
  at : (b : Bool) → (hash_of y == path_hash name own) ≡ b → (first_place (path_hash name own) (from + 1) ys ≡ Some (from + 1 + n) → tested (is_named name own) (slice_get ys n) ≡ Some x → find (is_named name own) ys ≡ Some x) → find (is_named name own) (y ∷ ys) ≡ Some x
  at true on ih = let here : Some from ≡ Some (from + suc n) = rw on at e in let bad : from ≡ from + suc n = cc in absurd (omega (arith, bad))
  at false on ih =
      let rest : first_place (path_hash name own) (from + 1) ys ≡ Some (from + suc n) = rw on at e in
      let place : from + suc n ≡ from + 1 + n = omega arith in
      rw (other_hash name own y on) (ih (rest ∙ ap (λ (m : ℕ). Some m) place) is)

pub found_there : (name : List ℕ) (own : Option (List ℕ)) (place : ℕ) (es : List Entity) (x : Entity) → first_place (path_hash name own) 0 es ≡ Some place → tested (is_named name own) (slice_get es place) ≡ Some x → find (is_named name own) es ≡ Some x
found_there name own place es x e is =
    let at : place ≡ 0 + place = omega arith in
    there name own 0 place es x (e ∙ ap (λ (m : ℕ). Some m) at) is

-- ---- each is the first of its address

abbrev same_as : Entity → Entity → Bool
same_as e x = is_named e.about.path.name e.about.path.subscription x

-- addresses name each other
same_back : (e x : Entity) → same_as e x ≡ same_as x e
same_back e x = at (same_as e x) refl (same_as x e) refl where
  turned : (a b : Entity) → same_as a b ≡ true → same_as b a ≡ true
  turned a b is =
      let n : b.about.path.name ≡ a.about.path.name = text_same b.about.path.name a.about.path.name (first_true (bytes_eq b.about.path.name a.about.path.name) (is_same_option b.about.path.subscription a.about.path.subscription) is) in
      let o : b.about.path.subscription ≡ a.about.path.subscription = option_same b.about.path.subscription a.about.path.subscription (second_true (bytes_eq b.about.path.name a.about.path.name) (is_same_option b.about.path.subscription a.about.path.subscription) is) in
      rw (n, o) (pair (bytes_eq a.about.path.name a.about.path.name) (is_same_option a.about.path.subscription a.about.path.subscription) (text_self a.about.path.name) (option_self a.about.path.subscription)) where
        pair : (p q : Bool) → p ≡ true → q ≡ true → (p && q) ≡ true
        pair p q one two = rw (one, two) refl

  at : (b : Bool) → same_as e x ≡ b → (c : Bool) → same_as x e ≡ c → same_as e x ≡ same_as x e
  at true p true q = p ∙ sym q
  at false p false q = p ∙ sym q
  at true p false q = let bad : true ≡ false = sym (turned e x p) ∙ q in absurd cc
  at false p true q = let bad : true ≡ false = sym (turned x e q) ∙ p in absurd cc

same_self : (e : Entity) → same_as e e ≡ true
same_self e = rw (text_self e.about.path.name) (option_self e.about.path.subscription)

-- none of those before is at its address
abbrev is_new : List Entity → Entity → Bool
is_new before e = not (list_any (same_as e) before)

abbrev are_new : List Entity → List Entity → Bool
are_new before [] = true
are_new before (e ∷ es) = is_new before e && are_new (before ++ e ∷ []) es

append_one : (xs : List Entity) (y : Entity) (zs : List Entity) → (xs ++ y ∷ []) ++ zs ≡ xs ++ y ∷ zs
append_one [] y zs = refl
append_one (x ∷ xs) y zs = ap (λ (l : List Entity). x ∷ l) (append_one xs y zs)

-- numbers below all that follow
lower_front : (xs : List Entity) (y : Entity) (zs : List Entity) → AreNumbered (xs ++ y ∷ zs) → Each (λ x. x.about.number < y.about.number) xs
lower_front [] y zs h = tt
lower_front (x ∷ xs) y zs h = (mid xs h.0, lower_front xs y zs h.1) where
  mid : (ws : List Entity) → Each (λ w. x.about.number < w.about.number) (ws ++ y ∷ zs) → x.about.number < y.about.number
  mid [] e = e.0
  mid (w ∷ ws) e = mid ws e.1

first_new : (before : List Entity) (e : Entity) (es : List Entity) → Each (λ x. x.about.number < e.about.number) before → has_number e.about.number (find (same_as e) (before ++ e ∷ es)) ≡ is_new before e
first_new [] e es h = rw (same_self e) (self e.about.number) where
  self : (n : ℕ) → (n == n) ≡ true
  self n = grind (arith, nat_tests)
first_new (x ∷ xs) e es h = at (same_as e x) refl (first_new xs e es h.1) where
  apart : (m n : ℕ) → m < n → (m == n) ≡ false
  apart m n lt = grind (arith, nat_tests)

  at : (b : Bool) → same_as e x ≡ b → has_number e.about.number (find (same_as e) (xs ++ e ∷ es)) ≡ is_new xs e → has_number e.about.number (find (same_as e) (x ∷ xs ++ e ∷ es)) ≡ is_new (x ∷ xs) e
  at true is ih = rw is (apart x.about.number e.about.number h.0)
  at false is ih = rw is ih

all_new : (before es : List Entity) → AreNumbered (before ++ es) → list_all (is_first (before ++ es)) es ≡ are_new before es
all_new before [] h = refl
all_new before (e ∷ es) h =
    let rest : list_all (is_first ((before ++ e ∷ []) ++ es)) es ≡ are_new (before ++ e ∷ []) es = all_new (before ++ e ∷ []) es (subst AreNumbered (sym (append_one before e es)) h) in
    let rest' : list_all (is_first (before ++ e ∷ es)) es ≡ are_new (before ++ e ∷ []) es = ap (λ l. list_all (is_first l) es) (sym (append_one before e es)) ∙ rest in
    ap (λ b. b && list_all (is_first (before ++ e ∷ es)) es) (first_new before e es (lower_front before e es h)) ∙ ap (λ b. is_new before e && b) rest'

-- none of the ones before is at the address of one of these
abbrev are_apart : List Entity → List Entity → Bool
are_apart before es = list_all (is_new before) es

any_push : (p : Entity → Bool) (xs : List Entity) (y : Entity) → list_any p (xs ++ y ∷ []) ≡ (list_any p xs || p y)
any_push p [] y = or_none (p y) where
  or_none : (a : Bool) → (a || false) ≡ a
  or_none true = refl
  or_none false = refl
any_push p (x ∷ xs) y = ap (λ b. p x || b) (any_push p xs y) ∙ regroup (p x) (list_any p xs) (p y) where
  regroup : (a b c : Bool) → (a || (b || c)) ≡ ((a || b) || c)
  regroup true b c = refl
  regroup false b c = refl

apart_push : (before : List Entity) (e : Entity) (es : List Entity) → are_apart (before ++ e ∷ []) es ≡ (are_apart before es && list_all (λ x. not (same_as e x)) es)
apart_push before e [] = refl
apart_push before e (x ∷ xs) =
    ap (λ b. not b && are_apart (before ++ e ∷ []) xs) (any_push (same_as x) before e)
    ∙ ap (λ b. not (list_any (same_as x) before || same_as x e) && b) (apart_push before e xs)
    ∙ ap (λ b. not (list_any (same_as x) before || b) && (are_apart before xs && list_all (λ y. not (same_as e y)) xs)) (same_back x e)
    ∙ shuffle (list_any (same_as x) before) (same_as e x) (are_apart before xs) (list_all (λ y. not (same_as e y)) xs) where
      shuffle : (a b c d : Bool) → (not (a || b) && (c && d)) ≡ ((not a && c) && (not b && d))
      shuffle true b true d = refl
      shuffle true b false d = refl
      shuffle false true true d = refl
      shuffle false true false d = refl
      shuffle false false true d = refl
      shuffle false false false d = refl

abbrev pairwise : List Entity → Bool
pairwise [] = true
pairwise (e ∷ es) = list_all (λ x. not (same_as e x)) es && pairwise es

new_all : (before es : List Entity) → are_new before es ≡ (are_apart before es && pairwise es)
new_all before [] = refl
new_all before (e ∷ es) =
    ap (λ b. is_new before e && b) (new_all (before ++ e ∷ []) es)
    ∙ ap (λ b. is_new before e && (b && pairwise es)) (apart_push before e es)
    ∙ group (is_new before e) (are_apart before es) (list_all (λ x. not (same_as e x)) es) (pairwise es) where
      group : (a b c d : Bool) → (a && ((b && c) && d)) ≡ ((a && b) && (c && d))
      group true true c d = refl
      group true false c d = refl
      group false b c d = refl

apart_none : (es : List Entity) → are_apart [] es ≡ true
apart_none [] = refl
apart_none (e ∷ es) = apart_none es

paths_are : (es : List Entity) → pairwise es ≡ (paths_verdict es).0
paths_are [] = refl
paths_are (e ∷ es) = ap (λ b. list_all (λ x. not (same_as e x)) es && b) (paths_are es)

pub all_first : (es : List Entity) → AreNumbered es → list_all (is_first es) es ≡ (paths_verdict es).0
all_first es h = all_new [] es h ∙ new_all [] es ∙ ap (λ b. b && pairwise es) (apart_none es) ∙ paths_are es
