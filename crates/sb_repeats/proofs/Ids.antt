-- Accepted ids in order: the place of one among them.
use Rattle.std.proofs.Common.{◌≡◌, ℕ, refl, Bool, true, false, ◌&&◌, ◌||◌, ◌==◌, List, [], ◌∷◌, nat_lt, filter, arith}
use Rattle.std.proofs.lemmas.Bool.Decides.{nat_tests}
use Rattle.std.specs.Prelude.{bytes_eq}
use Rattle.std.specs.List.{list_any, prefix_len, slice_get}
use Rattle.std.specs.List.Sorted.{IsPartitionedBy}
use Rattle.sb_machine.specs.Changes.{is_earlier, is_known, is_recent}
use Rattle.sb_machine.specs.Each.{Each, IsSorted}
use Rattle.sb_machine.specs.Keyed.{with_sorted}
use Rattle.sb_machine.specs.Names.{is_before}
use Rattle.sb_machine.specs.declared.state.AcceptedId.{AcceptedId}
use Rattle.sb_repeats.specs.Windows.{comes_first, is_one, is_one_in}
use Rattle.sb_repeats.proofs.Bisecting.{before_differs, before_later, before_other, behind_differs, each_implied, parted, prefix_off, prefix_on, sorted_with}

-- ---- by moment, then id

pub and_false : (b : Bool) → (b && false) ≡ false
and_false true = refl
and_false false = refl

earlier_later : (m1 m2 m3 : ℕ) (b12 b23 b13 : Bool) → (nat_lt m1 m2 || ((m1 == m2) && b12)) ≡ true → (nat_lt m2 m3 || ((m2 == m3) && b23)) ≡ true → (b12 ≡ true → b23 ≡ true → b13 ≡ true) → (nat_lt m1 m3 || ((m1 == m3) && b13)) ≡ true
earlier_later m1 m2 m3 true true b13 p q r = let is = r refl refl in rw is (grind (arith, nat_tests))
earlier_later m1 m2 m3 true false b13 p q r = let lt : nat_lt m1 m3 ≡ true = grind (arith, nat_tests) in rw lt refl
earlier_later m1 m2 m3 false true b13 p q r = let lt : nat_lt m1 m3 ≡ true = grind (arith, nat_tests) in rw lt refl
earlier_later m1 m2 m3 false false b13 p q r = let lt : nat_lt m1 m3 ≡ true = grind (arith, nat_tests) in rw lt refl

pub first_later : (a b c : AcceptedId) → comes_first a b ≡ true → comes_first b c ≡ true → comes_first a c ≡ true
first_later a b c p q = earlier_later a.moment b.moment c.moment (is_before a.id b.id) (is_before b.id c.id) (is_before a.id c.id) p q (λ x y. before_later a.id b.id c.id x y)

abbrev pub one : ℕ → List ℕ → AcceptedId
one moment id = record { moment = moment; id = id }

pub ids_parted : (m : ℕ) (id : List ℕ) (ids : List AcceptedId) → IsSorted comes_first ids → IsPartitionedBy (is_earlier m id) ids
ids_parted m id ids sorted = parted comes_first (is_earlier m id) (λ x y p q. first_later x y (one m id) p q) ids sorted

not_one : (n m : ℕ) (b c : Bool) → (nat_lt n m || ((n == m) && b)) ≡ true → (b ≡ true → c ≡ false) → ((n == m) && c) ≡ false
not_one n m true true e f = let off = f refl in absurd cc
not_one n m true false e f = and_false (n == m)
not_one n m false true e f = grind (arith, nat_tests)
not_one n m false false e f = and_false (n == m)

not_one_behind : (n m : ℕ) (b c : Bool) → (nat_lt m n || ((m == n) && b)) ≡ true → (b ≡ true → c ≡ false) → ((n == m) && c) ≡ false
not_one_behind n m true true e f = let off = f refl in absurd cc
not_one_behind n m true false e f = and_false (n == m)
not_one_behind n m false true e f = grind (arith, nat_tests)
not_one_behind n m false false e f = and_false (n == m)

one_after : (n m : ℕ) (b c d : Bool) → (nat_lt n m || ((n == m) && b)) ≡ false → ((n == m) && c) ≡ false → (b ≡ false → c ≡ false → d ≡ true) → (nat_lt m n || ((m == n) && d)) ≡ true
one_after n m true c d e f g = let lt : nat_lt m n ≡ true = grind (arith, nat_tests) in rw lt refl
one_after n m false true d e f g = let lt : nat_lt m n ≡ true = grind (arith, nat_tests) in rw lt refl
one_after n m false false d e f g = let is = g refl refl in rw is (grind (arith, nat_tests))

earlier_differs : (m : ℕ) (id : List ℕ) (a : AcceptedId) → is_earlier m id a ≡ true → is_one m id a ≡ false
earlier_differs m id a e = not_one a.moment m (is_before a.id id) (bytes_eq a.id id) e (before_differs a.id id)

later_differs : (m : ℕ) (id : List ℕ) (a : AcceptedId) → comes_first (one m id) a ≡ true → is_one m id a ≡ false
later_differs m id a e = not_one_behind a.moment m (is_before id a.id) (bytes_eq a.id id) e (behind_differs a.id id)

other_later : (m : ℕ) (id : List ℕ) (a : AcceptedId) → is_earlier m id a ≡ false → is_one m id a ≡ false → comes_first (one m id) a ≡ true
other_later m id a e f = one_after a.moment m (is_before a.id id) (bytes_eq a.id id) (is_before id a.id) e f (before_other a.id id)

-- ---- whether one is there

none_behind : (m : ℕ) (id : List ℕ) (ids : List AcceptedId) → Each (λ a. comes_first (one m id) a ≡ true) ids → list_any (is_one m id) ids ≡ false
none_behind m id [] behind = refl
none_behind m id (x ∷ xs) behind = rw (later_differs m id x behind.0) (none_behind m id xs behind.1)

pub stands_at : (m : ℕ) (id : List ℕ) (ids : List AcceptedId) → IsSorted comes_first ids → list_any (is_one m id) ids ≡ is_one_in m id (slice_get ids (prefix_len (is_earlier m id) ids))
stands_at m id [] sorted = refl
stands_at m id (x ∷ xs) sorted = at (is_earlier m id x) refl (stands_at m id xs sorted.1) where
  here : (c : Bool) → is_one m id x ≡ c → is_earlier m id x ≡ false → (is_one m id x || list_any (is_one m id) xs) ≡ is_one m id x
  here true same off = rw same refl
  here false same off = rw same (none_behind m id xs (each_implied (λ a. comes_first x a ≡ true) (λ a. comes_first (one m id) a ≡ true) (λ a behind. first_later (one m id) x a (other_later m id x off same) behind) xs sorted.0))

  at : (b : Bool) → is_earlier m id x ≡ b → list_any (is_one m id) xs ≡ is_one_in m id (slice_get xs (prefix_len (is_earlier m id) xs)) → list_any (is_one m id) (x ∷ xs) ≡ is_one_in m id (slice_get (x ∷ xs) (prefix_len (is_earlier m id) (x ∷ xs)))
  at true is ih = rw (prefix_on (is_earlier m id) x xs is, earlier_differs m id x is) ih
  at false is ih = rw (prefix_off (is_earlier m id) x xs is) (here (is_one m id x) refl is)

-- ---- those that stay, and one more

each_filter : {X : Type 0} (P : X → Type 0) (p : X → Bool) (xs : List X) → Each P xs → Each P (filter p xs)
each_filter P p [] h = tt
each_filter P p (x ∷ xs) h = at (p x) refl (each_filter P p xs h.1) where
  at : (b : Bool) → p x ≡ b → Each P (filter p xs) → Each P (filter p (x ∷ xs))
  at true passes ih = rw passes (h.0, ih)
  at false passes ih = rw passes ih

pub sorted_filter : (p : AcceptedId → Bool) (xs : List AcceptedId) → IsSorted comes_first xs → IsSorted comes_first (filter p xs)
sorted_filter p [] h = tt
sorted_filter p (x ∷ xs) h = at (p x) refl (sorted_filter p xs h.1) where
  at : (b : Bool) → p x ≡ b → IsSorted comes_first (filter p xs) → IsSorted comes_first (filter p (x ∷ xs))
  at true passes ih = rw passes (each_filter (λ y. comes_first x y ≡ true) p xs h.0, ih)
  at false passes ih = rw passes ih

unknown : (window t : ℕ) (id : List ℕ) (ids : List AcceptedId) → is_known window id t ids ≡ false → Each (λ a. bytes_eq a.id id ≡ false) (filter (is_recent window t) ids)
unknown window t id [] none = tt
unknown window t id (a ∷ ids) none = at (is_recent window t a) refl (bytes_eq a.id id) refl (unknown window t id ids) where
  rest : (b : Bool) → (b || is_known window id t ids) ≡ false → is_known window id t ids ≡ false
  rest true e = absurd cc
  rest false e = e

  at : (b : Bool) → is_recent window t a ≡ b → (c : Bool) → bytes_eq a.id id ≡ c → (is_known window id t ids ≡ false → Each (λ a. bytes_eq a.id id ≡ false) (filter (is_recent window t) ids)) → Each (λ a. bytes_eq a.id id ≡ false) (filter (is_recent window t) (a ∷ ids))
  at true is true same ih = let bad : true ≡ false = rw (same, is) at none in absurd cc
  at true is false same ih = rw is (same, ih (rest (bytes_eq a.id id && is_recent window t a) none))
  at false is c same ih = rw is (ih (rest (bytes_eq a.id id && is_recent window t a) none))

pub sorted_noted : (window t : ℕ) (id : List ℕ) (ids : List AcceptedId) → is_known window id t ids ≡ false → IsSorted comes_first ids → IsSorted comes_first (with_sorted (is_earlier t id) (one t id) (filter (is_recent window t) ids))
sorted_noted window t id ids none sorted =
    let differs = unknown window t id ids none in
    let others = each_implied (λ a. bytes_eq a.id id ≡ false) (λ a. comes_first a (one t id) ≡ false → comes_first (one t id) a ≡ true)
    (λ a off early. other_later t id a early (rw off (and_false (a.moment == t)))) (filter (is_recent window t) ids) differs in
    sorted_with comes_first (one t id) (λ y z p q. first_later (one t id) y z p q) (filter (is_recent window t) ids) others (sorted_filter (is_recent window t) ids sorted)
