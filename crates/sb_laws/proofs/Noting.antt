-- Accepted ids stand in order, within the window of their entity, through every change.
use Rattle.std.proofs.Common.{Bool, List, Some, [], arith, drop, false, filter, nat_lt, refl, subst, sym, take, true, ℕ, ◌&&◌, ◌*◌, ◌++◌, ◌+◌, ◌<◌, ◌==◌, ◌||◌, ◌∷◌, ◌≡◌, ◌≤◌}
use Rattle.std.proofs.lemmas.Bool.Decides.{nat_tests}
use Rattle.std.proofs.lemmas.List.{take-append-drop}
use Rattle.std.specs.List.{prefix_len}
use Rattle.std.specs.Prelude.{bytes_eq, if◌then◌else◌}
use Rattle.sb_laws.proofs.Eachs.{each_back, each_both, each_filter, each_front, each_implied, each_inserted, each_passed, pairs_append, pairs_back, pairs_between, pairs_filter, pairs_front}
use Rattle.sb_laws.proofs.Sorting.{before_later, before_other}
use Rattle.sb_machine.specs.Changes.{is_earlier, is_known, is_recent, noted}
use Rattle.sb_machine.specs.Each.{Each, IsSorted, Pairs}
use Rattle.sb_machine.specs.Fit.{AreIds}
use Rattle.sb_machine.specs.Keyed.{with_sorted}
use Rattle.sb_machine.specs.Names.{is_before}
use Rattle.sb_machine.specs.declared.state.AcceptedId.{AcceptedId}
use Rattle.std.proofs.Common.{one-add}

-- ---- by moment, then id

earlier_later : (m1 m2 m3 : ℕ) (b12 b23 b13 : Bool) → (nat_lt m1 m2 || ((m1 == m2) && b12)) ≡ true → (nat_lt m2 m3 || ((m2 == m3) && b23)) ≡ true → (b12 ≡ true → b23 ≡ true → b13 ≡ true) → (nat_lt m1 m3 || ((m1 == m3) && b13)) ≡ true
earlier_later m1 m2 m3 true true b13 p q r = let is = r refl refl in rw is (grind (arith, nat_tests))
earlier_later m1 m2 m3 true false b13 p q r = let lt : nat_lt m1 m3 ≡ true = grind (arith, nat_tests) in rw lt refl
earlier_later m1 m2 m3 false true b13 p q r = let lt : nat_lt m1 m3 ≡ true = grind (arith, nat_tests) in rw lt refl
earlier_later m1 m2 m3 false false b13 p q r = let lt : nat_lt m1 m3 ≡ true = grind (arith, nat_tests) in rw lt refl

abbrev comes_before : AcceptedId → AcceptedId → Bool
comes_before a b = is_earlier b.moment b.id a

before_trans : (a b c : AcceptedId) → comes_before a b ≡ true → comes_before b c ≡ true → comes_before a c ≡ true
before_trans a b c p q = earlier_later a.moment b.moment c.moment (is_before a.id b.id) (is_before b.id c.id) (is_before a.id c.id) p q (λ x y. before_later a.id b.id c.id x y)

-- what is no earlier than this moment's id is later, where it is another
at_most_now : (m t : ℕ) (b c : Bool) → m ≤ t → (nat_lt m t || ((m == t) && b)) ≡ false → (b ≡ false → c ≡ true) → (nat_lt t m || ((t == m) && c)) ≡ true
at_most_now m t true c le off other = absurd (grind (arith, nat_tests))
at_most_now m t false c le off other = let is = other refl in rw is (grind (arith, nat_tests))

module _ (t window : ℕ) (some : 1 ≤ window) (id : List ℕ) where
  abbrev new_id : AcceptedId
  new_id = record { moment = t; id = id }

  recent : (ids : List AcceptedId) → Each (λ a. nat_lt t (a.moment + 1000 * window) ≡ true) (filter (is_recent window t) ids)
  recent ids = each_passed (is_recent window t) ids

  -- those kept that have this id would be known
  unknown : (ids : List AcceptedId) → is_known window id t ids ≡ false → Each (λ a. bytes_eq a.id id ≡ false) (filter (is_recent window t) ids)
  unknown [] none = tt
  unknown (a ∷ ids) none = at (is_recent window t a) refl (bytes_eq a.id id) refl (unknown ids) where
    rest : (b : Bool) → (b || is_known window id t ids) ≡ false → is_known window id t ids ≡ false
    rest true e = absurd cc
    rest false e = e

    at : (b : Bool) → is_recent window t a ≡ b → (c : Bool) → bytes_eq a.id id ≡ c → (is_known window id t ids ≡ false → Each (λ a. bytes_eq a.id id ≡ false) (filter (is_recent window t) ids)) → Each (λ a. bytes_eq a.id id ≡ false) (filter (is_recent window t) (a ∷ ids))
    at true is true same ih = let bad : true ≡ false = rw (same, is) at none in absurd cc
    at true is false same ih = rw is (same, ih (rest (bytes_eq a.id id && is_recent window t a) none))
    at false is c same ih = rw is (ih (rest (bytes_eq a.id id && is_recent window t a) none))

  inserted_pairs : {X : Type 0} (R : X → X → Type 0) (before : X → Bool) (x : X) (xs : List X) → Each (λ y. R y x) xs → Each (R x) xs → Pairs R xs → Pairs R (with_sorted before x xs)
  inserted_pairs {X = X} R before x xs to from pairs =
      let k = prefix_len before xs in
      let whole : Pairs R (take k xs ++ drop k xs) = subst (Pairs R) (sym (take-append-drop k xs)) pairs in
      let to_x : Each (λ y. R y x) (take k xs ++ drop k xs) = subst (Each (λ y. R y x)) (sym (take-append-drop k xs)) to in
      let from_x : Each (R x) (take k xs ++ drop k xs) = subst (Each (R x)) (sym (take-append-drop k xs)) from in
      pairs_append R (take k xs) (x ∷ drop k xs) (pairs_front R (take k xs) (drop k xs) whole) (each_back (R x) (take k xs) (drop k xs) from_x, pairs_back R (take k xs) (drop k xs) whole)
      (each_implied (λ y. R y x × Each (R y) (drop k xs)) (λ y. Each (R y) (x ∷ drop k xs)) (λ y h. (h.0, h.1)) (take k xs)
      (each_both (λ y. R y x) (λ y. Each (R y) (drop k xs)) (take k xs) (each_front (λ y. R y x) (take k xs) (drop k xs) to_x) (pairs_between R (take k xs) (drop k xs) whole)))

  pub noted_ids : (ids : List AcceptedId) → AreIds t (Some window) ids → AreIds t (Some window) (noted (Some window) id t ids)
  noted_ids ids h = go (is_known window id t ids) refl where
    kept : List AcceptedId
    kept = filter (is_recent window t) ids

    early : Each (λ a. a.moment ≤ t) (filter (is_recent window t) ids)
    early = each_filter (λ a. a.moment ≤ t) (is_recent window t) ids h.1

    other : is_known window id t ids ≡ false → (a : AcceptedId) → a.moment ≤ t → bytes_eq a.id id ≡ false → comes_before a (record { moment = t; id = id }) ≡ false → comes_before (record { moment = t; id = id }) a ≡ true
    other none a le differs_so off = at_most_now a.moment t (is_before a.id id) (is_before id a.id) le off (λ after_so. before_other a.id id after_so differs_so)

    lt_of : (m n : ℕ) → nat_lt m n ≡ true → m < n
    lt_of m n e = grind (arith, nat_tests)

    sorted : is_known window id t ids ≡ false → IsSorted comes_before (with_sorted (is_earlier t id) (record { moment = t; id = id }) (filter (is_recent window t) ids))
    sorted none = placed (filter (is_recent window t) ids) early (unknown ids none) (pairs_filter (λ a b. comes_before a b ≡ true) (is_recent window t) ids h.0) where
      placed : (xs : List AcceptedId) → Each (λ a. a.moment ≤ t) xs → Each (λ a. bytes_eq a.id id ≡ false) xs → IsSorted comes_before xs → IsSorted comes_before (with_sorted (is_earlier t id) (record { moment = t; id = id }) xs)
      placed [] le differs_so sorted = (tt, tt)
      placed (y ∷ ys) le differs_so sorted = at (is_earlier t id y) refl (placed ys le.1 differs_so.1 sorted.1) where
        at : (b : Bool) → is_earlier t id y ≡ b → IsSorted comes_before (with_sorted (is_earlier t id) (record { moment = t; id = id }) ys) → IsSorted comes_before (with_sorted (is_earlier t id) (record { moment = t; id = id }) (y ∷ ys))
        at true is ih = rw (is, one-add) (each_inserted (λ z. comes_before y z ≡ true) (is_earlier t id) (record { moment = t; id = id }) ys is sorted.0, ih)
        at false is ih =
            let here : comes_before (record { moment = t; id = id }) y ≡ true = other none y le.0 differs_so.0 is in
            rw is ((here, each_implied (λ z. comes_before y z ≡ true) (λ z. comes_before (record { moment = t; id = id }) z ≡ true) (λ z behind. before_trans (record { moment = t; id = id }) y z here behind) ys sorted.0), sorted)

    go : (b : Bool) → is_known window id t ids ≡ b → AreIds t (Some window) (if b then ids else with_sorted (is_earlier t id) (record { moment = t; id = id }) (filter (is_recent window t) ids))
    go true known = h
    go false none = (
      sorted none,
      each_inserted (λ a. a.moment ≤ t) (is_earlier t id) (record { moment = t; id = id }) (filter (is_recent window t) ids) (omega arith) early,
      inserted_pairs (λ a b. b.moment < a.moment + 1000 * window) (is_earlier t id) (record { moment = t; id = id }) (filter (is_recent window t) ids)
          (each_implied (λ a. nat_lt t (a.moment + 1000 * window) ≡ true) (λ a. t < a.moment + 1000 * window) (λ a is. lt_of t (a.moment + 1000 * window) is) (filter (is_recent window t) ids) (recent ids))
          (each_implied (λ a. a.moment ≤ t) (λ a. a.moment < t + 1000 * window) (λ a le. omega (arith, le, some)) (filter (is_recent window t) ids) early)
          (pairs_filter (λ a b. b.moment < a.moment + 1000 * window) (is_recent window t) ids h.2),
    )
