-- Ids in order lie near to each other where they lie near to the first.
use Rattle.std.proofs.Common.{◌≡◌, ℕ, ◌+◌, ◌*◌, ◌≤◌, refl, sym, Bool, true, false, ◌&&◌, ◌||◌, ◌==◌, nat_lt, List, [], ◌∷◌, arith}
use Rattle.std.proofs.lemmas.Bool.Decides.{nat_tests}
use Rattle.std.specs.List.{list_all}
use Rattle.sb_machine.specs.Changes.{is_earlier}
use Rattle.sb_machine.specs.Each.{Each, Pairs}
use Rattle.sb_machine.specs.Names.{is_before}
use Rattle.sb_machine.specs.declared.state.AcceptedId.{AcceptedId}
use Rattle.sb_judge.specs.Entities.{are_near_first, ids_near, ids_order}

abbrev is_near : ℕ → ℕ → AcceptedId → Bool
is_near reach first a = nat_lt a.moment (first + reach)

no_later : (s t : ℕ) (b : Bool) → (nat_lt s t || ((s == t) && b)) ≡ true → s ≤ t
no_later s t true e = grind (arith, nat_tests)
no_later s t false e = grind (arith, nat_tests)

nearer : (reach s t u : ℕ) → s ≤ t → nat_lt u (s + reach) ≡ true → nat_lt u (t + reach) ≡ true
nearer reach s t u le e = grind (arith, nat_tests)

near_later : (reach s t : ℕ) (xs : List AcceptedId) → s ≤ t → list_all (is_near reach s) xs ≡ true → list_all (is_near reach t) xs ≡ true
near_later reach s t [] le e = refl
near_later reach s t (x ∷ xs) le e = at (is_near reach s x) refl (near_later reach s t xs le) where
  at : (b : Bool) → is_near reach s x ≡ b → (list_all (is_near reach s) xs ≡ true → list_all (is_near reach t) xs ≡ true) → list_all (is_near reach t) (x ∷ xs) ≡ true
  at true is ih = let rest : list_all (is_near reach s) xs ≡ true = rw is at e in rw (nearer reach s t x.moment le is) (ih rest)
  at false is ih = absurd (let bad : false ≡ true = rw is at e in cc)

behind : (a : Bool) (p : Bool) → (a ≡ true → p ≡ true) → a ≡ (a && p)
behind true p more = sym (more refl)
behind false p more = refl

all_on : (window : ℕ) (x : AcceptedId) (xs : List AcceptedId) → Each (λ y. is_earlier y.moment y.id x ≡ true) xs → Pairs (λ a b. is_earlier b.moment b.id a ≡ true) xs → list_all (is_near (1000 * window) x.moment) xs ≡ true → (ids_near window xs).0 ≡ true
unfolding ids_near
all_on window x [] first sorted e = refl
all_on window x (y ∷ ys) first sorted e = at (is_near (1000 * window) x.moment y) refl (all_on window y ys sorted.0 sorted.1) where
  at : (b : Bool) → is_near (1000 * window) x.moment y ≡ b → (list_all (is_near (1000 * window) y.moment) ys ≡ true → (ids_near window ys).0 ≡ true) → (ids_near window (y ∷ ys)).0 ≡ true
  at true is ih =
      let rest : list_all (is_near (1000 * window) x.moment) ys ≡ true = rw is at e in
      let later : list_all (is_near (1000 * window) y.moment) ys ≡ true = near_later (1000 * window) x.moment y.moment ys (no_later x.moment y.moment (is_before x.id y.id) first.0) rest in
      rw later (ih later)
  at false is ih = absurd (let bad : false ≡ true = rw is at e in cc)

pub all_near : (window : ℕ) (xs : List AcceptedId) → (ids_order xs).0 ≡ true → are_near_first window xs ≡ (ids_near window xs).0
unfolding ids_near
all_near window [] order = refl
all_near window (x ∷ xs) order =
    let sorted = (ids_order (x ∷ xs)).1.0 order in
    behind (list_all (is_near (1000 * window) x.moment) xs) (ids_near window xs).0 (all_on window x xs sorted.0 sorted.1)
