-- Subscriptions stay in the order of their names, and a name's place among them is found by bisection.
use Rattle.std.proofs.Common.{◌≡◌, ℕ, zero, suc, ◌<◌, ◌≤◌, Bool, true, false, List, [], ◌∷◌, ◌++◌, length, get_or, map, take, drop, Bor, refl, sym, ap, ◌∙◌, subst, arith, one-add}
use Rattle.std.specs.Cmp.Lexicographic.{slice_cmp}
use Rattle.std.specs.List.{insert, prefix_len}
use Rattle.std.specs.List.Sorted.{IsPartitionedBy, IsPartitionPoint}
use Rattle.std.specs.Ordering.{nat_cmp, is_lt, is_eq, ordering_reverse}
use Rattle.std.specs.declared.cmp.Ordering.{Ordering}
use Rattle.std.specs.declared.cmp.Ordering.TheVariants.{Less, Equal, Greater}
use Rattle.std.proofs.lemmas.Cmp.{nat_list_cmp_total}
use Rattle.std.proofs.lemmas.List.{take-append-drop}
use Rattle.std.proofs.lemmas.List.Sums.{prefix_len_is}
use Rattle.std.proofs.lemmas.Map.Text.{is_eq-slice_cmp}
use Rattle.std.proofs.lemmas.Slice.Eq.{bytes_eq-Decides}
use Rattle.sb_machine.specs.Each.{Each}
use Rattle.sb_machine.specs.Names.{is_before}
use Rattle.sb_machine.specs.Visits.{own_name, with_next}
use Rattle.sb_machine.specs.declared.state.Listed.{Listed}
use Rattle.sb_entities.specs.Names.{AreByName}

-- ---- the order of texts

pub less_is : (o : Ordering) → is_lt o ≡ true → o ≡ Less
less_is Less e = refl
less_is Equal e = absurd cc
less_is Greater e = absurd cc

pub equal_same : (a b : List ℕ) → slice_cmp nat_cmp a b ≡ Equal → a ≡ b
equal_same a b e = (bytes_eq-Decides a b).0 (sym (is_eq-slice_cmp a b) ∙ ap is_eq e)

-- what isn't later than one before a name is before it too
pub down : (a b n : List ℕ) → is_before b a ≡ false → is_before b n ≡ true → is_before a n ≡ true
down a b n late here = at (slice_cmp nat_cmp a b) refl where
  at : (o : Ordering) → slice_cmp nat_cmp a b ≡ o → is_before a n ≡ true
  at Less e = ap is_lt (nat_list_cmp_total.trans a b n e (less_is (slice_cmp nat_cmp b n) here))
  at Equal e = subst (λ (x : List ℕ). is_before x n ≡ true) (sym (equal_same a b e)) here
  at Greater e = absurd (let bad : true ≡ false = sym (ap is_lt (nat_list_cmp_total.antisymm b a ∙ ap ordering_reverse e)) ∙ late in cc)

pub not_behind : (a n : List ℕ) → is_before a n ≡ true → is_before n a ≡ false
not_behind a n here = ap is_lt (nat_list_cmp_total.antisymm n a ∙ ap ordering_reverse (less_is (slice_cmp nat_cmp a n) here))

pub not_before : (a b n : List ℕ) → is_before b a ≡ false → is_before a n ≡ false → is_before b n ≡ false
not_before a b n late there = at (is_before b n) refl where
  at : (d : Bool) → is_before b n ≡ d → is_before b n ≡ false
  at true e = absurd (let bad : true ≡ false = sym (down a b n late e) ∙ there in cc)
  at false e = e

-- ---- lists

module _ {X : Type 0} where
  pub each_at : (P : X → Type 0) (xs : List X) (i : ℕ) (d : X) → Each P xs → i < length xs → P (get_or xs i d)
  each_at P [] i d h lt = absurd (omega (arith, lt))
  each_at P (x ∷ xs) zero d h lt = h.0
  each_at P (x ∷ xs) (suc i) d h lt = each_at P xs i d h.1 (omega (arith, lt))

  pub each_implied : (P Q : X → Type 0) → ((x : X) → P x → Q x) → (xs : List X) → Each P xs → Each Q xs
  each_implied P Q more [] h = tt
  each_implied P Q more (x ∷ xs) h = (more x h.0, each_implied P Q more xs h.1)

  each_put : (P : X → Type 0) (xs ys : List X) (x : X) → P x → Each P (xs ++ ys) → Each P (xs ++ x ∷ ys)
  each_put P [] ys x new h = (new, h)
  each_put P (z ∷ zs) ys x new h = (h.0, each_put P zs ys x new h.1)

  pub each_inserted : (P : X → Type 0) (xs : List X) (i : ℕ) (x : X) → P x → Each P xs → Each P (insert xs i x)
  each_inserted P xs i x new h = each_put P (take i xs) (drop i xs) x new (subst (Each P) (sym (take-append-drop i xs)) h)

-- ---- subscriptions

abbrev is_late : Listed → Listed → Type 0
is_late a b = is_before (own_name b) (own_name a) ≡ false

abbrev is_first : List ℕ → Bor Listed → Bool
is_first n q = is_before (own_name q.now) n

each_seen : (P : Listed → Type 0) (xs : List (Bor Listed)) → Each P (map (λ (e : Bor Listed). e.now) xs) → Each (λ (e : Bor Listed). P e.now) xs
each_seen P [] h = tt
each_seen P (x ∷ xs) h = (h.0, each_seen P xs h.1)

pub parted : (n : List ℕ) (xs : List (Bor Listed)) → AreByName (map (λ (e : Bor Listed). e.now) xs) → IsPartitionedBy (is_first n) xs
parted n [] order i j d le lt passes = absurd (omega (arith, lt))
parted n (x ∷ xs) order zero zero d le lt passes = passes
parted n (x ∷ xs) order zero (suc j) d le lt passes =
    let late : is_late x.now (get_or xs j d).now = each_at (λ (e : Bor Listed). is_late x.now e.now) xs j d (each_seen (is_late x.now) xs order.0) (omega (arith, lt)) in
    down (own_name x.now) (own_name (get_or xs j d).now) n late passes
parted n (x ∷ xs) order (suc i) zero d le lt passes = absurd (omega (arith, le))
parted n (x ∷ xs) order (suc i) (suc j) d le lt passes = parted n xs order.1 i j d (omega (arith, le)) (omega (arith, lt)) passes

pub point_is : (n : List ℕ) (xs : List (Bor Listed)) (i : ℕ) → i ≤ length xs → IsPartitionPoint (λ y. is_first n y ≡ true) (λ y. is_first n y ≡ false) xs i → i ≡ prefix_len (is_first n) xs
point_is n [] i le point = omega (arith, le)
point_is n (x ∷ xs) i le point = sym (prefix_len_is (is_first n) (x ∷ xs) i x le (λ k lt. point.0 k x (omega arith) lt) (λ lt. point.1 i x (omega arith) lt))

pub by_name_with : (es : List Listed) (e : Listed) → AreByName es → AreByName (with_next es e)
by_name_with [] e order = (tt, tt)
by_name_with (x ∷ xs) e order = at (is_before (own_name x) (own_name e)) refl (by_name_with xs e order.1) where
  at : (b : Bool) → is_before (own_name x) (own_name e) ≡ b → AreByName (with_next xs e) → AreByName (with_next (x ∷ xs) e)
  at true is ih = rw (is, one-add) (each_inserted (is_late x) xs (prefix_len (λ q. is_before (own_name q) (own_name e)) xs) e (not_behind (own_name x) (own_name e) is) order.0, ih)
  at false is ih = rw is ((is, each_implied (is_late x) (is_late e) (λ y late. not_before (own_name x) (own_name y) (own_name e) late is) xs order.0), order)
