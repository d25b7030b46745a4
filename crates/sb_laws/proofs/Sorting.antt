-- Lists in order, with one more.
use Rattle.std.proofs.Common.{Bool, List, None, Some, [], ap, false, refl, sym, true, ℕ, ◌∙◌, ◌∷◌, ◌≡◌}
use Rattle.std.specs.Prelude.{bytes_eq, find}
use Rattle.sb_laws.proofs.Eachs.{each_implied, each_inserted}
use Rattle.sb_laws.proofs.Lists.{found_behind}
use Rattle.sb_machine.specs.Each.{Each, IsSorted}
use Rattle.sb_machine.specs.Keyed.{with_sorted}
use Rattle.sb_machine.specs.Names.{is_before}
use Rattle.std.specs.Ordering.{nat_cmp, is_lt, is_eq, ordering_reverse}
use Rattle.std.specs.declared.cmp.Ordering.{Ordering}
use Rattle.std.specs.declared.cmp.Ordering.TheVariants.{Less, Equal, Greater}
use Rattle.std.specs.Cmp.Lexicographic.{slice_cmp}
use Rattle.std.proofs.lemmas.Cmp.{nat_list_cmp_total}
use Rattle.std.proofs.lemmas.Map.Text.{is_eq-slice_cmp}
use Rattle.std.proofs.Common.{one-add}

-- ---- texts in byte order

less_is : (o : Ordering) → is_lt o ≡ true → o ≡ Less
less_is Less e = refl
less_is Equal e = absurd cc
less_is Greater e = absurd cc

pub before_later : (a b c : List ℕ) → is_before a b ≡ true → is_before b c ≡ true → is_before a c ≡ true
before_later a b c p q = ap is_lt (nat_list_cmp_total.trans a b c (less_is (slice_cmp nat_cmp a b) p) (less_is (slice_cmp nat_cmp b c) q))

pub before_other : (a b : List ℕ) → is_before a b ≡ false → bytes_eq a b ≡ false → is_before b a ≡ true
before_other a b after_so differs_so = at (slice_cmp nat_cmp a b) after_so (is_eq-slice_cmp a b ∙ differs_so) (nat_list_cmp_total.antisymm b a) where
  at : (o : Ordering) → is_lt o ≡ false → is_eq o ≡ false → slice_cmp nat_cmp b a ≡ ordering_reverse o → is_before b a ≡ true
  at Less p q e = absurd cc
  at Equal p q e = absurd cc
  at Greater p q e = ap is_lt e

-- what stands behind is another
pub later_differs : (a b : List ℕ) → is_before a b ≡ true → bytes_eq b a ≡ false
later_differs a b before = at (slice_cmp nat_cmp b a) (is_eq-slice_cmp b a) (nat_list_cmp_total.antisymm a b) where
  at : (o : Ordering) → is_eq o ≡ bytes_eq b a → slice_cmp nat_cmp a b ≡ ordering_reverse o → bytes_eq b a ≡ false
  at Less e turned = sym e
  at Greater e turned = sym e
  at Equal e turned = let never : true ≡ false = sym before ∙ ap is_lt turned in absurd cc

-- ---- one more

module _ {X : Type 0} (before same : X → X → Bool) (x : X) (later : (y z : X) → before x y ≡ true → before y z ≡ true → before x z ≡ true) (other : (y : X) → before y x ≡ false → same y x ≡ false → before x y ≡ true) where
  pub sorted_placed : (xs : List X) → Each (λ y. same y x ≡ false) xs → IsSorted before xs → IsSorted before (with_sorted (λ y. before y x) x xs)
  sorted_placed [] others sorted = (tt, tt)
  sorted_placed (y ∷ ys) others sorted = at (before y x) refl (sorted_placed ys others.1 sorted.1) where
    at : (b : Bool) → before y x ≡ b → IsSorted before (with_sorted (λ z. before z x) x ys) → IsSorted before (with_sorted (λ z. before z x) x (y ∷ ys))
    at true is ih = rw (is, one-add) (each_inserted (λ z. before y z ≡ true) (λ z. before z x) x ys is sorted.0, ih)
    at false is ih =
        let here : before x y ≡ true = other y is others.0 in
        rw is ((here, each_implied (λ z. before y z ≡ true) (λ z. before x z ≡ true) (λ z behind. later y z here behind) ys sorted.0), sorted)

-- none that is found by its key has it
pub none_same : {X : Type 0} (p : X → Bool) (xs : List X) → find p xs ≡ None → Each (λ y. p y ≡ false) xs
none_same p [] none = tt
none_same p (x ∷ xs) none = at (p x) refl (none_same p xs) where
  at : (b : Bool) → p x ≡ b → (find p xs ≡ None → Each (λ y. p y ≡ false) xs) → Each (λ y. p y ≡ false) (x ∷ xs)
  at true is ih = let bad : Some x ≡ None = rw is at none in absurd cc
  at false is ih = (is, ih (found_behind p x xs None is none))
