-- Copies whose numbers are all below one: with one more, one less, or one that stands otherwise.
use Rattle.std.proofs.Common.{◌≡◌, ℕ, ◌+◌, ◌<◌, List, [], ◌∷◌, ◌++◌, nat_lt, ◌==◌, Bool, true, false, refl, sym, subst, arith}
use Rattle.std.specs.List.{list_all}
use Rattle.std.proofs.lemmas.Bool.Decides.{nat_tests}
use Rattle.sb_machine.specs.Keyed.{changed}
use Rattle.sb_machine.specs.Leaves.{has_number}
use Rattle.sb_machine.specs.declared.state.StoredCopy.{StoredCopy}
use Rattle.sb_copies.specs.Shelf.{AreBelow, is_before}
use Rattle.sb_copies.proofs.Order.{both}

below_number : (m n : ℕ) → m < n → nat_lt m n ≡ true
below_number m n lt = grind (arith, nat_tests)

below_last : (m : ℕ) (c : StoredCopy) (cs : List StoredCopy) → AreBelow m cs → c.number < m → AreBelow m (cs ++ c ∷ [])
below_last m c [] b lt = rw (below_number c.number m lt) refl
below_last m c (y ∷ ys) b lt = let it = both (nat_lt y.number m) (list_all (is_before m) ys) b in rw it.0 (below_last m c ys it.1 lt)

pub below_put : (m : ℕ) (c : StoredCopy) (cs after : List StoredCopy) → AreBelow m cs → c.number < m → after ≡ cs ++ c ∷ [] → AreBelow m after
below_put m c cs after b lt pushed = subst (λ (l : List StoredCopy). AreBelow m l) (sym pushed) (below_last m c cs b lt)

raised : (n m : ℕ) → nat_lt n m ≡ true → nat_lt n (m + 1) ≡ true
raised n m e = grind (arith, nat_tests)

pub below_next : (m : ℕ) (cs : List StoredCopy) → AreBelow m cs → AreBelow (m + 1) cs
below_next m [] b = refl
below_next m (c ∷ cs) b = let it = both (nat_lt c.number m) (list_all (is_before m) cs) b in rw (raised c.number m it.0) (below_next m cs it.1)

below_without : (m : ℕ) (p : StoredCopy → Bool) (cs : List StoredCopy) → AreBelow m cs → AreBelow m (changed p (λ c. []) cs)
below_without m p [] b = refl
below_without m p (c ∷ cs) b = at (p c) refl (below_without m p cs) where
  it : (nat_lt c.number m ≡ true) × (list_all (is_before m) cs ≡ true)
  it = both (nat_lt c.number m) (list_all (is_before m) cs) b

  at : (t : Bool) → p c ≡ t → (AreBelow m cs → AreBelow m (changed p (λ x. []) cs)) → AreBelow m (changed p (λ x. []) (c ∷ cs))
  at true e ih = rw e it.1
  at false e ih = rw (e, it.0) (ih it.1)

pub below_taken : (m n : ℕ) (cs after : List StoredCopy) → AreBelow m cs → after ≡ changed (has_number n) (λ c. []) cs → AreBelow m after
below_taken m n cs after b taken = subst (λ (l : List StoredCopy). AreBelow m l) (sym taken) (below_without m (has_number n) cs b)

below_with : (n : ℕ) (g : StoredCopy → StoredCopy) (m : ℕ) → ((c : StoredCopy) → (g c).number ≡ c.number) → (cs : List StoredCopy) → AreBelow m cs → AreBelow m (changed (has_number n) (λ c. g c ∷ []) cs)
below_with n g m same [] b = refl
below_with n g m same (c ∷ cs) b = at (c.number == n) refl (below_with n g m same cs) where
  it : (nat_lt c.number m ≡ true) × (list_all (is_before m) cs ≡ true)
  it = both (nat_lt c.number m) (list_all (is_before m) cs) b

  at : (t : Bool) → (c.number == n) ≡ t → (AreBelow m cs → AreBelow m (changed (has_number n) (λ x. g x ∷ []) cs)) → AreBelow m (changed (has_number n) (λ x. g x ∷ []) (c ∷ cs))
  at true e ih = rw (e, same c, it.0) it.1
  at false e ih = rw (e, it.0) (ih it.1)

pub below_changed : (n : ℕ) (g : StoredCopy → StoredCopy) (m : ℕ) → ((c : StoredCopy) → (g c).number ≡ c.number) → (cs after : List StoredCopy) → AreBelow m cs → after ≡ changed (has_number n) (λ c. g c ∷ []) cs → AreBelow m after
below_changed n g m same cs after b stands = subst (λ (l : List StoredCopy). AreBelow m l) (sym stands) (below_with n g m same cs b)
