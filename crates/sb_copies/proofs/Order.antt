-- Copies in order of their numbers: which of a number is found.
use Rattle.std.proofs.Common.{◌≡◌, ℕ, suc, ◌+◌, ◌<◌, List, [], ◌∷◌, find, ◌==◌, ◌&&◌, Bool, true, false, Some, None, refl, sym, ap, ◌∙◌, subst, arith}
use Rattle.std.proofs.lemmas.Bool.Decides.{nat_tests}
use Rattle.std.proofs.lemmas.Bool.{ne_eqb}
use Rattle.sb_index.specs.Rows.{AreAbove}
use Rattle.sb_machine.specs.Leaves.{has_number}
use Rattle.sb_machine.specs.declared.state.StoredCopy.{StoredCopy}
use Rattle.sb_copies.specs.Shelf.{AreInOrder, rows_of}

pub both : (a b : Bool) → (a && b) ≡ true → (a ≡ true) × (b ≡ true)
both true b e = (refl, e)
both false b e = absurd (let bad : false ≡ true = e in cc)

pub one_more : (n : ℕ) → 1 + n ≡ suc n
one_more n = omega arith

-- ---- those of a number

none_found : (n : ℕ) (p : StoredCopy → Bool) (cs : List StoredCopy) → ((c : StoredCopy) → p c ≡ true → (c.number == n) ≡ true) → AreAbove n (rows_of cs) → find p cs ≡ None
none_found n p [] own a = refl
none_found n p (c ∷ cs) own a = at (p c) refl (none_found n p cs own a.1) where
  at : (b : Bool) → p c ≡ b → find p cs ≡ None → find p (c ∷ cs) ≡ None
  at true e ih = let q : n < c.number = a.0 in let bad : (c.number == n) ≡ true = own c e in absurd (let no_such : false ≡ true = sym (ne_eqb c.number n (omega arith)) ∙ bad in cc)
  at false e ih = rw e ih

pub same_number : (m n : ℕ) → (m == n) ≡ true → m ≡ n
same_number m n e = grind (arith, nat_tests)

-- what is found by a test that copies of one number alone pass
pub one_found : (n : ℕ) (p : StoredCopy → Bool) (c : StoredCopy) (cs : List StoredCopy) → ((x : StoredCopy) → p x ≡ true → (x.number == n) ≡ true) → find (has_number n) cs ≡ Some c → p c ≡ true → find p cs ≡ Some c
one_found n p c [] own found passes = absurd cc
one_found n p c (y ∷ ys) own found passes = at (y.number == n) refl (one_found n p c ys own) where
  at : (b : Bool) → (y.number == n) ≡ b → (find (has_number n) ys ≡ Some c → p c ≡ true → find p ys ≡ Some c) → find p (y ∷ ys) ≡ Some c
  at true e ih = let it : Some y ≡ Some c = rw e at found in let same : y ≡ c = cc in rw (ap p same ∙ passes) it
  at false e ih = inner (p y) refl where
    inner : (b : Bool) → p y ≡ b → find p (y ∷ ys) ≡ Some c
    inner true f = absurd (let bad : false ≡ true = sym e ∙ own y f in cc)
    inner false f = let rest : find (has_number n) ys ≡ Some c = rw e at found in rw f (ih rest passes)

pub one_fails : (n : ℕ) (p : StoredCopy → Bool) (c : StoredCopy) (cs : List StoredCopy) → ((x : StoredCopy) → p x ≡ true → (x.number == n) ≡ true) → AreInOrder cs → find (has_number n) cs ≡ Some c → p c ≡ false → find p cs ≡ None
one_fails n p c [] own s found fails = refl
one_fails n p c (y ∷ ys) own s found fails = at (y.number == n) refl (one_fails n p c ys own s.1) where
  at : (b : Bool) → (y.number == n) ≡ b → (find (has_number n) ys ≡ Some c → p c ≡ false → find p ys ≡ None) → find p (y ∷ ys) ≡ None
  at true e ih =
      let it : Some y ≡ Some c = rw e at found in
      let same : y ≡ c = cc in
      rw (ap p same ∙ fails) (none_found n p ys own (subst (λ k. AreAbove k (rows_of ys)) (same_number y.number n e) s.0))
  at false e ih = inner (p y) refl where
    inner : (b : Bool) → p y ≡ b → find p (y ∷ ys) ≡ None
    inner true f = absurd (let bad : false ≡ true = sym e ∙ own y f in cc)
    inner false f = let rest : find (has_number n) ys ≡ Some c = rw e at found in rw f (ih rest fails)

pub one_lacks : (n : ℕ) (p : StoredCopy → Bool) (cs : List StoredCopy) → ((x : StoredCopy) → p x ≡ true → (x.number == n) ≡ true) → find (has_number n) cs ≡ None → find p cs ≡ None
one_lacks n p [] own found = refl
one_lacks n p (y ∷ ys) own found = at (y.number == n) refl (one_lacks n p ys own) where
  at : (b : Bool) → (y.number == n) ≡ b → (find (has_number n) ys ≡ None → find p ys ≡ None) → find p (y ∷ ys) ≡ None
  at true e ih = absurd (let bad : Some y ≡ None = rw e at found in cc)
  at false e ih = inner (p y) refl where
    inner : (b : Bool) → p y ≡ b → find p (y ∷ ys) ≡ None
    inner true f = absurd (let bad : false ≡ true = sym e ∙ own y f in cc)
    inner false f = let rest : find (has_number n) ys ≡ None = rw e at found in rw f (ih rest)
