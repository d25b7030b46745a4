-- The entity of a number, where another stands in the place of one.
use Rattle.std.proofs.Common.{Bool, List, None, Option, Some, [], ap, false, refl, subst, sym, true, ℕ, ◌==◌, ◌∷◌, ◌≡◌}
use Rattle.std.proofs.lemmas.Bool.Decides.{nat_tests}
use Rattle.std.proofs.Common.{arith}
use Rattle.std.specs.Prelude.{find}
use Rattle.sb_machine.specs.Keyed.{changed}
use Rattle.sb_machine.specs.Namespace.{is_entity}
use Rattle.sb_machine.specs.declared.state.Entity.{Entity}

-- g of what was found, if so
abbrev pub put_in : Bool → (Entity → Entity) → Option Entity → Option Entity
put_in b g None = None
put_in true g (Some e) = Some (g e)
put_in false g (Some e) = Some e

left_so : (g : Entity → Entity) (o : Option Entity) → o ≡ put_in false g o
left_so g None = refl
left_so g (Some e) = refl

both_so : (a m n : ℕ) → (a == n) ≡ true → (a == m) ≡ true → (m == n) ≡ true
both_so a m n p q = grind (arith, nat_tests)

one_so : (a m n : ℕ) → (a == n) ≡ true → (a == m) ≡ false → (m == n) ≡ false
one_so a m n p q = grind (arith, nat_tests)

other_so : (a m n : ℕ) → (a == n) ≡ false → (a == m) ≡ true → (m == n) ≡ false
other_so a m n p q = grind (arith, nat_tests)

pub found_on : (m n : ℕ) (g : Entity → Entity) (es : List Entity) → ((e : Entity) → (g e).about.number ≡ e.about.number) → find (is_entity m) (changed (is_entity n) (λ e. g e ∷ []) es) ≡ put_in (m == n) g (find (is_entity m) es)
found_on m n g [] numbers = refl
found_on m n g (e ∷ es) numbers = at (is_entity n e) refl (is_entity m e) refl (found_on m n g es numbers) where
  moved : is_entity m (g e) ≡ is_entity m e
  moved = ap (λ (k : ℕ). k == m) (numbers e)

  at : (b : Bool) → is_entity n e ≡ b → (c : Bool) → is_entity m e ≡ c → find (is_entity m) (changed (is_entity n) (λ e. g e ∷ []) es) ≡ put_in (m == n) g (find (is_entity m) es) → find (is_entity m) (changed (is_entity n) (λ e. g e ∷ []) (e ∷ es)) ≡ put_in (m == n) g (find (is_entity m) (e ∷ es))
  at true is true here ih = rw (is, moved, here) (rw (both_so e.about.number m n is here) refl)
  at true is false here ih = rw (is, moved, here) (subst (λ (b : Bool). find (is_entity m) es ≡ put_in b g (find (is_entity m) es)) (sym (one_so e.about.number m n is here)) (left_so g (find (is_entity m) es)))
  at false is true here ih = rw (is, here) (rw (other_so e.about.number m n is here) refl)
  at false is false here ih = rw (is, here) ih
