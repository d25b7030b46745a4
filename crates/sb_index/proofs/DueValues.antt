-- What is due, put behind what was there.
use Rattle.std.proofs.Common.{◌≡◌, ℕ, List, [], ◌∷◌, ◌++◌, map, ◌||◌, Bool, true, false, cond, refl, sym, ap, ◌∙◌, append_assoc}
use Rattle.std.specs.List.{filter, list_any}
use Rattle.std.proofs.lemmas.List.{append-nil}
use Rattle.sb_index.specs.Rows.{due_values, is_due}
use Rattle.sb_index.specs.Wanted.{fits}
use Rattle.sb_index.specs.declared.row.Row.{Row}
use Rattle.sb_index.specs.declared.wanted.Wanted.TheVariants.{Due}

pub none_behind : (xs : List ℕ) → xs ≡ xs ++ []
none_behind xs = sym (append-nil xs)

nothing_due : (m : ℕ) (rows : List Row) → list_any (is_due m) rows ≡ false → due_values m rows ≡ []
nothing_due m [] e = refl
nothing_due m (x ∷ xs) e = at (is_due m x) e (nothing_due m xs) where
  at : (b : Bool) → (b || list_any (is_due m) xs) ≡ false → (list_any (is_due m) xs ≡ false → due_values m xs ≡ []) → map (λ y. y.value) (cond b (x ∷ filter (is_due m) xs) (filter (is_due m) xs)) ≡ []
  at true e f = absurd (let bad : true ≡ false = e in cc)
  at false e f = f e

pub none_due : (m : ℕ) (found : List ℕ) (rows : List Row) → list_any (fits (Due m)) rows ≡ false → found ≡ found ++ due_values m rows
none_due m found rows e = none_behind found ∙ sym (ap (λ (l : List ℕ). found ++ l) (nothing_due m rows e))

due_append : (m : ℕ) (l r : List Row) → due_values m (l ++ r) ≡ due_values m l ++ due_values m r
due_append m [] r = refl
due_append m (y ∷ l) r = at (is_due m y) (due_append m l r) where
  at : (b : Bool) → due_values m (l ++ r) ≡ due_values m l ++ due_values m r
      → map (λ x. x.value) (cond b (y ∷ filter (is_due m) (l ++ r)) (filter (is_due m) (l ++ r))) ≡ map (λ x. x.value) (cond b (y ∷ filter (is_due m) l) (filter (is_due m) l)) ++ due_values m r
  at true ih = ap (λ (vs : List ℕ). y.value ∷ vs) ih
  at false ih = ih

-- those of one side, of the row between, and of the other side
pub due_parts : (m : ℕ) (found : List ℕ) (l : List Row) (x : Row) (r : List Row) → ((found ++ due_values m l) ++ due_values m (x ∷ [])) ++ due_values m r ≡ found ++ due_values m (l ++ x ∷ r)
due_parts m found l x r =
    append_assoc (found ++ due_values m l) (due_values m (x ∷ [])) (due_values m r)
    ∙ append_assoc found (due_values m l) (due_values m (x ∷ []) ++ due_values m r)
    ∙ ap (λ (vs : List ℕ). found ++ (due_values m l ++ vs)) (sym (due_append m (x ∷ []) r))
    ∙ ap (λ (vs : List ℕ). found ++ vs) (sym (due_append m l (x ∷ r)))

pub one_due : (m : ℕ) (found : List ℕ) (x : Row) → fits (Due m) x ≡ true → found ++ x.value ∷ [] ≡ found ++ due_values m (x ∷ [])
one_due m found x e = ap (λ (vs : List ℕ). found ++ vs) (at (is_due m x) e) where
  at : (b : Bool) → b ≡ true → x.value ∷ [] ≡ map (λ y. y.value) (cond b (x ∷ []) [])
  at true e = refl
  at false e = absurd (let bad : false ≡ true = e in cc)

pub one_not_due : (m : ℕ) (found : List ℕ) (x : Row) → fits (Due m) x ≡ false → found ≡ found ++ due_values m (x ∷ [])
one_not_due m found x e = none_behind found ∙ ap (λ (vs : List ℕ). found ++ vs) (at (is_due m x) e) where
  at : (b : Bool) → b ≡ false → [] ≡ map (λ y. y.value) (cond b (x ∷ []) [])
  at true e = absurd (let bad : true ≡ false = e in cc)
  at false e = refl
