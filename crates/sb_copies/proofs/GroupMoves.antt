-- Rows by group, as a copy goes over into another group.
use Rattle.std.proofs.Common.{◌≡◌, ℕ, ◌+◌, ◌*◌, ◌<◌, ◌≤◌, List, [], ◌∷◌, map, find, ◌==◌, Bool, true, false, Option, Some, None, cond, refl, sym, ap, ◌∙◌, subst, arith}
use Rattle.std.specs.Prelude.{IfSome}
use Rattle.std.specs.List.{filter, list_any}
use Rattle.std.specs.Option.{option_and_then, option_map, option_map_or}
use Rattle.std.proofs.lemmas.Bool.{eq-eqb, ne_eqb}
use Rattle.sb_index.specs.Rows.{AreAbove, AreRising, Lacks, with_row}
use Rattle.sb_index.specs.declared.row.Row.{Row}
use Rattle.sb_machine.specs.Keyed.{changed}
use Rattle.sb_machine.specs.Leaves.{has_number}
use Rattle.sb_machine.specs.declared.state.StoredCopy.{StoredCopy}
use Rattle.sb_machine.proofs.Places.{found_passes}
use Rattle.sb_copies.specs.Grouped.{HoldsGroups, group_at, group_row, is_in_group, is_under, moved_grouped, own_row, span, with_grouped, without_grouped}
use Rattle.sb_copies.specs.Shelf.{AreBelow, AreInOrder, rows_of}
use Rattle.sb_copies.proofs.GroupChanges.{taken_so}
use Rattle.sb_copies.proofs.Grouped.{grouped_so, lacks_numbered, lt_is, not_lt, under_other, under_own, with_first, with_later, with_other, with_own}
use Rattle.sb_copies.proofs.Mirror.{above_found}
use Rattle.sb_copies.proofs.Order.{same_number}

-- ---- rows that rise

above_kept : (p : Row → Bool) (k : ℕ) (ys : List Row) → AreAbove k ys → AreAbove k (filter p ys)
above_kept p k [] a = tt
above_kept p k (y ∷ ys) a = at (p y) (above_kept p k ys a.1) where
  at : (b : Bool) → AreAbove k (filter p ys) → AreAbove k (cond b (y ∷ filter p ys) (filter p ys))
  at true ih = (a.0, ih)
  at false ih = ih

rising_kept : (p : Row → Bool) (ys : List Row) → AreRising ys → AreRising (filter p ys)
rising_kept p [] s = tt
rising_kept p (y ∷ ys) s = at (p y) (rising_kept p ys s.1) where
  at : (b : Bool) → AreRising (filter p ys) → AreRising (cond b (y ∷ filter p ys) (filter p ys))
  at true ih = (above_kept p y.key ys s.0, ih)
  at false ih = ih

rising_without : (o : Option ℕ) (n : ℕ) (rows : List Row) → AreRising rows → AreRising (without_grouped o n rows)
rising_without None n rows s = s
rising_without (Some h) n rows s = rising_kept _ rows s

-- ---- copies without the one of a number

none_twice : (n : ℕ) (cs : List StoredCopy) → AreAbove n (rows_of cs) → list_any (has_number n) cs ≡ false
none_twice n [] a = refl
none_twice n (c ∷ cs) a = let p : n < c.number = a.0 in rw (ne_eqb c.number n (omega (arith, p))) (none_twice n cs a.1)

gone : (n : ℕ) (cs : List StoredCopy) → AreInOrder cs → list_any (has_number n) (changed (has_number n) (λ c. []) cs) ≡ false
gone n [] s = refl
gone n (c ∷ cs) s = at (c.number == n) refl (gone n cs s.1) where
  at : (b : Bool) → (c.number == n) ≡ b → list_any (has_number n) (changed (has_number n) (λ x. []) cs) ≡ false → list_any (has_number n) (changed (has_number n) (λ x. []) (c ∷ cs)) ≡ false
  at true e ih = rw e (none_twice n cs (subst (λ k. AreAbove k (rows_of cs)) (same_number c.number n e) s.0))
  at false e ih = rw (e, e) ih

none_changed : (n : ℕ) (f : StoredCopy → List StoredCopy) (cs : List StoredCopy) → find (has_number n) cs ≡ None → changed (has_number n) f cs ≡ cs
none_changed n f [] e = refl
none_changed n f (c ∷ cs) e = at (c.number == n) refl (none_changed n f cs) where
  at : (b : Bool) → (c.number == n) ≡ b → (find (has_number n) cs ≡ None → changed (has_number n) f cs ≡ cs) → changed (has_number n) f (c ∷ cs) ≡ c ∷ cs
  at true is ih = absurd (let bad : Some c ≡ None = rw is at e in cc)
  at false is ih = rw is (ap (λ (l : List StoredCopy). c ∷ l) (ih (rw is at e)))

number_found : (n : ℕ) (c : StoredCopy) (cs : List StoredCopy) → find (has_number n) cs ≡ Some c → c.number ≡ n
number_found n c cs found = same_number c.number n (found_passes (has_number n) cs c found)

module _ (group : StoredCopy → Option ℕ) (marked : StoredCopy → Bool) where
  -- ---- gone from its group

  taken_out : (was : Option (Option ℕ)) (n : ℕ) (rows : List Row) (cs : List StoredCopy) → was ≡ option_map group (find (has_number n) cs) → moved_grouped was n None rows ≡ without_grouped (group_at group n cs) n rows
  taken_out was n rows cs is = ap (λ w. moved_grouped w n None rows) is ∙ at (find (has_number n) cs) where
    at : (o : Option StoredCopy) → moved_grouped (option_map group o) n None rows ≡ without_grouped (option_and_then group o) n rows
    at None = refl
    at (Some c) = refl

  -- a copy that is taken out has no row any more
  pub left_so : (was : Option (Option ℕ)) (n : ℕ) (rows new : List Row) (cs after : List StoredCopy) → n < span → AreInOrder cs → AreBelow span cs → was ≡ option_map group (find (has_number n) cs) → HoldsGroups group marked rows cs → new ≡ moved_grouped was n None rows → after ≡ changed (has_number n) (λ c. []) cs → HoldsGroups group marked new after
  left_so was n rows new cs after fits s b is holds moved taken = taken_so group marked n (group_at group n cs) rows new cs after fits s b refl holds (moved ∙ taken_out was n rows cs is) taken

  -- its row in no group has its key, once that is out
  pub moved_lacks : (was : Option (Option ℕ)) (n : ℕ) (rows : List Row) (cs : List StoredCopy) → n < span → AreInOrder cs → AreBelow span cs → was ≡ option_map group (find (has_number n) cs) → HoldsGroups group marked rows cs → IfSome was (λ old. (h : ℕ) → Lacks (h * span + n) (without_grouped old n rows))
  moved_lacks None n rows cs fits s b is holds = tt
  moved_lacks (Some old) n rows cs fits s b is holds = λ h. lacks_numbered group marked h n (without_grouped old n rows) (changed (has_number n) (λ c. []) cs) fits (gone n cs s) (left_so (Some old) n rows (without_grouped old n rows) cs (changed (has_number n) (λ c. []) cs) fits s b is holds refl refl)

  -- ---- in another

  rows_first : (h n : ℕ) (x : Row) (q : StoredCopy → Bool) (cs : List StoredCopy) → x.key ≤ h * span + n → AreAbove n (rows_of cs) → with_row x (map (own_row marked h) (filter q cs)) ≡ x ∷ map (own_row marked h) (filter q cs)
  rows_first h n x q [] le a = refl
  rows_first h n x q (c ∷ cs) le a = at (q c) (rows_first h n x q cs le a.1) where
    at : (b : Bool) → with_row x (map (own_row marked h) (filter q cs)) ≡ x ∷ map (own_row marked h) (filter q cs) → with_row x (map (own_row marked h) (cond b (c ∷ filter q cs) (filter q cs))) ≡ x ∷ map (own_row marked h) (cond b (c ∷ filter q cs) (filter q cs))
    at true ih = let p : n < c.number = a.0 in with_first x (own_row marked h c) (map (own_row marked h) (filter q cs)) (not_lt (h * span + c.number) x.key (omega (arith, le, p)))
    at false ih = ih

  module _ (n : ℕ) (g : StoredCopy → StoredCopy) (numbered : (c : StoredCopy) → (g c).number ≡ c.number) where
    -- where it comes to another group, it is as if it were gone
    lost_again : (q : StoredCopy → Bool) (cs : List StoredCopy) → ((c : StoredCopy) → find (has_number n) cs ≡ Some c → q (g c) ≡ false) → filter q (changed (has_number n) (λ c. g c ∷ []) cs) ≡ filter q (changed (has_number n) (λ c. []) cs)
    lost_again q [] other = refl
    lost_again q (c ∷ cs) other = at (c.number == n) refl (lost_again q cs) where
      at : (b : Bool) → (c.number == n) ≡ b → (((x : StoredCopy) → find (has_number n) cs ≡ Some x → q (g x) ≡ false) → filter q (changed (has_number n) (λ x. g x ∷ []) cs) ≡ filter q (changed (has_number n) (λ x. []) cs)) → filter q (changed (has_number n) (λ x. g x ∷ []) (c ∷ cs)) ≡ filter q (changed (has_number n) (λ x. []) (c ∷ cs))
      at true e ih = rw (e, other c (rw e refl)) refl
      at false e ih = rw e (ap (λ (l : List StoredCopy). cond (q c) (c ∷ l) l) (ih (λ x found. other x (rw e found))))

    put_between : (h : ℕ) (q : StoredCopy → Bool) (c : StoredCopy) (cs : List StoredCopy) → AreInOrder cs → find (has_number n) cs ≡ Some c → q (g c) ≡ true → with_row (own_row marked h (g c)) (map (own_row marked h) (filter q (changed (has_number n) (λ x. []) cs))) ≡ map (own_row marked h) (filter q (changed (has_number n) (λ x. g x ∷ []) cs))
    put_between h q c [] s found passes = absurd cc
    put_between h q c (y ∷ ys) s found passes = at (y.number == n) refl (put_between h q c ys s.1) where
      x : Row
      x = own_row marked h (g c)

      at : (b : Bool) → (y.number == n) ≡ b → (find (has_number n) ys ≡ Some c → q (g c) ≡ true → with_row x (map (own_row marked h) (filter q (changed (has_number n) (λ z. []) ys))) ≡ map (own_row marked h) (filter q (changed (has_number n) (λ z. g z ∷ []) ys))) → with_row x (map (own_row marked h) (filter q (changed (has_number n) (λ z. []) (y ∷ ys)))) ≡ map (own_row marked h) (filter q (changed (has_number n) (λ z. g z ∷ []) (y ∷ ys)))
      at true e ih =
          let it : Some y ≡ Some c = rw e at found in
          let same : y ≡ c = cc in
          let there : (g c).number ≡ y.number = numbered c ∙ ap (λ (z : StoredCopy). z.number) (sym same) in
          let own : q (g y) ≡ true = ap (λ (z : StoredCopy). q (g z)) same ∙ passes in
          rw (e, own) (rows_first h y.number x q ys (omega (arith, there)) s.0 ∙ ap (λ (z : StoredCopy). own_row marked h (g z) ∷ map (own_row marked h) (filter q ys)) (sym same))
      at false e ih = rw e (inner (q y)) where
        rest : find (has_number n) ys ≡ Some c
        rest = rw e at found

        later : y.number < c.number
        later = above_found y.number (has_number n) c ys s.0 rest

        inner : (b : Bool) → with_row x (map (own_row marked h) (cond b (y ∷ filter q (changed (has_number n) (λ z. []) ys)) (filter q (changed (has_number n) (λ z. []) ys)))) ≡ map (own_row marked h) (cond b (y ∷ filter q (changed (has_number n) (λ z. g z ∷ []) ys)) (filter q (changed (has_number n) (λ z. g z ∷ []) ys)))
        inner true =
            with_later x (own_row marked h y) (map (own_row marked h) (filter q (changed (has_number n) (λ z. []) ys))) (lt_is (h * span + y.number) (h * span + (g c).number) (omega (arith, later, numbered c)))
            ∙ ap (λ (l : List Row). own_row marked h y ∷ l) (ih rest passes)
        inner false = ih rest passes

    joined : (h : ℕ) (c : StoredCopy) (rows : List Row) (cs : List StoredCopy) → n < span → AreInOrder cs → AreRising rows → find (has_number n) cs ≡ Some c → group (g c) ≡ Some h → HoldsGroups group marked rows (changed (has_number n) (λ x. []) cs) → HoldsGroups group marked (with_row (own_row marked h (g c)) rows) (changed (has_number n) (λ x. g x ∷ []) cs)
    joined h c rows cs fits s rises found grouped holds k = at (h == k) refl where
      own_fits : (g c).number < span
      own_fits = omega (arith, fits, numbered c, number_found n c cs found)

      at : (t : Bool) → (h == k) ≡ t → filter (is_under k) (with_row (own_row marked h (g c)) rows) ≡ map (own_row marked k) (filter (is_in_group group k) (changed (has_number n) (λ x. g x ∷ []) cs))
      at true e =
          let own : filter (is_under h) (with_row (own_row marked h (g c)) rows) ≡ map (own_row marked h) (filter (is_in_group group h) (changed (has_number n) (λ x. g x ∷ []) cs)) =
          with_own (is_under h) (own_row marked h (g c)) rows (under_own h (g c).number (marked (g c)) own_fits) rises
          ∙ ap (λ (l : List Row). with_row (own_row marked h (g c)) l) (holds h)
          ∙ put_between h (is_in_group group h) c cs s found (grouped_so group marked h h (g c) grouped ∙ eq-eqb h h refl) in
          subst (λ z. filter (is_under z) (with_row (own_row marked h (g c)) rows) ≡ map (own_row marked z) (filter (is_in_group group z) (changed (has_number n) (λ x. g x ∷ []) cs))) (same_number h k e) own
      at false e =
          with_other (is_under k) (own_row marked h (g c)) rows (under_other k h (g c).number (own_row marked h (g c)) own_fits refl e)
          ∙ holds k
          ∙ ap (λ (l : List StoredCopy). map (own_row marked k) l) (sym (lost_again (is_in_group group k) cs (λ x there. grouped_so group marked h k (g x) (ap (λ (z : StoredCopy). group (g z)) (let both_found : Some x ≡ Some c = sym there ∙ found in let same : x ≡ c = cc in same) ∙ grouped) ∙ e)))

    -- a copy that stands otherwise: it may be in another group now, where its row isn't marked
    pub moved_so : (was : Option (Option ℕ)) (to : Option ℕ) (rows new : List Row) (cs after : List StoredCopy) → n < span → AreInOrder cs → AreBelow span cs → AreRising rows → was ≡ option_map group (find (has_number n) cs) → ((c : StoredCopy) → group (g c) ≡ to) → ((c : StoredCopy) → marked (g c) ≡ false) → HoldsGroups group marked rows cs → new ≡ moved_grouped was n to rows → after ≡ changed (has_number n) (λ c. g c ∷ []) cs → HoldsGroups group marked new after
    moved_so was to rows new cs after fits s b rises is grouped unmarked holds moved stands = subst (λ (l : List Row). HoldsGroups group marked l after) (sym (moved ∙ ap (λ w. moved_grouped w n to rows) is)) (subst (λ (l : List StoredCopy). HoldsGroups group marked (moved_grouped (option_map group (find (has_number n) cs)) n to rows) l) (sym stands) (at (find (has_number n) cs) refl)) where
      at : (o : Option StoredCopy) → find (has_number n) cs ≡ o → HoldsGroups group marked (moved_grouped (option_map group o) n to rows) (changed (has_number n) (λ c. g c ∷ []) cs)
      at None found = subst (λ (l : List StoredCopy). HoldsGroups group marked rows l) (sym (none_changed n (λ c. g c ∷ []) cs found)) holds
      at (Some c) found = inner to refl where
        out : HoldsGroups group marked (without_grouped (group c) n rows) (changed (has_number n) (λ x. []) cs)
        out = left_so (Some (group c)) n rows (without_grouped (group c) n rows) cs (changed (has_number n) (λ x. []) cs) fits s b (sym (ap (λ (o : Option StoredCopy). option_map group o) found)) holds refl refl

        inner : (o : Option ℕ) → to ≡ o → HoldsGroups group marked (with_grouped o n false (without_grouped (group c) n rows)) (changed (has_number n) (λ x. g x ∷ []) cs)
        inner None none = λ k. out k ∙ ap (λ (l : List StoredCopy). map (own_row marked k) l) (sym (lost_again (is_in_group group k) cs (λ x there. ap (λ (o : Option ℕ). option_map_or (λ own. own == k) o false) (grouped x ∙ none))))
        inner (Some h) some =
            let number : (g c).number ≡ n = numbered c ∙ number_found n c cs found in
            let row : own_row marked h (g c) ≡ group_row h n false = ap (λ (i : ℕ). group_row h i (marked (g c))) number ∙ ap (λ (b : Bool). group_row h n b) (unmarked c) in
            subst (λ (x : Row). HoldsGroups group marked (with_row x (without_grouped (group c) n rows)) (changed (has_number n) (λ x. g x ∷ []) cs)) row
            (joined h c (without_grouped (group c) n rows) cs fits s (rising_without (group c) n rows rises) found (grouped c ∙ some) out)
