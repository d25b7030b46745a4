-- Rows by group, as a copy is taken out or stands otherwise in the same group.
use Rattle.std.proofs.Common.{◌≡◌, ℕ, ◌+◌, ◌*◌, ◌<◌, List, [], ◌∷◌, map, find, nat_lt, ◌==◌, not, Bool, true, false, Option, Some, None, cond, if◌then◌else◌, refl, sym, ap, ◌∙◌, subst, arith}
use Rattle.std.specs.List.{filter, list_all}
use Rattle.std.specs.Option.{option_map_or}
use Rattle.std.proofs.lemmas.Bool.{ne_eqb}
use Rattle.sb_index.specs.Rows.{AreAbove, is_at, told, without}
use Rattle.sb_index.specs.Rows as index
use Rattle.sb_index.specs.declared.row.Row.{Row}
use Rattle.sb_machine.specs.Keyed.{changed}
use Rattle.sb_machine.specs.Leaves.{has_number}
use Rattle.sb_machine.specs.declared.state.StoredCopy.{StoredCopy}
use Rattle.sb_copies.specs.Grouped.{HoldsGroups, group_at, is_in_group, is_under, own_row, span, without_grouped}
use Rattle.sb_copies.specs.Shelf.{AreBelow, AreInOrder, is_before, rows_of}
use Rattle.sb_copies.proofs.Grouped.{grouped_so, other_group, other_number, own_number, is_lt}
use Rattle.sb_copies.proofs.Order.{both, same_number}

-- ---- rows alone

filters_swap : (p q : Row → Bool) (ys : List Row) → filter p (filter q ys) ≡ filter q (filter p ys)
filters_swap p q [] = refl
filters_swap p q (y ∷ ys) = at (p y) (q y) refl refl (filters_swap p q ys) where
  at : (a b : Bool) → p y ≡ a → q y ≡ b → filter p (filter q ys) ≡ filter q (filter p ys) → filter p (filter q (y ∷ ys)) ≡ filter q (filter p (y ∷ ys))
  at true true e f ih = rw (e, f, e) (ap (λ (l : List Row). y ∷ l) ih)
  at true false e f ih = rw (e, f) ih
  at false true e f ih = rw (e, f, e) ih
  at false false e f ih = rw (e, f) ih

under_told : (k key : ℕ) (m : Bool) (d : ℕ) (x : Row) → is_under k (told key m d x) ≡ is_under k x
under_told k key m d x = at (key == x.key) where
  at : (b : Bool) → is_under k (if b then record { key = x.key; value = x.value; marked = m; due = d } else x) ≡ is_under k x
  at true = refl
  at false = refl

told_swap : (k key : ℕ) (m : Bool) (d : ℕ) (ys : List Row) → filter (is_under k) (index.changed key m d ys) ≡ index.changed key m d (filter (is_under k) ys)
told_swap k key m d [] = refl
told_swap k key m d (y ∷ ys) = rw (under_told k key m d y) (at (is_under k y) (told_swap k key m d ys)) where
  at : (b : Bool) → filter (is_under k) (index.changed key m d ys) ≡ index.changed key m d (filter (is_under k) ys) → cond b (told key m d y ∷ filter (is_under k) (index.changed key m d ys)) (filter (is_under k) (index.changed key m d ys)) ≡ index.changed key m d (cond b (y ∷ filter (is_under k) ys) (filter (is_under k) ys))
  at true ih = ap (λ (l : List Row). told key m d y ∷ l) ih
  at false ih = ih

module _ (group : StoredCopy → Option ℕ) (marked : StoredCopy → Bool) where
  -- ---- the copy of a number

  ungrouped : (n h k : ℕ) (cs : List StoredCopy) → group_at group n cs ≡ Some h → (h == k) ≡ false → (c : StoredCopy) → find (has_number n) cs ≡ Some c → is_in_group group k c ≡ false
  ungrouped n h k cs at_n e c found = grouped_so group marked h k c (rw found at at_n) ∙ e

  groupless : (n k : ℕ) (cs : List StoredCopy) → group_at group n cs ≡ None → (c : StoredCopy) → find (has_number n) cs ≡ Some c → is_in_group group k c ≡ false
  groupless n k cs at_n c found = ap (λ (o : Option ℕ). option_map_or (λ own. own == k) o false) (none_of c (rw found at at_n)) where
    none_of : (c : StoredCopy) → group c ≡ None → group c ≡ None
    none_of c e = e

  -- ---- one less

  none_at : (h n : ℕ) (q : StoredCopy → Bool) (cs : List StoredCopy) → AreAbove n (rows_of cs) → without (h * span + n) (map (own_row marked h) (filter q cs)) ≡ map (own_row marked h) (filter q cs)
  none_at h n q [] a = refl
  none_at h n q (c ∷ cs) a = at (q c) (none_at h n q cs a.1) where
    other : (h * span + n == h * span + c.number) ≡ false
    other = ne_eqb (h * span + n) (h * span + c.number) (let p : n < c.number = a.0 in omega (arith, p))

    at : (b : Bool) → without (h * span + n) (map (own_row marked h) (filter q cs)) ≡ map (own_row marked h) (filter q cs) → without (h * span + n) (map (own_row marked h) (cond b (c ∷ filter q cs) (filter q cs))) ≡ map (own_row marked h) (cond b (c ∷ filter q cs) (filter q cs))
    at true ih = rw other (ap (λ (l : List Row). own_row marked h c ∷ l) ih)
    at false ih = ih

  taken_own : (h n : ℕ) (q : StoredCopy → Bool) (cs : List StoredCopy) → AreInOrder cs → without (h * span + n) (map (own_row marked h) (filter q cs)) ≡ map (own_row marked h) (filter q (changed (has_number n) (λ c. []) cs))
  taken_own h n q [] s = refl
  taken_own h n q (c ∷ cs) s = at (c.number == n) refl (taken_own h n q cs s.1) where
    at : (b : Bool) → (c.number == n) ≡ b → without (h * span + n) (map (own_row marked h) (filter q cs)) ≡ map (own_row marked h) (filter q (changed (has_number n) (λ x. []) cs)) → without (h * span + n) (map (own_row marked h) (filter q (c ∷ cs))) ≡ map (own_row marked h) (filter q (changed (has_number n) (λ x. []) (c ∷ cs)))
    at true e ih = rw e (inner (q c)) where
      rest : without (h * span + n) (map (own_row marked h) (filter q cs)) ≡ map (own_row marked h) (filter q cs)
      rest = none_at h n q cs (subst (λ k. AreAbove k (rows_of cs)) (same_number c.number n e) s.0)

      inner : (t : Bool) → without (h * span + n) (map (own_row marked h) (cond t (c ∷ filter q cs) (filter q cs))) ≡ map (own_row marked h) (filter q cs)
      inner true = rw (own_number h c.number n e) rest
      inner false = rest
    at false e ih = rw e (inner (q c)) where
      inner : (t : Bool) → without (h * span + n) (map (own_row marked h) (cond t (c ∷ filter q cs) (filter q cs))) ≡ map (own_row marked h) (cond t (c ∷ filter q (changed (has_number n) (λ x. []) cs)) (filter q (changed (has_number n) (λ x. []) cs)))
      inner true = rw (other_number h c.number n e) (ap (λ (l : List Row). own_row marked h c ∷ l) ih)
      inner false = ih

  taken_other : (h k n : ℕ) (q : StoredCopy → Bool) (cs : List StoredCopy) → AreBelow span cs → n < span → (h == k) ≡ false → without (h * span + n) (map (own_row marked k) (filter q cs)) ≡ map (own_row marked k) (filter q cs)
  taken_other h k n q [] b fits e = refl
  taken_other h k n q (c ∷ cs) b fits e = at (q c) (taken_other h k n q cs it.1 fits e) where
    it : (nat_lt c.number span ≡ true) × (list_all (is_before span) cs ≡ true)
    it = both (nat_lt c.number span) (list_all (is_before span) cs) b

    at : (t : Bool) → without (h * span + n) (map (own_row marked k) (filter q cs)) ≡ map (own_row marked k) (filter q cs) → without (h * span + n) (map (own_row marked k) (cond t (c ∷ filter q cs) (filter q cs))) ≡ map (own_row marked k) (cond t (c ∷ filter q cs) (filter q cs))
    at true ih = rw (other_group h k c.number n (is_lt c.number span it.0) fits e) (ap (λ (l : List Row). own_row marked k c ∷ l) ih)
    at false ih = ih

  -- copies of another hash stay as they are
  kept_taken : (n : ℕ) (q : StoredCopy → Bool) (cs : List StoredCopy) → ((c : StoredCopy) → find (has_number n) cs ≡ Some c → q c ≡ false) → filter q (changed (has_number n) (λ c. []) cs) ≡ filter q cs
  kept_taken n q [] other = refl
  kept_taken n q (c ∷ cs) other = at (c.number == n) refl (kept_taken n q cs) where
    at : (b : Bool) → (c.number == n) ≡ b → (((x : StoredCopy) → find (has_number n) cs ≡ Some x → q x ≡ false) → filter q (changed (has_number n) (λ x. []) cs) ≡ filter q cs) → filter q (changed (has_number n) (λ x. []) (c ∷ cs)) ≡ filter q (c ∷ cs)
    at true e ih = rw (e, other c (rw e refl)) refl
    at false e ih = rw e (ap (λ (l : List StoredCopy). cond (q c) (c ∷ l) l) (ih (λ x found. other x (rw e found))))

  pub group_taken : (n h : ℕ) (rows new : List Row) (cs after : List StoredCopy) → n < span → AreInOrder cs → AreBelow span cs → group_at group n cs ≡ Some h → HoldsGroups group marked rows cs → new ≡ without (h * span + n) rows → after ≡ changed (has_number n) (λ c. []) cs → HoldsGroups group marked new after
  group_taken n h rows new cs after fits s b at_n holds removed taken k = ap (λ (l : List Row). filter (is_under k) l) removed ∙ swapped ∙ at (h == k) refl ∙ ap (λ (l : List StoredCopy). map (own_row marked k) (filter (is_in_group group k) l)) (sym taken) where
    swapped : filter (is_under k) (without (h * span + n) rows) ≡ without (h * span + n) (map (own_row marked k) (filter (is_in_group group k) cs))
    swapped = filters_swap (is_under k) (λ x. not (is_at (h * span + n) x)) rows ∙ ap (λ (l : List Row). without (h * span + n) l) (holds k)

    at : (t : Bool) → (h == k) ≡ t → without (h * span + n) (map (own_row marked k) (filter (is_in_group group k) cs)) ≡ map (own_row marked k) (filter (is_in_group group k) (changed (has_number n) (λ c. []) cs))
    at true e = subst (λ z. without (h * span + n) (map (own_row marked z) (filter (is_in_group group z) cs)) ≡ map (own_row marked z) (filter (is_in_group group z) (changed (has_number n) (λ c. []) cs))) (same_number h k e) (taken_own h n (is_in_group group h) cs s)
    at false e = taken_other h k n (is_in_group group k) cs b fits e ∙ ap (λ (l : List StoredCopy). map (own_row marked k) l) (sym (kept_taken n (is_in_group group k) cs (ungrouped n h k cs at_n e)))

  pub group_untaken : (n : ℕ) (rows : List Row) (cs after : List StoredCopy) → group_at group n cs ≡ None → HoldsGroups group marked rows cs → after ≡ changed (has_number n) (λ c. []) cs → HoldsGroups group marked rows after
  group_untaken n rows cs after at_n holds taken k =
      holds k
      ∙ ap (λ (l : List StoredCopy). map (own_row marked k) l) (sym (kept_taken n (is_in_group group k) cs (groupless n k cs at_n)))
      ∙ ap (λ (l : List StoredCopy). map (own_row marked k) (filter (is_in_group group k) l)) (sym taken)

  pub taken_so : (n : ℕ) (o : Option ℕ) (rows new : List Row) (cs after : List StoredCopy) → n < span → AreInOrder cs → AreBelow span cs → o ≡ group_at group n cs → HoldsGroups group marked rows cs → new ≡ without_grouped o n rows → after ≡ changed (has_number n) (λ c. []) cs → HoldsGroups group marked new after
  taken_so n None rows new cs after fits s b at_n holds removed taken = subst (λ (l : List Row). HoldsGroups group marked l after) (sym removed) (group_untaken n rows cs after (sym at_n) holds taken)
  taken_so n (Some h) rows new cs after fits s b at_n holds removed taken = group_taken n h rows new cs after fits s b (sym at_n) holds removed taken

  -- ---- one that stands otherwise

  untold_at : (h n : ℕ) (m : Bool) (d : ℕ) (q : StoredCopy → Bool) (cs : List StoredCopy) → AreAbove n (rows_of cs) → index.changed (h * span + n) m d (map (own_row marked h) (filter q cs)) ≡ map (own_row marked h) (filter q cs)
  untold_at h n m d q [] a = refl
  untold_at h n m d q (c ∷ cs) a = at (q c) (untold_at h n m d q cs a.1) where
    other : (h * span + n == h * span + c.number) ≡ false
    other = ne_eqb (h * span + n) (h * span + c.number) (let p : n < c.number = a.0 in omega (arith, p))

    at : (b : Bool) → index.changed (h * span + n) m d (map (own_row marked h) (filter q cs)) ≡ map (own_row marked h) (filter q cs) → index.changed (h * span + n) m d (map (own_row marked h) (cond b (c ∷ filter q cs) (filter q cs))) ≡ map (own_row marked h) (cond b (c ∷ filter q cs) (filter q cs))
    at true ih = rw other (ap (λ (l : List Row). own_row marked h c ∷ l) ih)
    at false ih = ih

  untold_other : (h k n : ℕ) (m : Bool) (d : ℕ) (q : StoredCopy → Bool) (cs : List StoredCopy) → AreBelow span cs → n < span → (h == k) ≡ false → index.changed (h * span + n) m d (map (own_row marked k) (filter q cs)) ≡ map (own_row marked k) (filter q cs)
  untold_other h k n m d q [] b fits e = refl
  untold_other h k n m d q (c ∷ cs) b fits e = at (q c) (untold_other h k n m d q cs it.1 fits e) where
    it : (nat_lt c.number span ≡ true) × (list_all (is_before span) cs ≡ true)
    it = both (nat_lt c.number span) (list_all (is_before span) cs) b

    at : (t : Bool) → index.changed (h * span + n) m d (map (own_row marked k) (filter q cs)) ≡ map (own_row marked k) (filter q cs) → index.changed (h * span + n) m d (map (own_row marked k) (cond t (c ∷ filter q cs) (filter q cs))) ≡ map (own_row marked k) (cond t (c ∷ filter q cs) (filter q cs))
    at true ih = rw (other_group h k c.number n (is_lt c.number span it.0) fits e) (ap (λ (l : List Row). own_row marked k c ∷ l) ih)
    at false ih = ih

  module _ (n : ℕ) (g : StoredCopy → StoredCopy) (same : (k : ℕ) (c : StoredCopy) → is_in_group group k (g c) ≡ is_in_group group k c) where
    kept_told : (k : ℕ) (cs : List StoredCopy) → ((c : StoredCopy) → find (has_number n) cs ≡ Some c → is_in_group group k c ≡ false) → filter (is_in_group group k) (changed (has_number n) (λ c. g c ∷ []) cs) ≡ filter (is_in_group group k) cs
    kept_told k [] other = refl
    kept_told k (c ∷ cs) other = at (c.number == n) refl (kept_told k cs) where
      at : (b : Bool) → (c.number == n) ≡ b → (((x : StoredCopy) → find (has_number n) cs ≡ Some x → is_in_group group k x ≡ false) → filter (is_in_group group k) (changed (has_number n) (λ x. g x ∷ []) cs) ≡ filter (is_in_group group k) cs) → filter (is_in_group group k) (changed (has_number n) (λ x. g x ∷ []) (c ∷ cs)) ≡ filter (is_in_group group k) (c ∷ cs)
      at true e ih = let fails : is_in_group group k c ≡ false = other c (rw e refl) in rw (e, same k c ∙ fails, fails) refl
      at false e ih = rw e (ap (λ (l : List StoredCopy). cond (is_in_group group k c) (c ∷ l) l) (ih (λ x found. other x (rw e found))))

    pub group_untold : (rows : List Row) (cs after : List StoredCopy) → group_at group n cs ≡ None → HoldsGroups group marked rows cs → after ≡ changed (has_number n) (λ c. g c ∷ []) cs → HoldsGroups group marked rows after
    group_untold rows cs after at_n holds stands k =
        holds k
        ∙ ap (λ (l : List StoredCopy). map (own_row marked k) l) (sym (kept_told k cs (groupless n k cs at_n)))
        ∙ ap (λ (l : List StoredCopy). map (own_row marked k) (filter (is_in_group group k) l)) (sym stands)

    module _ (m : Bool) (d : ℕ) (row_so : (h : ℕ) (c : StoredCopy) → record { key = h * span + c.number; value = c.number; marked = m; due = d } ≡ own_row marked h (g c)) where
      told_own : (h : ℕ) (cs : List StoredCopy) → AreInOrder cs → index.changed (h * span + n) m d (map (own_row marked h) (filter (is_in_group group h) cs)) ≡ map (own_row marked h) (filter (is_in_group group h) (changed (has_number n) (λ c. g c ∷ []) cs))
      told_own h [] s = refl
      told_own h (c ∷ cs) s = at (c.number == n) refl (told_own h cs s.1) where
        at : (b : Bool) → (c.number == n) ≡ b → index.changed (h * span + n) m d (map (own_row marked h) (filter (is_in_group group h) cs)) ≡ map (own_row marked h) (filter (is_in_group group h) (changed (has_number n) (λ x. g x ∷ []) cs)) → index.changed (h * span + n) m d (map (own_row marked h) (filter (is_in_group group h) (c ∷ cs))) ≡ map (own_row marked h) (filter (is_in_group group h) (changed (has_number n) (λ x. g x ∷ []) (c ∷ cs)))
        at true e ih = rw (e, same h c) (inner (is_in_group group h c)) where
          rest : index.changed (h * span + n) m d (map (own_row marked h) (filter (is_in_group group h) cs)) ≡ map (own_row marked h) (filter (is_in_group group h) cs)
          rest = untold_at h n m d (is_in_group group h) cs (subst (λ k. AreAbove k (rows_of cs)) (same_number c.number n e) s.0)

          inner : (t : Bool) → index.changed (h * span + n) m d (map (own_row marked h) (cond t (c ∷ filter (is_in_group group h) cs) (filter (is_in_group group h) cs))) ≡ map (own_row marked h) (cond t (g c ∷ filter (is_in_group group h) cs) (filter (is_in_group group h) cs))
          inner true = rw (own_number h c.number n e) (ap (λ (x : Row). x ∷ index.changed (h * span + n) m d (map (own_row marked h) (filter (is_in_group group h) cs))) (row_so h c) ∙ ap (λ (l : List Row). own_row marked h (g c) ∷ l) rest)
          inner false = rest
        at false e ih = rw e (inner (is_in_group group h c)) where
          inner : (t : Bool) → index.changed (h * span + n) m d (map (own_row marked h) (cond t (c ∷ filter (is_in_group group h) cs) (filter (is_in_group group h) cs))) ≡ map (own_row marked h) (cond t (c ∷ filter (is_in_group group h) (changed (has_number n) (λ x. g x ∷ []) cs)) (filter (is_in_group group h) (changed (has_number n) (λ x. g x ∷ []) cs)))
          inner true = rw (other_number h c.number n e) (ap (λ (l : List Row). own_row marked h c ∷ l) ih)
          inner false = ih

      pub group_told : (h : ℕ) (rows new : List Row) (cs after : List StoredCopy) → n < span → AreInOrder cs → AreBelow span cs → group_at group n cs ≡ Some h → HoldsGroups group marked rows cs → new ≡ index.changed (h * span + n) m d rows → after ≡ changed (has_number n) (λ c. g c ∷ []) cs → HoldsGroups group marked new after
      group_told h rows new cs after fits s b at_n holds told_there stands k = ap (λ (l : List Row). filter (is_under k) l) told_there ∙ swapped ∙ at (h == k) refl ∙ ap (λ (l : List StoredCopy). map (own_row marked k) (filter (is_in_group group k) l)) (sym stands) where
        swapped : filter (is_under k) (index.changed (h * span + n) m d rows) ≡ index.changed (h * span + n) m d (map (own_row marked k) (filter (is_in_group group k) cs))
        swapped = told_swap k (h * span + n) m d rows ∙ ap (λ (l : List Row). index.changed (h * span + n) m d l) (holds k)

        at : (t : Bool) → (h == k) ≡ t → index.changed (h * span + n) m d (map (own_row marked k) (filter (is_in_group group k) cs)) ≡ map (own_row marked k) (filter (is_in_group group k) (changed (has_number n) (λ c. g c ∷ []) cs))
        at true e = subst (λ z. index.changed (h * span + n) m d (map (own_row marked z) (filter (is_in_group group z) cs)) ≡ map (own_row marked z) (filter (is_in_group group z) (changed (has_number n) (λ c. g c ∷ []) cs))) (same_number h k e) (told_own h cs s)
        at false e = untold_other h k n m d (is_in_group group k) cs b fits e ∙ ap (λ (l : List StoredCopy). map (own_row marked k) l) (sym (kept_told k cs (ungrouped n h k cs at_n e)))

      pub told_so : (o : Option ℕ) (rows new : List Row) (cs after : List StoredCopy) → n < span → AreInOrder cs → AreBelow span cs → o ≡ group_at group n cs → HoldsGroups group marked rows cs → new ≡ option_map_or (λ h. index.changed (h * span + n) m d rows) o rows → after ≡ changed (has_number n) (λ c. g c ∷ []) cs → HoldsGroups group marked new after
      told_so None rows new cs after fits s b at_n holds told_there stands = subst (λ (l : List Row). HoldsGroups group marked l after) (sym told_there) (group_untold rows cs after (sym at_n) holds stands)
      told_so (Some h) rows new cs after fits s b at_n holds told_there stands = group_told h rows new cs after fits s b (sym at_n) holds told_there stands

    module _ (same_row : (h : ℕ) (c : StoredCopy) → own_row marked h (g c) ≡ own_row marked h c) where
      stays_under : (h : ℕ) (cs : List StoredCopy) → map (own_row marked h) (filter (is_in_group group h) (changed (has_number n) (λ c. g c ∷ []) cs)) ≡ map (own_row marked h) (filter (is_in_group group h) cs)
      stays_under h [] = refl
      stays_under h (c ∷ cs) = at (c.number == n) refl (stays_under h cs) where
        at : (b : Bool) → (c.number == n) ≡ b → map (own_row marked h) (filter (is_in_group group h) (changed (has_number n) (λ x. g x ∷ []) cs)) ≡ map (own_row marked h) (filter (is_in_group group h) cs) → map (own_row marked h) (filter (is_in_group group h) (changed (has_number n) (λ x. g x ∷ []) (c ∷ cs))) ≡ map (own_row marked h) (filter (is_in_group group h) (c ∷ cs))
        at true e ih = rw (e, same h c) (inner (is_in_group group h c)) where
          inner : (t : Bool) → map (own_row marked h) (cond t (g c ∷ filter (is_in_group group h) cs) (filter (is_in_group group h) cs)) ≡ map (own_row marked h) (cond t (c ∷ filter (is_in_group group h) cs) (filter (is_in_group group h) cs))
          inner true = ap (λ (x : Row). x ∷ map (own_row marked h) (filter (is_in_group group h) cs)) (same_row h c)
          inner false = refl
        at false e ih = rw e (inner (is_in_group group h c)) where
          inner : (t : Bool) → map (own_row marked h) (cond t (c ∷ filter (is_in_group group h) (changed (has_number n) (λ x. g x ∷ []) cs)) (filter (is_in_group group h) (changed (has_number n) (λ x. g x ∷ []) cs))) ≡ map (own_row marked h) (cond t (c ∷ filter (is_in_group group h) cs) (filter (is_in_group group h) cs))
          inner true = ap (λ (l : List Row). own_row marked h c ∷ l) ih
          inner false = ih

      pub group_stays : (rows : List Row) (cs after : List StoredCopy) → HoldsGroups group marked rows cs → after ≡ changed (has_number n) (λ c. g c ∷ []) cs → HoldsGroups group marked rows after
      group_stays rows cs after holds stands k = holds k ∙ sym (stays_under k cs) ∙ ap (λ (l : List StoredCopy). map (own_row marked k) (filter (is_in_group group k) l)) (sym stands)
