-- Rows by group: what stands under one of them as a copy is added.
use Rattle.std.proofs.Common.{◌≡◌, ℕ, ◌+◌, ◌*◌, ◌<◌, ◌≤◌, ◌⊎◌, inl, inr, List, [], ◌∷◌, ◌++◌, map, nat_lt, nat_le, ◌==◌, ◌||◌, Bool, true, false, Option, Some, None, cond, refl, sym, ap, ◌∙◌, subst, arith}
use Rattle.std.specs.List.{filter, insert, list_all, list_any, prefix_len}
use Rattle.std.specs.Option.{option_map_or}
use Rattle.std.proofs.lemmas.Bool.Decides.{nat_tests}
use Rattle.std.proofs.lemmas.Bool.{eq-eqb, ne_eqb}
use Rattle.sb_index.specs.Rows.{AreAbove, AreRising, Lacks, is_at, is_below, with_row}
use Rattle.sb_index.specs.declared.row.Row.{Row}
use Rattle.sb_machine.specs.Leaves.{has_number}
use Rattle.sb_machine.specs.declared.state.StoredCopy.{StoredCopy}
use Rattle.sb_copies.specs.Grouped.{HoldsGroups, group_row, is_in_group, is_under, own_row, span, with_grouped}
use Rattle.sb_copies.specs.Shelf.{AreBelow, is_before}
use Rattle.sb_copies.proofs.Order.{both, one_more, same_number}

-- ---- keys

pub is_le : (a b : ℕ) → nat_le a b ≡ true → a ≤ b
is_le a b e = grind (arith, nat_tests)

pub is_lt : (a b : ℕ) → nat_lt a b ≡ true → a < b
is_lt a b e = grind (arith, nat_tests)

pub le_is : (a b : ℕ) → a ≤ b → nat_le a b ≡ true
le_is a b p = grind (arith, nat_tests)

pub lt_is : (a b : ℕ) → a < b → nat_lt a b ≡ true
lt_is a b p = grind (arith, nat_tests)

pub not_lt : (a b : ℕ) → b ≤ a → nat_lt a b ≡ false
not_lt a b p = grind (arith, nat_tests)

not_lower : (a b : ℕ) → nat_lt a b ≡ false → b ≤ a
not_lower a b e = grind (arith, nat_tests)

pub differ : (a b : ℕ) → (a == b) ≡ false → (a < b) ⊎ (b < a)
differ a b e = grind (arith, nat_tests)

pub turned : (m n : ℕ) (b : Bool) → (m == n) ≡ b → (n == m) ≡ b
turned m n true e = grind (arith, nat_tests)
turned m n false e = grind (arith, nat_tests)

pub under_own : (h n : ℕ) (b : Bool) → n < span → is_under h (group_row h n b) ≡ true
under_own h n b p = rw (le_is (h * span) (h * span + n) (omega arith), lt_is (h * span + n) (h * span + span) (omega (arith, p))) refl

outside : (h k n key : ℕ) → n < span → key ≡ k * span + n → (h < k) ⊎ (k < h) → h * span ≤ key → key < h * span + span → ⊥
outside h k n key p is (inl q) from below = omega (arith, p, is, q, from, below)
outside h k n key p is (inr q) from below = omega (arith, p, is, q, from, below)

pub under_other : (h k n : ℕ) (x : Row) → n < span → x.key ≡ k * span + n → (k == h) ≡ false → is_under h x ≡ false
under_other h k n x p is e = at (is_under h x) refl where
  at : (b : Bool) → is_under h x ≡ b → is_under h x ≡ false
  at true u =
      let it = both (nat_le (h * span) x.key) (nat_lt x.key (h * span + span)) u in
      absurd (outside h k n x.key p is (differ h k (turned k h false e)) (is_le (h * span) x.key it.0) (is_lt x.key (h * span + span) it.1))
  at false u = u

pub other_number : (h m n : ℕ) → (m == n) ≡ false → (h * span + n == h * span + m) ≡ false
other_number h m n e = ne_eqb (h * span + n) (h * span + m) (apart (differ m n e)) where
  apart : (m < n) ⊎ (n < m) → h * span + n ≡ h * span + m → ⊥
  apart (inl q) is = omega (arith, q, is)
  apart (inr q) is = omega (arith, q, is)

pub own_number : (h m n : ℕ) → (m == n) ≡ true → (h * span + n == h * span + m) ≡ true
own_number h m n e = let same : m ≡ n = same_number m n e in eq-eqb (h * span + n) (h * span + m) (ap (λ z. h * span + z) (sym same))

pub other_group : (h k m n : ℕ) → m < span → n < span → (h == k) ≡ false → (h * span + n == k * span + m) ≡ false
other_group h k m n p q e = ne_eqb (h * span + n) (k * span + m) (apart (differ h k e)) where
  apart : (h < k) ⊎ (k < h) → h * span + n ≡ k * span + m → ⊥
  apart (inl r) is = omega (arith, p, q, r, is)
  apart (inr r) is = omega (arith, p, q, r, is)

-- ---- one more

pub with_later : (x y : Row) (l : List Row) → nat_lt y.key x.key ≡ true → with_row x (y ∷ l) ≡ y ∷ with_row x l
with_later x y l e = ap (λ b. insert (y ∷ l) (cond b (1 + prefix_len (is_below x.key) l) 0) x) e ∙ ap (λ n. insert (y ∷ l) n x) (one_more (prefix_len (is_below x.key) l))

pub with_first : (x y : Row) (l : List Row) → nat_lt y.key x.key ≡ false → with_row x (y ∷ l) ≡ x ∷ y ∷ l
with_first x y l e = ap (λ b. insert (y ∷ l) (cond b (1 + prefix_len (is_below x.key) l) 0) x) e

-- all of these are behind its key
put_first : (p : Row → Bool) (x : Row) (k : ℕ) (ys : List Row) → x.key ≤ k → AreAbove k ys → with_row x (filter p ys) ≡ x ∷ filter p ys
put_first p x k [] le a = refl
put_first p x k (y ∷ ys) le a = at (p y) refl (put_first p x k ys le a.1) where
  at : (b : Bool) → p y ≡ b → with_row x (filter p ys) ≡ x ∷ filter p ys → with_row x (filter p (y ∷ ys)) ≡ x ∷ filter p (y ∷ ys)
  at true e ih = rw e (with_first x y (filter p ys) (let q : k < y.key = a.0 in not_lt y.key x.key (omega (arith, le, q))))
  at false e ih = rw e ih

-- all of these are before its key
put_last : (x : Row) (ys : List Row) → list_all (is_below x.key) ys ≡ true → with_row x ys ≡ ys ++ x ∷ []
put_last x [] low = refl
put_last x (y ∷ ys) low = let it = both (nat_lt y.key x.key) (list_all (is_below x.key) ys) low in with_later x y ys it.0 ∙ ap (λ (l : List Row). y ∷ l) (put_last x ys it.1)

pub with_own : (p : Row → Bool) (x : Row) (ys : List Row) → p x ≡ true → AreRising ys → filter p (with_row x ys) ≡ with_row x (filter p ys)
with_own p x [] passes s = rw passes refl
with_own p x (y ∷ ys) passes s = at (nat_lt y.key x.key) refl (with_own p x ys passes s.1) where
  at : (b : Bool) → nat_lt y.key x.key ≡ b → filter p (with_row x ys) ≡ with_row x (filter p ys) → filter p (with_row x (y ∷ ys)) ≡ with_row x (filter p (y ∷ ys))
  at true e ih = ap (λ (l : List Row). filter p l) (with_later x y ys e) ∙ inner (p y) refl where
    inner : (b : Bool) → p y ≡ b → filter p (y ∷ with_row x ys) ≡ with_row x (filter p (y ∷ ys))
    inner true f = rw f (ap (λ (l : List Row). y ∷ l) ih ∙ sym (with_later x y (filter p ys) e))
    inner false f = rw f ih
  at false e ih = ap (λ (l : List Row). filter p l) (with_first x y ys e) ∙ rw passes (sym (inner (p y) refl)) where
    inner : (b : Bool) → p y ≡ b → with_row x (filter p (y ∷ ys)) ≡ x ∷ filter p (y ∷ ys)
    inner true f = rw f (with_first x y (filter p ys) e)
    inner false f = rw f (put_first p x y.key ys (not_lower y.key x.key e) s.0)

pub with_other : (p : Row → Bool) (x : Row) (ys : List Row) → p x ≡ false → filter p (with_row x ys) ≡ filter p ys
with_other p x [] fails = rw fails refl
with_other p x (y ∷ ys) fails = at (nat_lt y.key x.key) refl (with_other p x ys fails) where
  at : (b : Bool) → nat_lt y.key x.key ≡ b → filter p (with_row x ys) ≡ filter p ys → filter p (with_row x (y ∷ ys)) ≡ filter p (y ∷ ys)
  at true e ih = ap (λ (l : List Row). filter p l) (with_later x y ys e) ∙ ap (λ (l : List Row). cond (p y) (y ∷ l) l) ih
  at false e ih = ap (λ (l : List Row). filter p l) (with_first x y ys e) ∙ rw fails refl

last_kept : (q : StoredCopy → Bool) (c : StoredCopy) (cs : List StoredCopy) → q c ≡ true → filter q (cs ++ c ∷ []) ≡ filter q cs ++ c ∷ []
last_kept q c [] e = rw e refl
last_kept q c (y ∷ ys) e = at (q y) (last_kept q c ys e) where
  at : (b : Bool) → filter q (ys ++ c ∷ []) ≡ filter q ys ++ c ∷ [] → cond b (y ∷ filter q (ys ++ c ∷ [])) (filter q (ys ++ c ∷ [])) ≡ cond b (y ∷ filter q ys) (filter q ys) ++ c ∷ []
  at true ih = ap (λ (l : List StoredCopy). y ∷ l) ih
  at false ih = ih

last_lost : (q : StoredCopy → Bool) (c : StoredCopy) (cs : List StoredCopy) → q c ≡ false → filter q (cs ++ c ∷ []) ≡ filter q cs
last_lost q c [] e = rw e refl
last_lost q c (y ∷ ys) e = ap (λ (l : List StoredCopy). cond (q y) (y ∷ l) l) (last_lost q c ys e)

lacks_by : (p : Row → Bool) (key : ℕ) (ys : List Row) → ((y : Row) → (key == y.key) ≡ true → p y ≡ true) → Lacks key (filter p ys) → Lacks key ys
lacks_by p key [] own none = refl
lacks_by p key (y ∷ ys) own none = at (key == y.key) refl (lacks_by p key ys own) where
  at : (b : Bool) → (key == y.key) ≡ b → (Lacks key (filter p ys) → Lacks key ys) → Lacks key (y ∷ ys)
  at true e ih = absurd (let bad : true ≡ false = sym (ap (λ b. b || list_any (is_at key) (filter p ys)) e) ∙ (rw (own y e) at none) in cc)
  at false e ih = rw e (inner (p y) refl) where
    inner : (b : Bool) → p y ≡ b → list_any (is_at key) ys ≡ false
    inner true f = ih (let it : ((key == y.key) || list_any (is_at key) (filter p ys)) ≡ false = rw f at none in rw e at it)
    inner false f = ih (rw f at none)

differs : (m n : ℕ) → nat_lt m n ≡ true → (m == n) ≡ false
differs m n e = grind (arith, nat_tests)

-- a number that is above all isn't there
none_numbered : (n : ℕ) (cs : List StoredCopy) → AreBelow n cs → list_any (has_number n) cs ≡ false
none_numbered n [] b = refl
none_numbered n (c ∷ cs) b = let it = both (nat_lt c.number n) (list_all (is_before n) cs) b in rw (differs c.number n it.0) (none_numbered n cs it.1)

module _ (group : StoredCopy → Option ℕ) (marked : StoredCopy → Bool) where
  rows_last : (h : ℕ) (c : StoredCopy) (cs : List StoredCopy) → map (own_row marked h) (cs ++ c ∷ []) ≡ map (own_row marked h) cs ++ own_row marked h c ∷ []
  rows_last h c [] = refl
  rows_last h c (y ∷ ys) = ap (λ (l : List Row). own_row marked h y ∷ l) (rows_last h c ys)

  stretch_low : (h m : ℕ) (q : StoredCopy → Bool) (cs : List StoredCopy) → AreBelow m cs → list_all (is_below (h * span + m)) (map (own_row marked h) (filter q cs)) ≡ true
  stretch_low h m q [] b = refl
  stretch_low h m q (c ∷ cs) b = at (q c) (stretch_low h m q cs it.1) where
    it : (nat_lt c.number m ≡ true) × (list_all (is_before m) cs ≡ true)
    it = both (nat_lt c.number m) (list_all (is_before m) cs) b

    lower : nat_lt (h * span + c.number) (h * span + m) ≡ true
    lower = lt_is (h * span + c.number) (h * span + m) (let q = is_lt c.number m it.0 in omega (arith, q))

    at : (t : Bool) → list_all (is_below (h * span + m)) (map (own_row marked h) (filter q cs)) ≡ true → list_all (is_below (h * span + m)) (map (own_row marked h) (cond t (c ∷ filter q cs) (filter q cs))) ≡ true
    at true ih = rw lower ih
    at false ih = ih

  put_own : (h : ℕ) (c : StoredCopy) (rows : List Row) (cs : List StoredCopy) → c.number < span → AreRising rows → AreBelow c.number cs → is_in_group group h c ≡ true → HoldsGroups group marked rows cs → filter (is_under h) (with_row (own_row marked h c) rows) ≡ map (own_row marked h) (filter (is_in_group group h) (cs ++ c ∷ []))
  put_own h c rows cs fits s b own holds =
      with_own (is_under h) (own_row marked h c) rows (under_own h c.number (marked c) fits) s
      ∙ ap (λ (l : List Row). with_row (own_row marked h c) l) (holds h)
      ∙ put_last (own_row marked h c) (map (own_row marked h) (filter (is_in_group group h) cs)) (stretch_low h c.number (is_in_group group h) cs b)
      ∙ sym (rows_last h c (filter (is_in_group group h) cs))
      ∙ ap (λ (l : List StoredCopy). map (own_row marked h) l) (sym (last_kept (is_in_group group h) c cs own))

  pub grouped_so : (h k : ℕ) (c : StoredCopy) → group c ≡ Some h → is_in_group group k c ≡ (h == k)
  grouped_so h k c e = ap (λ (o : Option ℕ). option_map_or (λ own. own == k) o false) e

  pub group_put : (h : ℕ) (c : StoredCopy) (rows new : List Row) (cs after : List StoredCopy) → c.number < span → AreRising rows → AreBelow c.number cs → group c ≡ Some h → HoldsGroups group marked rows cs → new ≡ with_row (own_row marked h c) rows → after ≡ cs ++ c ∷ [] → HoldsGroups group marked new after
  group_put h c rows new cs after fits s b hashed holds put pushed k = ap (λ (l : List Row). filter (is_under k) l) put ∙ at (h == k) refl ∙ ap (λ (l : List StoredCopy). map (own_row marked k) (filter (is_in_group group k) l)) (sym pushed) where
    at : (t : Bool) → (h == k) ≡ t → filter (is_under k) (with_row (own_row marked h c) rows) ≡ map (own_row marked k) (filter (is_in_group group k) (cs ++ c ∷ []))
    at true e =
        let same : h ≡ k = same_number h k e in
        let own : is_in_group group h c ≡ true = grouped_so h h c hashed ∙ eq-eqb h h refl in
        subst (λ z. filter (is_under z) (with_row (own_row marked h c) rows) ≡ map (own_row marked z) (filter (is_in_group group z) (cs ++ c ∷ []))) same (put_own h c rows cs fits s b own holds)
    at false e =
        with_other (is_under k) (own_row marked h c) rows (under_other k h c.number (own_row marked h c) fits refl e)
        ∙ holds k
        ∙ ap (λ (l : List StoredCopy). map (own_row marked k) l) (sym (last_lost (is_in_group group k) c cs (grouped_so h k c hashed ∙ e)))

  pub group_unput : (c : StoredCopy) (rows : List Row) (cs after : List StoredCopy) → group c ≡ None → HoldsGroups group marked rows cs → after ≡ cs ++ c ∷ [] → HoldsGroups group marked rows after
  group_unput c rows cs after none holds pushed k =
      holds k
      ∙ ap (λ (l : List StoredCopy). map (own_row marked k) l) (sym (last_lost (is_in_group group k) c cs (ap (λ (o : Option ℕ). option_map_or (λ own. own == k) o false) none)))
      ∙ ap (λ (l : List StoredCopy). map (own_row marked k) (filter (is_in_group group k) l)) (sym pushed)

  stretch_lacks : (h n : ℕ) (q : StoredCopy → Bool) (cs : List StoredCopy) → list_any (has_number n) cs ≡ false → Lacks (h * span + n) (map (own_row marked h) (filter q cs))
  stretch_lacks h n q [] none = refl
  stretch_lacks h n q (c ∷ cs) none = at (c.number == n) refl (stretch_lacks h n q cs) where
    at : (b : Bool) → (c.number == n) ≡ b → (list_any (has_number n) cs ≡ false → Lacks (h * span + n) (map (own_row marked h) (filter q cs))) → Lacks (h * span + n) (map (own_row marked h) (filter q (c ∷ cs)))
    at true e ih = absurd (let bad : true ≡ false = sym (ap (λ b. b || list_any (has_number n) cs) e) ∙ none in cc)
    at false e ih = inner (q c) (ih (rw e at none)) where
      inner : (t : Bool) → Lacks (h * span + n) (map (own_row marked h) (filter q cs)) → Lacks (h * span + n) (map (own_row marked h) (cond t (c ∷ filter q cs) (filter q cs)))
      inner true rest = rw (other_number h c.number n e) rest
      inner false rest = rest

  -- where no copy has a number, no row has its key in any group
  pub lacks_numbered : (h n : ℕ) (rows : List Row) (cs : List StoredCopy) → n < span → list_any (has_number n) cs ≡ false → HoldsGroups group marked rows cs → Lacks (h * span + n) rows
  lacks_numbered h n rows cs fits none holds = lacks_by (is_under h) (h * span + n) rows own (subst (λ (l : List Row). Lacks (h * span + n) l) (sym (holds h)) (stretch_lacks h n (is_in_group group h) cs none)) where
    own : (y : Row) → (h * span + n == y.key) ≡ true → is_under h y ≡ true
    own y e = let same : h * span + n ≡ y.key = same_number (h * span + n) y.key e in rw (le_is (h * span) y.key (omega (arith, same)), lt_is y.key (h * span + span) (omega (arith, same, fits))) refl

  pub group_lacks : (h n : ℕ) (rows : List Row) (cs : List StoredCopy) → n < span → AreBelow n cs → HoldsGroups group marked rows cs → Lacks (h * span + n) rows
  group_lacks h n rows cs fits b holds = lacks_numbered h n rows cs fits (none_numbered n cs b) holds

  pub put_so : (c : StoredCopy) (rows new : List Row) (cs after : List StoredCopy) → c.number < span → AreRising rows → AreBelow c.number cs → HoldsGroups group marked rows cs → new ≡ with_grouped (group c) c.number (marked c) rows → after ≡ cs ++ c ∷ [] → HoldsGroups group marked new after
  put_so c rows new cs after fits s b holds put pushed = at (group c) refl where
    at : (o : Option ℕ) → group c ≡ o → HoldsGroups group marked new after
    at None is =
        let stays : rows ≡ new = sym (put ∙ ap (λ o. option_map_or (λ h. with_row (own_row marked h c) rows) o rows) is) in
        subst (λ (l : List Row). HoldsGroups group marked l after) stays (group_unput c rows cs after is holds pushed)
    at (Some h) is = group_put h c rows new cs after fits s b is holds (put ∙ ap (λ o. option_map_or (λ h. with_row (own_row marked h c) rows) o rows) is) pushed
