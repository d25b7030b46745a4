-- A row by session is that of one message alone: so a change of it adds or takes one number of a head.
use Rattle.std.proofs.Common.{◌≡◌, ℕ, ◌+◌, ◌*◌, ◌/◌, ◌<◌, ◌≤◌, ◌⊎◌, inl, inr, List, [], ◌∷◌, map, find, nat_lt, nat_le, ◌==◌, ◌&&◌, ◌||◌, Bool, true, false, Option, Some, None, cond, refl, sym, ap, ◌∙◌, subst, arith}
use Rattle.std.specs.List.{filter, list_all, list_any}
use Rattle.std.specs.Option.{option_and_then, option_map, option_map_or}
use Rattle.std.specs.Prelude.{is_some}
use Rattle.std.proofs.lemmas.Bool.Decides.{nat_tests}
use Rattle.std.proofs.lemmas.Bool.{eq-eqb, ne_eqb}
use Rattle.sb_index.specs.Rows.{AreAbove, changed, is_at, without}
use Rattle.sb_index.specs.declared.row.Row.{Row}
use Rattle.sb_machine.specs.Leaves.{has_number}
use Rattle.sb_machine.specs.Messages.{text_of}
use Rattle.sb_machine.specs.declared.state.StoredCopy.{StoredCopy}
use Rattle.sb_model.specs.declared.message.SystemName.TheVariants.{SessionId}
use Rattle.sb_machine.specs.Leases.{is_ready}
use Rattle.sb_copies.specs.BySession.{HoldsSessions, session_hash, session_hash_of}
use Rattle.sb_copies.specs.Grouped.{group_at, group_key, is_in_group, is_under, own_row, span, told_grouped, without_grouped}
use Rattle.sb_copies.specs.Dues.{never}
use Rattle.sb_copies.specs.Heads.{AreOwn, except, heads_in, is_among, is_of_session, is_own, is_usual, told_head, undue, undue_rows, with_told}
use Rattle.sb_copies.specs.Shelf.{AreBelow, AreInOrder, is_before, rows_of}
use Rattle.sb_copies.proofs.Grouped.{is_lt, other_group, other_number}
use Rattle.sb_copies.proofs.Order.{both, same_number}
use Rattle.sb_copies.proofs.Told.{among_usual, or_swap}

-- ---- which are there

abbrev Has : {X : Type 0} → X → List X → Type 0
Has x [] = ⊥
Has x (y ∷ ys) = (x ≡ y) ⊎ Has x ys

module _ {X : Type 0} where
  kept : (p : X → Bool) (x : X) (xs : List X) → p x ≡ true → Has x xs → Has x (filter p xs)
  kept p x [] passes none = absurd none
  kept p x (y ∷ ys) passes (inl same) = let own : p y ≡ true = ap p (sym same) ∙ passes in rw own (inl same)
  kept p x (y ∷ ys) passes (inr there) = at (p y) (kept p x ys passes there) where
    at : (b : Bool) → Has x (filter p ys) → Has x (cond b (y ∷ filter p ys) (filter p ys))
    at true ih = inr ih
    at false ih = ih

  was_there : (p : X → Bool) (x : X) (xs : List X) → Has x (filter p xs) → Has x xs × (p x ≡ true)
  was_there p x [] none = absurd none
  was_there p x (y ∷ ys) there = at (p y) refl there (was_there p x ys) where
    at : (b : Bool) → p y ≡ b → Has x (cond b (y ∷ filter p ys) (filter p ys)) → (Has x (filter p ys) → Has x ys × (p x ≡ true)) → Has x (y ∷ ys) × (p x ≡ true)
    at true e (inl same) ih = (inl same, ap p same ∙ e)
    at true e (inr rest) ih = let it = ih rest in (inr it.0, it.1)
    at false e rest ih = let it = ih rest in (inr it.0, it.1)

made_of : {X Y : Type 0} (f : X → Y) (y : Y) (xs : List X) → Has y (map f xs) → (x : X) × Has x xs × (y ≡ f x)
made_of f y [] none = absurd none
made_of f y (x ∷ xs) (inl same) = (x, inl refl, same)
made_of f y (x ∷ xs) (inr there) = let it = made_of f y xs there in (it.0, inr it.1, it.2)

makes : {X Y : Type 0} (f : X → Y) (x : X) (xs : List X) → Has x xs → Has (f x) (map f xs)
makes f x [] none = absurd none
makes f x (y ∷ ys) (inl same) = inl (ap f same)
makes f x (y ∷ ys) (inr there) = inr (makes f x ys there)

above_has : (n : ℕ) (c : StoredCopy) (cs : List StoredCopy) → AreAbove n (rows_of cs) → Has c cs → n < c.number
above_has n c [] a none = absurd none
above_has n c (y ∷ ys) a (inl same) = subst (λ (z : StoredCopy). n < z.number) (sym same) a.0
above_has n c (y ∷ ys) a (inr there) = above_has n c ys a.1 there

own_has : (c : StoredCopy) (cs : List StoredCopy) → AreInOrder cs → Has c cs → find (has_number c.number) cs ≡ Some c
own_has c [] s none = absurd none
own_has c (y ∷ ys) s (inl same) = let is : (y.number == c.number) ≡ true = eq-eqb y.number c.number (ap (λ (z : StoredCopy). z.number) (sym same)) in rw is (ap (λ (z : StoredCopy). Some z) (sym same))
own_has c (y ∷ ys) s (inr there) = let above : y.number < c.number = above_has y.number c ys s.0 there in rw (ne_eqb y.number c.number (omega (arith, above))) (own_has c ys s.1 there)

has_found : (p : StoredCopy → Bool) (c : StoredCopy) (cs : List StoredCopy) → find p cs ≡ Some c → Has c cs
has_found p c [] found = absurd cc
has_found p c (y ∷ ys) found = at (p y) refl (has_found p c ys) where
  at : (b : Bool) → p y ≡ b → (find p ys ≡ Some c → Has c ys) → Has c (y ∷ ys)
  at true e ih = let it : Some y ≡ Some c = rw e at found in inl (let same : y ≡ c = cc in sym same)
  at false e ih = inr (ih (rw e at found))

-- ---- of which message a row is

le_true : (a b : ℕ) → a ≤ b → nat_le a b ≡ true
le_true a b p = grind (arith, nat_tests)

lt_true : (a b : ℕ) → a < b → nat_lt a b ≡ true
lt_true a b p = grind (arith, nat_tests)

under_its : (x : Row) → is_under (x.key / span) x ≡ true
under_its x = rw (le_true (x.key / span * span) x.key (omega arith), lt_true x.key (x.key / span * span + span) (omega arith)) refl

hashed_as : (h : ℕ) (c : StoredCopy) → is_in_group session_hash_of h c ≡ true → session_hash_of c ≡ Some h
hashed_as h c e = at (session_hash_of c) e where
  at : (o : Option ℕ) → option_map_or (λ own. own == h) o false ≡ true → o ≡ Some h
  at None bad = absurd (let no_way : false ≡ true = bad in cc)
  at (Some own) is = ap (λ z. Some z) (same_number own h is)

below_has : (n : ℕ) (c : StoredCopy) (cs : List StoredCopy) → AreBelow n cs → Has c cs → c.number < n
below_has n c [] b none = absurd none
below_has n c (y ∷ ys) b (inl same) = subst (λ (z : StoredCopy). z.number < n) (sym same) (is_lt y.number n (both (nat_lt y.number n) (list_all (is_before n) ys) b).0)
below_has n c (y ∷ ys) b (inr there) = below_has n c ys (both (nat_lt y.number n) (list_all (is_before n) ys) b).1 there

module _ (rows : List Row) (cs : List StoredCopy) (s : AreInOrder cs) (b : AreBelow span cs) (holds : HoldsSessions (undue_rows rows) cs) where
  -- its key is that of the message whose number is its value
  of_message : (x : Row) → Has x rows → (h : ℕ) × (group_at session_hash_of x.value cs ≡ Some h) × (x.key ≡ group_key h x.value) × (x.value < span)
  of_message x there =
      let h = x.key / span in
      let below : Has (undue x) (filter (is_under h) (undue_rows rows)) = kept (is_under h) (undue x) (undue_rows rows) (under_its x) (makes undue x rows there) in
      let it = made_of (own_row (λ x. is_ready x.standing) h) (undue x) (filter (is_in_group session_hash_of h) cs) (subst (λ (l : List Row). Has (undue x) l) (holds h) below) in
      let c : StoredCopy = it.0 in
      let own = was_there (is_in_group session_hash_of h) c cs it.1 in
      let value : x.value ≡ c.number = ap (λ (z : Row). z.value) it.2 in
      let key : x.key ≡ h * span + c.number = ap (λ (z : Row). z.key) it.2 in
      let found : find (has_number x.value) cs ≡ Some c = ap (λ n. find (has_number n) cs) value ∙ own_has c cs s own.0 in
      let less : c.number < span = below_has span c cs b own.0 in
      (h, ap (λ (o : Option StoredCopy). option_and_then session_hash_of o) found ∙ hashed_as h c own.1, key ∙ ap (λ n. h * span + n) (sym value), subst (λ k. k < span) (sym value) less)

  -- each message of a session has its row
  its_row : (n h : ℕ) → group_at session_hash_of n cs ≡ Some h → list_any (is_at (group_key h n)) rows ≡ true
  its_row n h at_n = found_at (find (has_number n) cs) refl where
    any_has : (key : ℕ) (x : Row) (xs : List Row) → x.key ≡ key → Has x (undue_rows xs) → list_any (is_at key) xs ≡ true
    any_has key x [] is none = absurd none
    any_has key x (y ∷ ys) is (inl same) = let e : (key == y.key) ≡ true = eq-eqb key y.key (sym is ∙ ap (λ (z : Row). z.key) same) in rw e refl
    any_has key x (y ∷ ys) is (inr there) = rw (any_has key x ys is there) (or_true (key == y.key)) where
      or_true : (t : Bool) → (t || true) ≡ true
      or_true true = refl
      or_true false = refl

    found_at : (o : Option StoredCopy) → find (has_number n) cs ≡ o → list_any (is_at (group_key h n)) rows ≡ true
    found_at None e = absurd (let bad : None ≡ Some h = sym (ap (λ (o : Option StoredCopy). option_and_then session_hash_of o) e) ∙ at_n in cc)
    found_at (Some c) e =
        let hashed : session_hash_of c ≡ Some h = sym (ap (λ (o : Option StoredCopy). option_and_then session_hash_of o) e) ∙ at_n in
        let own : is_in_group session_hash_of h c ≡ true = ap (λ (o : Option ℕ). option_map_or (λ k. k == h) o false) hashed ∙ eq-eqb h h refl in
        let number : c.number ≡ n = numbered cs e in
        let there : Has (own_row (λ x. is_ready x.standing) h c) (map (own_row (λ x. is_ready x.standing) h) (filter (is_in_group session_hash_of h) cs)) = makes (own_row (λ x. is_ready x.standing) h) c (filter (is_in_group session_hash_of h) cs) (kept (is_in_group session_hash_of h) c cs own (has_found (has_number n) c cs e)) in
        let under : Has (own_row (λ x. is_ready x.standing) h c) (undue_rows rows) = (was_there (is_under h) (own_row (λ x. is_ready x.standing) h c) (undue_rows rows) (subst (λ (l : List Row). Has (own_row (λ x. is_ready x.standing) h c) l) (sym (holds h)) there)).0 in
        any_has (group_key h n) (own_row (λ x. is_ready x.standing) h c) rows (ap (λ k. h * span + k) number) under where
          numbered : (xs : List StoredCopy) → find (has_number n) xs ≡ Some c → c.number ≡ n
          numbered [] found = absurd cc
          numbered (y ∷ ys) found = inner (y.number == n) refl (numbered ys) where
            inner : (t : Bool) → (y.number == n) ≡ t → (find (has_number n) ys ≡ Some c → c.number ≡ n) → c.number ≡ n
            inner true is ih = let it : Some y ≡ Some c = rw is at found in let same : y ≡ c = cc in ap (λ (z : StoredCopy). z.number) (sym same) ∙ same_number y.number n is
            inner false is ih = ih (rw is at found)

  own_due : (x : Row) (xs : List Row) → AreOwn xs → Has x xs → is_own x ≡ true
  own_due x [] own none = absurd none
  own_due x (y ∷ ys) own (inl same) = ap is_own same ∙ (both (is_own y) (list_all is_own ys) own).0
  own_due x (y ∷ ys) own (inr there) = own_due x ys (both (is_own y) (list_all is_own ys) own).1 there

  due_so : (x : Row) → is_own x ≡ true → is_usual x.due ≡ true → x.due ≡ x.value
  due_so x own is = by (x.due == never) (x.due == x.value) refl own where
    not_last : (n : ℕ) → nat_lt n never ≡ true → (n == never) ≡ false
    not_last n e = grind (arith, nat_tests)

    by : (a b : Bool) → (x.due == x.value) ≡ b → ((x.due == never) || b) ≡ true → x.due ≡ x.value
    by a true e o = same_number x.due x.value e
    by a false e o = absurd (let bad : (false || false) ≡ true = rw (not_last x.due is) at o in cc)

  keys_apart : (h k n v : ℕ) → n < span → v < span → (v == n) ≡ false → (k * span + n == h * span + v) ≡ false
  keys_apart h k n v p q e = by (k == h) refl where
    by : (t : Bool) → (k == h) ≡ t → (k * span + n == h * span + v) ≡ false
    by true is = subst (λ z. (z * span + n == h * span + v) ≡ false) (sym (same_number k h is)) (other_number h v n e)
    by false is = other_group k h v n q p is

  -- a head is of this number where its row is that of the message of it
  apart : (n : ℕ) → n < span → AreOwn rows → (x : Row) → Has x rows → is_usual x.due ≡ true → (x.due == n) ≡ option_map_or (λ h. group_key h n == x.key) (group_at session_hash_of n cs) false
  apart n fits own x there is =
      let it = of_message x there in
      let due : x.due ≡ x.value = due_so x (own_due x rows own there) is in
      ap (λ d. d == n) due ∙ by (x.value == n) refl (it.0) it.1 it.2 it.3 where
        by : (t : Bool) → (x.value == n) ≡ t → (h : ℕ) → group_at session_hash_of x.value cs ≡ Some h → x.key ≡ group_key h x.value → x.value < span → (x.value == n) ≡ option_map_or (λ k. group_key k n == x.key) (group_at session_hash_of n cs) false
        by true e h at_v key less =
            let same : x.value ≡ n = same_number x.value n e in
            let at_n : group_at session_hash_of n cs ≡ Some h = subst (λ k. group_at session_hash_of k cs ≡ Some h) same at_v in
            let own_key : group_key h n ≡ x.key = sym (key ∙ ap (λ k. group_key h k) same) in
            e ∙ sym (ap (λ (o : Option ℕ). option_map_or (λ k. group_key k n == x.key) o false) at_n ∙ eq-eqb (group_key h n) x.key own_key)
        by false e h at_v key less = e ∙ sym (other (group_at session_hash_of n cs)) where
          other : (o : Option ℕ) → option_map_or (λ k. group_key k n == x.key) o false ≡ false
          other None = refl
          other (Some k) = ap (λ z. group_key k n == z) key ∙ keys_apart h k n x.value fits less e

  value_so : (h n : ℕ) → n < span → (x : Row) → Has x rows → (group_key h n == x.key) ≡ true → x.value ≡ n
  value_so h n fits x there is =
      let it = of_message x there in
      by (x.value == n) refl it.0 it.2 it.3 where
        by : (t : Bool) → (x.value == n) ≡ t → (k : ℕ) → x.key ≡ group_key k x.value → x.value < span → x.value ≡ n
        by true e k key less = same_number x.value n e
        by false e k key less = absurd (let bad : true ≡ false = sym is ∙ ap (λ z. group_key h n == z) key ∙ keys_apart k h n x.value fits less e in cc)

-- ---- one number less

heads_out : (key n : ℕ) (xs : List Row) → ((x : Row) → Has x xs → is_usual x.due ≡ true → (x.due == n) ≡ (key == x.key)) → heads_in (without key xs) ≡ except n (heads_in xs)
heads_out key n [] own = refl
heads_out key n (x ∷ xs) own = at (is_usual x.due) (key == x.key) refl refl (heads_out key n xs (λ y there. own y (inr there))) where
  at : (u b : Bool) → is_usual x.due ≡ u → (key == x.key) ≡ b → heads_in (without key xs) ≡ except n (heads_in xs) → heads_in (without key (x ∷ xs)) ≡ except n (heads_in (x ∷ xs))
  at true true e f ih = rw (f, e, own x (inl refl) e ∙ f) ih
  at true false e f ih = rw (f, e, own x (inl refl) e ∙ f) (ap (λ (l : List ℕ). x.due ∷ l) ih)
  at false true e f ih = rw (f, e) ih
  at false false e f ih = rw (f, e) ih

heads_kept : (n : ℕ) (xs : List Row) → ((x : Row) → Has x xs → is_usual x.due ≡ true → (x.due == n) ≡ false) → heads_in xs ≡ except n (heads_in xs)
heads_kept n [] own = refl
heads_kept n (x ∷ xs) own = at (is_usual x.due) refl (heads_kept n xs (λ y there. own y (inr there))) where
  at : (u : Bool) → is_usual x.due ≡ u → heads_in xs ≡ except n (heads_in xs) → heads_in (x ∷ xs) ≡ except n (heads_in (x ∷ xs))
  at true e ih = rw (e, own x (inl refl) e) (ap (λ (l : List ℕ). x.due ∷ l) ih)
  at false e ih = rw e ih

heads_unmarked : (key : ℕ) (m : Bool) (xs : List Row) → heads_in (changed key m never xs) ≡ heads_in (without key xs)
heads_unmarked key m [] = refl
heads_unmarked key m (x ∷ xs) = at (key == x.key) refl (heads_unmarked key m xs) where
  at : (b : Bool) → (key == x.key) ≡ b → heads_in (changed key m never xs) ≡ heads_in (without key xs) → heads_in (changed key m never (x ∷ xs)) ≡ heads_in (without key (x ∷ xs))
  at true e ih = rw e ih
  at false e ih = rw e (ap (λ (l : List ℕ). cond (is_usual x.due) (x.due ∷ l) l) ih)

heads_untold : (key : ℕ) (xs : List Row) → heads_in (map (told_head key false) xs) ≡ heads_in (without key xs)
heads_untold key [] = refl
heads_untold key (x ∷ xs) = at (key == x.key) refl (heads_untold key xs) where
  at : (b : Bool) → (key == x.key) ≡ b → heads_in (map (told_head key false) xs) ≡ heads_in (without key xs) → heads_in (map (told_head key false) (x ∷ xs)) ≡ heads_in (without key (x ∷ xs))
  at true e ih = rw e ih
  at false e ih = rw e (ap (λ (l : List ℕ). cond (is_usual x.due) (x.due ∷ l) l) ih)

-- ---- one number more

turned : (m n : ℕ) (b : Bool) → (m == n) ≡ b → (n == m) ≡ b
turned m n true e = grind (arith, nat_tests)
turned m n false e = grind (arith, nat_tests)

not_never : (m : ℕ) → is_usual m ≡ true → (never == m) ≡ false
not_never m e = grind (arith, nat_tests)

one_more_so : (t d e a l : Bool) → (d ≡ false) ⊎ (d ≡ t) → l ≡ ((t && e) || a) → (t || l) ≡ ((t && true) || (d || a))
one_more_so true d e a l is so = refl
one_more_so false d e a l (inl none) so = rw none so
one_more_so false d e a l (inr none) so = rw none so

dues_told : (key n m : ℕ) (xs : List Row) → is_usual m ≡ true → ((x : Row) → Has x xs → (key == x.key) ≡ true → (x.value ≡ n) × (is_own x ≡ true)) → is_among m (map (λ x. x.due) (map (told_head key true) xs)) ≡ ((m == n && list_any (is_at key) xs) || is_among m (map (λ x. x.due) xs))
dues_told key n m [] is own = by (m == n) where
  by : (t : Bool) → false ≡ ((t && false) || false)
  by true = refl
  by false = refl
dues_told key n m (x ∷ xs) is own = at (key == x.key) refl (dues_told key n m xs is (λ y there. own y (inr there))) where
  at : (b : Bool) → (key == x.key) ≡ b → is_among m (map (λ y. y.due) (map (told_head key true) xs)) ≡ ((m == n && list_any (is_at key) xs) || is_among m (map (λ y. y.due) xs)) → is_among m (map (λ y. y.due) (map (told_head key true) (x ∷ xs))) ≡ ((m == n && list_any (is_at key) (x ∷ xs)) || is_among m (map (λ y. y.due) (x ∷ xs)))
  at true e ih =
      let it = own x (inl refl) e in
      rw e (ap (λ k. (k == m) || is_among m (map (λ y. y.due) (map (told_head key true) xs))) it.0
      ∙ ap (λ b. b || is_among m (map (λ y. y.due) (map (told_head key true) xs))) (turned m n (m == n) refl)
      ∙ one_more_so (m == n) (x.due == m) (list_any (is_at key) xs) (is_among m (map (λ y. y.due) xs)) (is_among m (map (λ y. y.due) (map (told_head key true) xs))) (due_is it.0 it.1) ih) where
        due_is : x.value ≡ n → is_own x ≡ true → ((x.due == m) ≡ false) ⊎ ((x.due == m) ≡ (m == n))
        due_is value is_it = by (x.due == never) (x.due == x.value) refl refl is_it where
          by : (a b : Bool) → (x.due == never) ≡ a → (x.due == x.value) ≡ b → (a || b) ≡ true → ((x.due == m) ≡ false) ⊎ ((x.due == m) ≡ (m == n))
          by true b f g o = inl (ap (λ d. d == m) (same_number x.due never f) ∙ not_never m is)
          by false true f g o = inr (ap (λ d. d == m) (same_number x.due x.value g ∙ value) ∙ turned m n (m == n) refl)
          by false false f g o = absurd (let bad : false ≡ true = o in cc)
  at false e ih = rw e (ap (λ b. (x.due == m) || b) ih ∙ or_swap (x.due == m) (m == n && list_any (is_at key) xs) (is_among m (map (λ y. y.due) xs)))

usual_so : (t u v e l a : Bool) → (t ≡ true → u ≡ v) → (u ≡ true → l ≡ ((t && e) || a)) → (u && l) ≡ ((t && (v && e)) || (u && a))
usual_so true true v e l a same so = so refl ∙ ap (λ b. (b && e) || a) (same refl)
usual_so true false v e l a same so = ap (λ b. (b && e) || false) (same refl)
usual_so false true v e l a same so = so refl
usual_so false false v e l a same so = refl

heads_called : (key n m : ℕ) (xs : List Row) → ((x : Row) → Has x xs → (key == x.key) ≡ true → (x.value ≡ n) × (is_own x ≡ true)) → is_among m (heads_in (map (told_head key true) xs)) ≡ ((m == n && (is_usual n && list_any (is_at key) xs)) || is_among m (heads_in xs))
heads_called key n m xs own =
    among_usual m (map (λ x. x.due) (map (told_head key true) xs))
    ∙ usual_so (m == n) (is_usual m) (is_usual n) (list_any (is_at key) xs) (is_among m (map (λ x. x.due) (map (told_head key true) xs))) (is_among m (map (λ x. x.due) xs)) (λ e. ap (λ k. is_usual k) (same_number m n e)) (λ is. dues_told key n m xs is own)
    ∙ ap (λ b. (m == n && (is_usual n && list_any (is_at key) xs)) || b) (sym (among_usual m (map (λ x. x.due) xs)))

of_session_so : (n : ℕ) (cs : List StoredCopy) → is_of_session n cs ≡ is_some (group_at session_hash_of n cs)
of_session_so n cs = at (find (has_number n) cs) where
  inner : (o : Option (List ℕ)) → is_some o ≡ is_some (option_map session_hash o)
  inner None = refl
  inner (Some id) = refl

  at : (o : Option StoredCopy) → option_map_or (λ c. is_some (text_of SessionId c.message)) o false ≡ is_some (option_and_then session_hash_of o)
  at None = refl
  at (Some c) = inner (text_of SessionId c.message)

and_false : (a b c : Bool) → c ≡ ((a && (b && false)) || c)
and_false true true c = refl
and_false true false c = refl
and_false false b c = refl

-- ---- of an index as it changes

module _ (rows : List Row) (cs : List StoredCopy) (s : AreInOrder cs) (b : AreBelow span cs) (holds : HoldsSessions (undue_rows rows) cs) (own : AreOwn rows) (n : ℕ) (fits : n < span) where
  by_key : (h : ℕ) → group_at session_hash_of n cs ≡ Some h → (x : Row) → Has x rows → is_usual x.due ≡ true → (x.due == n) ≡ (group_key h n == x.key)
  by_key h at_n x there is = apart rows cs s b holds n fits own x there is ∙ ap (λ (o : Option ℕ). option_map_or (λ k. group_key k n == x.key) o false) at_n

  by_none : group_at session_hash_of n cs ≡ None → (x : Row) → Has x rows → is_usual x.due ≡ true → (x.due == n) ≡ false
  by_none at_n x there is = apart rows cs s b holds n fits own x there is ∙ ap (λ (o : Option ℕ). option_map_or (λ k. group_key k n == x.key) o false) at_n

  pub heads_taken : (o : Option ℕ) (new : List Row) → o ≡ group_at session_hash_of n cs → new ≡ without_grouped o n rows → heads_in new ≡ except n (heads_in rows)
  heads_taken None new at_n is = ap (λ (l : List Row). heads_in l) is ∙ heads_kept n rows (by_none (sym at_n))
  heads_taken (Some h) new at_n is = ap (λ (l : List Row). heads_in l) is ∙ heads_out (group_key h n) n rows (by_key h (sym at_n))

  pub heads_marked : (o : Option ℕ) (m : Bool) (new : List Row) → o ≡ group_at session_hash_of n cs → new ≡ told_grouped o n m rows → heads_in new ≡ except n (heads_in rows)
  heads_marked None m new at_n is = ap (λ (l : List Row). heads_in l) is ∙ heads_kept n rows (by_none (sym at_n))
  heads_marked (Some h) m new at_n is = ap (λ (l : List Row). heads_in l) is ∙ heads_unmarked (group_key h n) m rows ∙ heads_out (group_key h n) n rows (by_key h (sym at_n))

  pub heads_forgotten : (o : Option ℕ) (new : List Row) → o ≡ group_at session_hash_of n cs → new ≡ with_told o n false rows → heads_in new ≡ except n (heads_in rows)
  heads_forgotten None new at_n is = ap (λ (l : List Row). heads_in l) is ∙ heads_kept n rows (by_none (sym at_n))
  heads_forgotten (Some h) new at_n is = ap (λ (l : List Row). heads_in l) is ∙ heads_untold (group_key h n) rows ∙ heads_out (group_key h n) n rows (by_key h (sym at_n))

  pub heads_told : (o : Option ℕ) (new : List Row) → o ≡ group_at session_hash_of n cs → new ≡ with_told o n true rows → (m : ℕ) → is_among m (heads_in new) ≡ ((m == n && (is_usual n && is_of_session n cs)) || is_among m (heads_in rows))
  heads_told None new at_n is m =
      ap (λ (l : List Row). is_among m (heads_in l)) is
      ∙ and_false (m == n) (is_usual n) (is_among m (heads_in rows))
      ∙ ap (λ t. (m == n && (is_usual n && t)) || is_among m (heads_in rows)) (sym (of_session_so n cs ∙ ap (λ (o : Option ℕ). is_some o) (sym at_n)))
  heads_told (Some h) new at_n is m =
      ap (λ (l : List Row). is_among m (heads_in l)) is
      ∙ heads_called (group_key h n) n m rows (λ x there e. (value_so rows cs s b holds h n fits x there e, own_due rows cs s b holds x rows own there))
      ∙ ap (λ t. (m == n && (is_usual n && t)) || is_among m (heads_in rows)) (its_row rows cs s b holds n h (sym at_n) ∙ sym (of_session_so n cs ∙ ap (λ (o : Option ℕ). is_some o) (sym at_n)))
