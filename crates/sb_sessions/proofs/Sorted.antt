-- Sessions by id: where one stands, and the order that stays.
use Rattle.std.proofs.Common.{◌≡◌, ℕ, ◌≤◌, refl, sym, ap, ◌∙◌, Bool, true, false, List, [], ◌∷◌, ◌++◌, find, position, drop, take, length, Option, Some, None, subst, arith, one-add}
use Rattle.std.proofs.lemmas.List.{take-append-drop}
use Rattle.std.proofs.lemmas.List.Sums.{prefix_len_is}
use Rattle.std.proofs.lemmas.Cmp.{nat_list_cmp_total}
use Rattle.std.proofs.lemmas.Map.Text.{is_eq-slice_cmp}
use Rattle.std.proofs.lemmas.Slice.Eq.{bytes_eq-Decides}
use Rattle.std.specs.Prelude.{bytes_eq}
use Rattle.std.specs.Cmp.Lexicographic.{slice_cmp}
use Rattle.std.specs.List.{prefix_len, slice_get}
use Rattle.std.specs.List.Sorted.{IsPartitionedBy, IsPartitionPoint}
use Rattle.std.specs.Ordering.{nat_cmp, is_lt, is_eq, ordering_reverse}
use Rattle.std.specs.declared.cmp.Ordering.{Ordering}
use Rattle.std.specs.declared.cmp.Ordering.TheVariants.{Less, Equal, Greater}
use Rattle.sb_machine.specs.Each.{Each}
use Rattle.sb_machine.specs.Keyed.{changed, with_sorted}
use Rattle.sb_machine.specs.Leaves.{has_id, holder_new, is_held_under, opened, remembered, taken}
use Rattle.sb_machine.specs.Names.{is_before}
use Rattle.sb_machine.specs.declared.state.Holder.{Holder}
use Rattle.sb_machine.specs.declared.state.Session.{Session}
use Rattle.sb_sessions.specs.Sessions.{seating, AreSorted}
use Rattle.sb_sessions.proofs.Placed.{parted, placed_here, placed_other, placed_past}

-- ---- texts in byte order

less_is : (o : Ordering) → is_lt o ≡ true → o ≡ Less
less_is Less e = refl
less_is Equal e = absurd cc
less_is Greater e = absurd cc

before_later : (a b c : List ℕ) → is_before a b ≡ true → is_before b c ≡ true → is_before a c ≡ true
before_later a b c p q = ap is_lt (nat_list_cmp_total.trans a b c (less_is (slice_cmp nat_cmp a b) p) (less_is (slice_cmp nat_cmp b c) q))

-- of two that aren't the same one is before the other
before_other : (a b : List ℕ) → is_before a b ≡ false → bytes_eq a b ≡ false → is_before b a ≡ true
before_other a b after_so differs_so = at (slice_cmp nat_cmp a b) after_so (is_eq-slice_cmp a b ∙ differs_so) (nat_list_cmp_total.antisymm b a) where
  at : (o : Ordering) → is_lt o ≡ false → is_eq o ≡ false → slice_cmp nat_cmp b a ≡ ordering_reverse o → is_before b a ≡ true
  at Less p q e = absurd cc
  at Equal p q e = absurd cc
  at Greater p q e = ap is_lt e

-- one that is before another isn't the same
before_differs : (a b : List ℕ) → is_before a b ≡ true → bytes_eq a b ≡ false
before_differs a b p = sym (is_eq-slice_cmp a b) ∙ ap is_eq (less_is (slice_cmp nat_cmp a b) p)

-- nor is one behind another that isn't before it
behind_differs : (a b c : List ℕ) → is_before a b ≡ true → is_before a c ≡ false → bytes_eq b c ≡ false
behind_differs a b c p q = at (bytes_eq b c) refl where
  at : (t : Bool) → bytes_eq b c ≡ t → bytes_eq b c ≡ false
  at false e = e
  at true e =
      let same : is_before a c ≡ true = subst (λ (z : List ℕ). is_before a z ≡ true) ((bytes_eq-Decides b c).0 e) p in
      let bad : true ≡ false = sym same ∙ q in
      absurd cc

-- ---- where the one of an id stands

pub earlier_first : (id : List ℕ) (rows : List Session) → AreSorted rows → IsPartitionedBy (λ y. is_before y.id id) rows
earlier_first id rows h = parted (λ (x y : Session). is_before x.id y.id ≡ true) (λ y. is_before y.id id) (λ x y r e. before_later x.id y.id id r e) rows h

pub entry_is : (id : List ℕ) (rows : List Session) (i : ℕ) → i ≤ length rows → IsPartitionPoint (λ y. is_before y.id id ≡ true) (λ y. is_before y.id id ≡ false) rows i → i ≡ prefix_len (λ y. is_before y.id id) rows
entry_is id rows i within point =
    let d : Session = record { id = []; state = None; holder = None } in
    sym (prefix_len_is (λ y. is_before y.id id) rows i d within (λ k lt. point.0 k d (omega arith) lt) (λ lt. point.1 i d (omega arith) lt))

pub id_here : (id : List ℕ) (rows : List Session) (i : ℕ) (x : Session) → AreSorted rows → i ≡ prefix_len (λ y. is_before y.id id) rows → Some x ≡ slice_get rows i → has_id id x ≡ true → Some i ≡ position (has_id id) rows
id_here id rows i x h place got has =
    rw place (placed_here (λ (x y : Session). is_before x.id y.id ≡ true) (λ y. is_before y.id id) (has_id id) (λ y e. before_differs y.id id e) (λ x y r e. behind_differs x.id y.id id r e) rows h x (sym (got ∙ ap (slice_get rows) place)) has)

pub id_other : (id : List ℕ) (rows : List Session) (i : ℕ) (x : Session) → AreSorted rows → i ≡ prefix_len (λ y. is_before y.id id) rows → Some x ≡ slice_get rows i → has_id id x ≡ false → None ≡ position (has_id id) rows
id_other id rows i x h place got has =
    placed_other (λ (x y : Session). is_before x.id y.id ≡ true) (λ y. is_before y.id id) (has_id id) (λ y e. before_differs y.id id e) (λ x y r e. behind_differs x.id y.id id r e) rows h x (sym (got ∙ ap (slice_get rows) place)) has

pub id_past : (id : List ℕ) (rows : List Session) (i : ℕ) → AreSorted rows → i ≡ prefix_len (λ y. is_before y.id id) rows → None ≡ slice_get rows i → None ≡ position (has_id id) rows
id_past id rows i h place got =
    placed_past (λ (x y : Session). is_before x.id y.id ≡ true) (λ y. is_before y.id id) (has_id id) (λ y e. before_differs y.id id e) (λ x y r e. behind_differs x.id y.id id r e) rows h (sym (got ∙ ap (slice_get rows) place))

-- ---- one more

module _ {X : Type 0} where
  each_front : (P : X → Type 0) (xs ys : List X) → Each P (xs ++ ys) → Each P xs
  each_front P [] ys h = tt
  each_front P (x ∷ xs) ys h = (h.0, each_front P xs ys h.1)

  each_back : (P : X → Type 0) (xs ys : List X) → Each P (xs ++ ys) → Each P ys
  each_back P [] ys h = h
  each_back P (x ∷ xs) ys h = each_back P xs ys h.1

  each_append : (P : X → Type 0) (xs ys : List X) → Each P xs → Each P ys → Each P (xs ++ ys)
  each_append P [] ys h k = k
  each_append P (x ∷ xs) ys h k = (h.0, each_append P xs ys h.1 k)

  each_implied : (P Q : X → Type 0) → ((x : X) → P x → Q x) → (xs : List X) → Each P xs → Each Q xs
  each_implied P Q more [] h = tt
  each_implied P Q more (x ∷ xs) h = (more x h.0, each_implied P Q more xs h.1)

  each_inserted : (P : X → Type 0) (before : X → Bool) (x : X) (xs : List X) → P x → Each P xs → Each P (with_sorted before x xs)
  each_inserted P before x xs new h =
      let parts : Each P (take (prefix_len before xs) xs ++ drop (prefix_len before xs) xs) = subst (Each P) (sym (take-append-drop (prefix_len before xs) xs)) h in
      each_append P (take (prefix_len before xs) xs) (x ∷ drop (prefix_len before xs) xs) (each_front P (take (prefix_len before xs) xs) (drop (prefix_len before xs) xs) parts)
      (new, each_back P (take (prefix_len before xs) xs) (drop (prefix_len before xs) xs) parts)

  found_behind : (p : X → Bool) (x : X) (xs : List X) (r : Option X) → p x ≡ false → find p (x ∷ xs) ≡ r → find p xs ≡ r
  found_behind p x xs r fails found = rw fails at found

-- none that is found by its id has it
none_same : (id : List ℕ) (xs : List Session) → find (has_id id) xs ≡ None → Each (λ y. has_id id y ≡ false) xs
none_same id [] none = tt
none_same id (x ∷ xs) none = at (has_id id x) refl (none_same id xs) where
  at : (b : Bool) → has_id id x ≡ b → (find (has_id id) xs ≡ None → Each (λ y. has_id id y ≡ false) xs) → Each (λ y. has_id id y ≡ false) (x ∷ xs)
  at true is ih = let bad : Some x ≡ None = rw is at none in absurd cc
  at false is ih = (is, ih (found_behind (has_id id) x xs None is none))

sorted_placed : (x : Session) (xs : List Session) → Each (λ y. has_id x.id y ≡ false) xs → AreSorted xs → AreSorted (with_sorted (λ y. is_before y.id x.id) x xs)
sorted_placed x [] others sorted = (tt, tt)
sorted_placed x (y ∷ ys) others sorted = at (is_before y.id x.id) refl (sorted_placed x ys others.1 sorted.1) where
  at : (b : Bool) → is_before y.id x.id ≡ b → AreSorted (with_sorted (λ z. is_before z.id x.id) x ys) → AreSorted (with_sorted (λ z. is_before z.id x.id) x (y ∷ ys))
  at true is ih = rw (is, one-add) (each_inserted (λ (z : Session). is_before y.id z.id ≡ true) (λ z. is_before z.id x.id) x ys is sorted.0, ih)
  at false is ih =
      let here : is_before x.id y.id ≡ true = before_other y.id x.id is others.0 in
      rw is ((here, each_implied (λ (z : Session). is_before y.id z.id ≡ true) (λ z. is_before x.id z.id ≡ true) (λ z behind. before_later x.id y.id z.id here behind) ys sorted.0), sorted)

-- ---- one that is changed, or forgotten

-- nothing, or one of the same id
data IsLike (x : Session) : List Session → Type 0 where
  like_none : IsLike x []
  like_one : {y : Session} → y.id ≡ x.id → IsLike x (y ∷ [])

each_like : (P : List ℕ → Type 0) (x : Session) (new rest : List Session) → IsLike x new → P x.id → Each (λ y. P y.id) rest → Each (λ y. P y.id) (new ++ rest)
each_like P x [] rest like_none own h = h
each_like P x (y ∷ ys) rest (like_one same) own h = (subst P (sym same) own, h)

each_changed : (P : List ℕ → Type 0) (p : Session → Bool) (g : Session → List Session) → ((x : Session) → IsLike x (g x)) → (xs : List Session) → Each (λ y. P y.id) xs → Each (λ y. P y.id) (changed p g xs)
each_changed P p g like [] h = tt
each_changed P p g like (x ∷ xs) h = at (p x) refl (each_changed P p g like xs h.1) where
  at : (b : Bool) → p x ≡ b → Each (λ y. P y.id) (changed p g xs) → Each (λ y. P y.id) (changed p g (x ∷ xs))
  at true is ih = rw is (each_like P x (g x) xs (like x) h.0 h.1)
  at false is ih = rw is (h.0, ih)

sorted_like : (x : Session) (new rest : List Session) → IsLike x new → AreSorted (x ∷ rest) → AreSorted (new ++ rest)
sorted_like x [] rest like_none h = h.1
sorted_like x (y ∷ ys) rest (like_one same) h = (subst (λ (id : List ℕ). Each (λ (z : Session). is_before id z.id ≡ true) rest) (sym same) h.0, h.1)

sorted_changed : (p : Session → Bool) (g : Session → List Session) → ((x : Session) → IsLike x (g x)) → (xs : List Session) → AreSorted xs → AreSorted (changed p g xs)
sorted_changed p g like [] h = tt
sorted_changed p g like (x ∷ xs) h = at (p x) refl (sorted_changed p g like xs h.1) where
  at : (b : Bool) → p x ≡ b → AreSorted (changed p g xs) → AreSorted (changed p g (x ∷ xs))
  at true is ih = rw is (sorted_like x (g x) xs (like x) h)
  at false is ih = rw is (each_changed (λ (id : List ℕ). is_before x.id id ≡ true) p g like xs h.0, ih)

remembered_like : (x y : Session) → y.id ≡ x.id → IsLike x (remembered y)
remembered_like x y same = at y.holder y.state refl refl where
  at : (h : Option Holder) (o : Option (List ℕ)) → y.holder ≡ h → y.state ≡ o → IsLike x (remembered y)
  at (Some h) o is so = rw is (like_one same)
  at None (Some state) is so = rw (is, so) (like_one same)
  at None None is so = rw (is, so) like_none

-- ---- as the sessions are changed

pub sorted_opened : (lock : ℕ) (id : List ℕ) (until : ℕ) (rows new : List Session) → new ≡ opened lock id until (seating rows) → AreSorted rows → AreSorted new
sorted_opened lock id until rows new is h = subst AreSorted (sym is) (at (find (has_id id) rows) refl) where
  at : (o : Option Session) → find (has_id id) rows ≡ o → AreSorted (opened lock id until (seating rows))
  at (Some x) found = rw found (sorted_changed (has_id id) (λ y. taken lock until y ∷ []) (λ y. like_one refl) rows h)
  at None found = rw found (sorted_placed (record { id = id; state = None; holder = Some (holder_new lock until) }) rows (none_same id rows found) h)

pub sorted_remembered : (lock : ℕ) (f : Session → Session) → ((x : Session) → (f x).id ≡ x.id) → (rows new : List Session) → new ≡ changed (is_held_under lock) (λ x. remembered (f x)) rows → AreSorted rows → AreSorted new
sorted_remembered lock f same rows new is h = subst AreSorted (sym is) (sorted_changed (is_held_under lock) (λ x. remembered (f x)) (λ x. remembered_like x (f x) (same x)) rows h)

pub sorted_kept : (lock : ℕ) (f : Session → Session) → ((x : Session) → (f x).id ≡ x.id) → (rows new : List Session) → new ≡ changed (is_held_under lock) (λ x. f x ∷ []) rows → AreSorted rows → AreSorted new
sorted_kept lock f same rows new is h = subst AreSorted (sym is) (sorted_changed (is_held_under lock) (λ x. f x ∷ []) (λ x. like_one (same x)) rows h)
