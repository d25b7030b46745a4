-- Where one stands in a list that is in order.
use Rattle.std.proofs.Common.{◌≡◌, ℕ, zero, suc, ◌<◌, ◌≤◌, refl, sym, ap, ◌∙◌, Bool, true, false, ◌&&◌, ◌||◌, ◌==◌, nat_lt, List, [], ◌∷◌, length, get_or, find, Option, Some, None, subst, arith, one-add}
use Rattle.std.proofs.lemmas.Bool.Decides.{nat_tests}
use Rattle.std.specs.Prelude.{bytes_eq}
use Rattle.std.specs.List.{list_any, prefix_len, slice_get}
use Rattle.std.specs.List.Sorted.{IsPartitionedBy, IsPartitionPoint}
use Rattle.std.specs.Option.{option_map_or}
use Rattle.std.specs.Cmp.Lexicographic.{slice_cmp}
use Rattle.std.specs.Ordering.{nat_cmp, is_eq}
use Rattle.std.proofs.lemmas.List.Sums.{prefix_len_is}
use Rattle.std.proofs.lemmas.Map.Text.{is_eq-slice_cmp}
use Rattle.std.proofs.lemmas.Slice.Eq.{bytes_eq-Decides}
use Rattle.sb_machine.specs.Each.{Each, Pairs, is_text_of}
use Rattle.sb_machine.specs.Leaves.{is_held_under}
use Rattle.sb_machine.specs.Messages.{text_of}
use Rattle.sb_machine.specs.Names.{is_before}
use Rattle.sb_machine.specs.Namespace.{is_entity}
use Rattle.sb_machine.specs.declared.state.Entity.{Entity}
use Rattle.sb_machine.specs.declared.state.Session.{Session}
use Rattle.sb_machine.specs.declared.state.StoredCopy.{StoredCopy}
use Rattle.sb_model.specs.declared.message.SystemName.TheVariants.{SessionId}
use Rattle.sb_judge.specs.Copies.{is_seat_in, is_under, sessions_order}
use Rattle.sb_judge.specs.Entities.{AreNumbered}
use Rattle.sb_judge.specs.Orders.{tested}
use Rattle.sb_judge.proofs.InOrder.{less_is, text_later}

-- ---- lists

module _ {X : Type 0} where
  each_at : (P : X → Type 0) (xs : List X) (k : ℕ) (d : X) → Each P xs → k < length xs → P (get_or xs k d)
  each_at P [] k d h lt = absurd (omega (arith, lt))
  each_at P (x ∷ xs) zero d h lt = h.0
  each_at P (x ∷ xs) (suc k) d h lt = each_at P xs k d h.1 (omega (arith, lt))

  -- what stands before one that passes passes too, so a bisection finds how many pass
  pub parted : (R : X → X → Type 0) (p : X → Bool) → ((x y : X) → R x y → p y ≡ true → p x ≡ true) → (xs : List X) → Pairs R xs → IsPartitionedBy p xs
  parted R p down [] sorted i j d le lt passes = absurd (omega (arith, lt))
  parted R p down (x ∷ xs) sorted zero zero d le lt passes = passes
  parted R p down (x ∷ xs) sorted zero (suc j) d le lt passes = down x (get_or xs j d) (each_at (R x) xs j d sorted.0 (omega (arith, lt))) passes
  parted R p down (x ∷ xs) sorted (suc i) zero d le lt passes = absurd (omega (arith, le))
  parted R p down (x ∷ xs) sorted (suc i) (suc j) d le lt passes = parted R p down xs sorted.1 i j d (omega (arith, le)) (omega (arith, lt)) passes

  pub point_is : (p : X → Bool) (xs : List X) (i : ℕ) → i ≤ length xs → IsPartitionPoint (λ y. p y ≡ true) (λ y. p y ≡ false) xs i → i ≡ prefix_len p xs
  point_is p [] i le point = omega (arith, le)
  point_is p (x ∷ xs) i le point = sym (prefix_len_is p (x ∷ xs) i x le (λ k lt. point.0 k x (omega arith) lt) (λ lt. point.1 i x (omega arith) lt))

  prefix_on : (p : X → Bool) (x : X) (xs : List X) → p x ≡ true → prefix_len p (x ∷ xs) ≡ suc (prefix_len p xs)
  prefix_on p x xs e = rw (e, one-add) refl

  prefix_off : (p : X → Bool) (x : X) (xs : List X) → p x ≡ false → prefix_len p (x ∷ xs) ≡ 0
  prefix_off p x xs e = rw e refl

  each_more : (P Q : X → Type 0) → ((x : X) → P x → Q x) → (xs : List X) → Each P xs → Each Q xs
  each_more P Q more [] h = tt
  each_more P Q more (x ∷ xs) h = (more x h.0, each_more P Q more xs h.1)

  any_off : (t : X → Bool) (xs : List X) → Each (λ x. t x ≡ false) xs → list_any t xs ≡ false
  any_off t [] h = refl
  any_off t (x ∷ xs) h = rw h.0 (any_off t xs h.1)

  -- those that stand before a place fail the test, and so do those behind the first that doesn't
  module _ (R : X → X → Type 0) (p t : X → Bool) (first : (x : X) → p x ≡ true → t x ≡ false) (last : (x y : X) → R x y → p x ≡ false → t y ≡ false) where
    pub placed : (xs : List X) → Pairs R xs → option_map_or t (slice_get xs (prefix_len p xs)) false ≡ list_any t xs
    placed [] sorted = refl
    placed (x ∷ xs) sorted = at (p x) refl (placed xs sorted.1) where
      at : (b : Bool) → p x ≡ b → option_map_or t (slice_get xs (prefix_len p xs)) false ≡ list_any t xs → option_map_or t (slice_get (x ∷ xs) (prefix_len p (x ∷ xs))) false ≡ list_any t (x ∷ xs)
      at true e ih = rw (prefix_on p x xs e, first x e) ih
      at false e ih = rw (prefix_off p x xs e, any_off t xs (each_more (R x) (λ y. t y ≡ false) (λ y r. last x y r e) xs sorted.0)) (or_none (t x)) where
        or_none : (a : Bool) → a ≡ (a || false)
        or_none true = refl
        or_none false = refl

    pub placed_find : (xs : List X) → Pairs R xs → tested t (slice_get xs (prefix_len p xs)) ≡ find t xs
    placed_find [] sorted = refl
    placed_find (x ∷ xs) sorted = at (p x) refl (placed_find xs sorted.1) where
      none_off : (ys : List X) → Each (λ y. t y ≡ false) ys → find t ys ≡ None
      none_off [] h = refl
      none_off (y ∷ ys) h = rw h.0 (none_off ys h.1)

      here : (b : Bool) → t x ≡ b → find t xs ≡ None → tested t (Some x) ≡ find t (x ∷ xs)
      here true e none = rw e refl
      here false e none = rw e (sym none)

      at : (b : Bool) → p x ≡ b → tested t (slice_get xs (prefix_len p xs)) ≡ find t xs → tested t (slice_get (x ∷ xs) (prefix_len p (x ∷ xs))) ≡ find t (x ∷ xs)
      at true e ih = rw (prefix_on p x xs e, first x e) ih
      at false e ih = rw (prefix_off p x xs e) (here (t x) refl (none_off xs (each_more (R x) (λ y. t y ≡ false) (λ y r. last x y r e) xs sorted.0)))

-- ---- entities by number

lower_number : (a b n : ℕ) → a < b → nat_lt b n ≡ true → nat_lt a n ≡ true
lower_number a b n p e = grind (arith, nat_tests)

lower_other : (a n : ℕ) → nat_lt a n ≡ true → (a == n) ≡ false
lower_other a n e = grind (arith, nat_tests)

later_number : (a b n : ℕ) → a < b → nat_lt a n ≡ false → (b == n) ≡ false
later_number a b n lt e = grind (arith, nat_tests)

pub entities_parted : (n : ℕ) (es : List Entity) → AreNumbered es → IsPartitionedBy (λ e. nat_lt e.about.number n) es
entities_parted n es h = parted (λ (x y : Entity). x.about.number < y.about.number) (λ e. nat_lt e.about.number n) (λ x y r e. lower_number x.about.number y.about.number n r e) es h

pub entity_found : (n : ℕ) (es : List Entity) (place : ℕ) → AreNumbered es → place ≡ prefix_len (λ e. nat_lt e.about.number n) es → tested (is_entity n) (slice_get es place) ≡ find (is_entity n) es
entity_found n es place h is =
    ap (λ k. tested (is_entity n) (slice_get es k)) is
    ∙ placed_find (λ (x y : Entity). x.about.number < y.about.number) (λ e. nat_lt e.about.number n) (is_entity n) (λ x e. lower_other x.about.number n e) (λ x y r e. later_number x.about.number y.about.number n r e) es h

-- ---- texts in byte order

pub before_differs : (a b : List ℕ) → is_before a b ≡ true → bytes_eq a b ≡ false
before_differs a b e = sym (is_eq-slice_cmp a b) ∙ ap is_eq (less_is (slice_cmp nat_cmp a b) e)

same_text : (a b : List ℕ) → bytes_eq a b ≡ true → a ≡ b
same_text a b e = (bytes_eq-Decides a b).0 e

-- a text that stands before this one is another
earlier_other : (id x : List ℕ) → is_before x id ≡ true → bytes_eq id x ≡ false
earlier_other id x e = at (bytes_eq id x) refl where
  at : (b : Bool) → bytes_eq id x ≡ b → bytes_eq id x ≡ false
  at false is = is
  at true is =
      let self : is_before x x ≡ true = subst (λ (z : List ℕ). is_before x z ≡ true) (same_text id x is) e in
      let other : bytes_eq x x ≡ false = before_differs x x self in
      let same : bytes_eq x x ≡ true = (bytes_eq-Decides x x).1 refl in
      absurd (let bad : true ≡ false = sym same ∙ other in cc)

-- and so is one behind a text that doesn't
later_other : (id x y : List ℕ) → is_before x y ≡ true → is_before x id ≡ false → bytes_eq id y ≡ false
later_other id x y lt off = at (bytes_eq id y) refl where
  at : (b : Bool) → bytes_eq id y ≡ b → bytes_eq id y ≡ false
  at false is = is
  at true is =
      let on : is_before x id ≡ true = subst (λ (z : List ℕ). is_before x z ≡ true) (sym (same_text id y is)) lt in
      absurd (let bad : true ≡ false = sym on ∙ off in cc)

-- ---- sessions

and_false : (a b : Bool) → b ≡ false → (a && b) ≡ false
and_false true b e = e
and_false false b e = refl

pub sessions_parted : (id : List ℕ) (xs : List Session) → (sessions_order xs).0 ≡ true → IsPartitionedBy (λ x. is_before x.id id) xs
sessions_parted id xs e = parted (λ (x y : Session). is_before x.id y.id ≡ true) (λ x. is_before x.id id) (λ x y r on. text_later x.id y.id id r on) xs ((sessions_order xs).1.0 e)

seat_is : (lock : ℕ) (id : List ℕ) (o : Option Session) → is_seat_in lock id o ≡ option_map_or (λ x. is_held_under lock x && bytes_eq id x.id) o false
seat_is lock id None = refl
seat_is lock id (Some x) = refl

pub seat : (lock : ℕ) (id : List ℕ) (xs : List Session) (i : ℕ) → (sessions_order xs).0 ≡ true → i ≡ prefix_len (λ x. is_before x.id id) xs → is_seat_in lock id (slice_get xs i) ≡ list_any (λ x. is_held_under lock x && bytes_eq id x.id) xs
seat lock id xs i order place =
    ap (λ n. is_seat_in lock id (slice_get xs n)) place
    ∙ seat_is lock id (slice_get xs (prefix_len (λ x. is_before x.id id) xs))
    ∙ placed (λ (x y : Session). is_before x.id y.id ≡ true) (λ x. is_before x.id id) (λ x. is_held_under lock x && bytes_eq id x.id)
    (λ x e. and_false (is_held_under lock x) (bytes_eq id x.id) (earlier_other id x.id e))
    (λ x y r e. and_false (is_held_under lock y) (bytes_eq id y.id) (later_other id x.id y.id r e)) xs ((sessions_order xs).1.0 order)

all_off : (lock : ℕ) (xs : List Session) → list_any (λ x. is_held_under lock x && is_text_of x.id None) xs ≡ false
all_off lock [] = refl
all_off lock (x ∷ xs) = rw (and_false (is_held_under lock x) false refl) (all_off lock xs)

-- a copy of no session is under no session's lock
pub no_seat : (lock : ℕ) (c : StoredCopy) (xs : List Session) → text_of SessionId c.message ≡ None → is_under lock c xs ≡ false
no_seat lock c xs e = rw e (all_off lock xs)
