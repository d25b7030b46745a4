-- Ids past their window, forgotten from the front.
use Rattle.std.proofs.Common.{◌≡◌, ℕ, ◌+◌, ◌*◌, ◌^◌, ◌<◌, refl, sym, ap, ◌∙◌, Bool, true, false, not, ◌&&◌, ◌||◌, ◌==◌, List, [], ◌∷◌, cond, drop, filter, nat_lt, subst, arith}
use Rattle.std.proofs.lemmas.Bool.Decides.{nat_tests}
use Rattle.std.specs.List.{list_any}
use Rattle.sb_index.specs.Hashes.{hash}
use Rattle.sb_index.specs.Rows.{is_at, without}
use Rattle.sb_index.specs.declared.row.Row.{Row}
use Rattle.sb_machine.specs.Changes.{is_earlier, is_known, is_recent}
use Rattle.sb_machine.specs.Each.{Each, IsSorted}
use Rattle.sb_machine.specs.Keyed.{with_sorted}
use Rattle.sb_machine.specs.Names.{is_before}
use Rattle.sb_machine.specs.declared.state.AcceptedId.{AcceptedId}
use Rattle.sb_repeats.specs.Windows.{AreMoments, AreTold, Tells, comes_first, has_key, is_first_past, key_of, without_first}
use Rattle.sb_repeats.proofs.Bisecting.{each_implied, each_inserted}
use Rattle.sb_repeats.proofs.Ids.{one, sorted_noted}
use Rattle.sb_repeats.proofs.Keys.{any_more, any_same, tells_with}

-- those that are left with their rows, where these were there in the beginning
pub record Forgetting (window t : ℕ) (ids : List AcceptedId) (rows : List Row) (start : List AcceptedId) : Type 0 where
  pub same : filter (is_recent window t) ids ≡ filter (is_recent window t) start
  pub order : IsSorted comes_first ids
  pub moments : AreMoments ids
  pub shown : (key : ℕ) → list_any (is_at key) rows ≡ true → list_any (has_key key) ids ≡ true
  pub kept : (key : ℕ) → list_any (λ a. is_recent window t a && has_key key a) ids ≡ true → list_any (is_at key) rows ≡ true

and_right : (a b : Bool) → (a && b) ≡ true → b ≡ true
and_right true b e = e
and_right false b e = absurd cc

pub forgetting_start : (window t : ℕ) (ids : List AcceptedId) (rows : List Row) → IsSorted comes_first ids → AreMoments ids → Tells rows ids → Forgetting window t ids rows ids
forgetting_start window t ids rows order moments tells = record {
  same = refl;
  order = order;
  moments = moments;
  shown = λ key e. sym (tells key) ∙ e;
  kept = λ key e. tells key ∙ any_more (λ a. is_recent window t a && has_key key a) (has_key key) ids (λ a both. and_right (is_recent window t a) (has_key key a) both) e;
}

-- ---- one is forgotten, with its row

without_shown : (k j : ℕ) (rows : List Row) → list_any (is_at k) (without j rows) ≡ true → (list_any (is_at k) rows ≡ true) × ((k == j) ≡ false)
without_shown k j [] e = absurd (let bad : false ≡ true = e in cc)
without_shown k j (x ∷ xs) e = at (j == x.key) refl (k == x.key) refl (without_shown k j xs) where
  at : (b : Bool) → (j == x.key) ≡ b → (c : Bool) → (k == x.key) ≡ c → (list_any (is_at k) (without j xs) ≡ true → (list_any (is_at k) xs ≡ true) × ((k == j) ≡ false)) → (list_any (is_at k) (x ∷ xs) ≡ true) × ((k == j) ≡ false)
  at true gone c here ih =
      let rest : list_any (is_at k) (without j xs) ≡ true = rw gone at e in
      let it = ih rest in
      (rw it.0 (or_right (k == x.key)), it.1) where
        or_right : (b : Bool) → (b || true) ≡ true
        or_right true = refl
        or_right false = refl
  at false stays true here ih = (rw here refl, grind (arith, nat_tests))
  at false stays false here ih =
      let rest : list_any (is_at k) (without j xs) ≡ true = rw (stays, here) at e in
      let it = ih rest in
      (rw here it.0, it.1)

without_kept : (k j : ℕ) (rows : List Row) → (k == j) ≡ false → list_any (is_at k) rows ≡ true → list_any (is_at k) (without j rows) ≡ true
without_kept k j [] off e = absurd (let bad : false ≡ true = e in cc)
without_kept k j (x ∷ xs) off e = at (j == x.key) refl (k == x.key) refl (without_kept k j xs off) where
  at : (b : Bool) → (j == x.key) ≡ b → (c : Bool) → (k == x.key) ≡ c → (list_any (is_at k) xs ≡ true → list_any (is_at k) (without j xs) ≡ true) → list_any (is_at k) (without j (x ∷ xs)) ≡ true
  at true gone true here ih = absurd (grind (arith, nat_tests))
  at true gone false here ih = let rest : list_any (is_at k) xs ≡ true = rw here at e in rw gone (ih rest)
  at false stays true here ih = rw (stays, here) refl
  at false stays false here ih = let rest : list_any (is_at k) xs ≡ true = rw here at e in rw (stays, here) (ih rest)

-- one that passes
witness : {X : Type 0} (p : X → Bool) (P : X → Type 0) (xs : List X) → Each P xs → list_any p xs ≡ true → (y : X) × (p y ≡ true) × P y
witness p P [] h e = absurd (let bad : false ≡ true = e in cc)
witness p P (x ∷ xs) h e = at (p x) refl (witness p P xs h.1) where
  at : (b : Bool) → p x ≡ b → (list_any p xs ≡ true → (y : _) × (p y ≡ true) × P y) → (y : _) × (p y ≡ true) × P y
  at true is ih = (x, is, h.0)
  at false is ih = let rest : list_any p xs ≡ true = rw is at e in ih rest

-- of one key, one moment
one_moment : (g h m n : ℕ) → m < 2 ^ 64 → n < 2 ^ 64 → g * 2 ^ 64 + m ≡ h * 2 ^ 64 + n → m ≡ n
one_moment g h m n lt less e = omega (arith, lt, less, e)

two : (a b : Bool) → (a && b) ≡ true → (a ≡ true) × (b ≡ true)
two true b e = (refl, e)
two false b e = absurd cc

module _ (window t : ℕ) (x : AcceptedId) (xs : List AcceptedId) (rows : List Row) (start : List AcceptedId) (h : Forgetting window t (x ∷ xs) rows start) (past : is_recent window t x ≡ false) where
  -- none that is recent has the key of one that is past
  apart : (key : ℕ) → list_any (λ a. is_recent window t a && has_key key a) xs ≡ true → (key == key_of x) ≡ false
  apart key e = at (key == key_of x) refl where
    at : (b : Bool) → (key == key_of x) ≡ b → (key == key_of x) ≡ false
    at false is = is
    at true is =
        let it = witness (λ a. is_recent window t a && has_key key a) (λ a. a.moment < 2 ^ 64) xs h.moments.1 e in
        let both = two (is_recent window t it.0) (has_key key it.0) it.1 in
        let keys : key_of it.0 ≡ key_of x = same_key key (key_of it.0) (key_of x) both.1 is in
        let moments : it.0.moment ≡ x.moment = one_moment (hash it.0.id) (hash x.id) it.0.moment x.moment it.2 h.moments.0 keys in
        let bad : true ≡ false = sym both.0 ∙ ap (λ (n : ℕ). nat_lt t (n + 1000 * window)) moments ∙ past in
        absurd cc where
          same_key : (k m n : ℕ) → (k == m) ≡ true → (k == n) ≡ true → m ≡ n
          same_key k m n p q = grind (arith, nat_tests)

  forgotten : Forgetting window t xs (without (key_of x) rows) start
  forgotten = record {
    same = sym (ap (λ b. cond b (x ∷ filter (is_recent window t) xs) (filter (is_recent window t) xs)) past) ∙ h.same;
    order = h.order.1;
    moments = h.moments.1;
    shown = λ key e.
        let it = without_shown key (key_of x) rows e in
        sym (ap (λ b. b || list_any (has_key key) xs) it.1) ∙ h.shown key it.0;
    kept = λ key e.
        without_kept key (key_of x) rows (apart key e) (h.kept key (ap (λ b. (b && has_key key x) || list_any (λ a. is_recent window t a && has_key key a) xs) past ∙ e));
  }

not_false : (b : Bool) → not b ≡ true → b ≡ false
not_false true e = absurd cc
not_false false e = refl

pub forgetting_next : (window t : ℕ) (ids : List AcceptedId) (rows : List Row) (start : List AcceptedId) → Forgetting window t ids rows start → is_first_past window t ids ≡ true → Forgetting window t (drop 1 ids) (without_first ids rows) start
forgetting_next window t [] rows start h e = absurd (let bad : false ≡ true = e in cc)
forgetting_next window t (x ∷ xs) rows start h e = forgotten window t x xs rows start h (not_false (is_recent window t x) e)

-- ---- the first that is recent, and with it all that are left

all_recent : (window t : ℕ) (ids : List AcceptedId) → IsSorted comes_first ids → is_first_past window t ids ≡ false → Each (λ a. is_recent window t a ≡ true) ids
all_recent window t [] order e = tt
all_recent window t (x ∷ xs) order e = (first, each_implied (λ a. comes_first x a ≡ true) (λ a. is_recent window t a ≡ true) (λ a later. since x.moment a.moment (1000 * window) (is_before x.id a.id) later first) xs order.0) where
  first : is_recent window t x ≡ true
  first = not_true (is_recent window t x) e where
    not_true : (b : Bool) → not b ≡ false → b ≡ true
    not_true true e = refl
    not_true false e = absurd cc

  since : (m n w : ℕ) (b : Bool) → (nat_lt m n || ((m == n) && b)) ≡ true → nat_lt t (m + w) ≡ true → nat_lt t (n + w) ≡ true
  since m n w true later e = grind (arith, nat_tests)
  since m n w false later e = grind (arith, nat_tests)

filter_all : {X : Type 0} (p : X → Bool) (xs : List X) → Each (λ x. p x ≡ true) xs → filter p xs ≡ xs
filter_all p [] h = refl
filter_all p (x ∷ xs) h = rw h.0 (ap (λ l. x ∷ l) (filter_all p xs h.1))

pub forgotten_ids : (window t : ℕ) (ids : List AcceptedId) (rows : List Row) (start : List AcceptedId) → Forgetting window t ids rows start → is_first_past window t ids ≡ false → ids ≡ filter (is_recent window t) start
forgotten_ids window t ids rows start h e = sym (filter_all (is_recent window t) ids (all_recent window t ids h.order e)) ∙ h.same

both_ways : (a b : Bool) → (a ≡ true → b ≡ true) → (b ≡ true → a ≡ true) → a ≡ b
both_ways true b f g = sym (f refl)
both_ways false true f g = g refl
both_ways false false f g = refl

forgotten_tells : (window t : ℕ) (ids : List AcceptedId) (rows : List Row) (start : List AcceptedId) → Forgetting window t ids rows start → is_first_past window t ids ≡ false → Tells rows ids
forgotten_tells window t ids rows start h e key = both_ways (list_any (is_at key) rows) (list_any (has_key key) ids) (h.shown key) (λ there. h.kept key (recent ∙ there)) where
  recent : list_any (λ a. is_recent window t a && has_key key a) ids ≡ list_any (has_key key) ids
  recent = any_same (λ a. is_recent window t a && has_key key a) (has_key key) ids (each_implied (λ a. is_recent window t a ≡ true) (λ a. (is_recent window t a && has_key key a) ≡ has_key key a) (λ a is. ap (λ b. b && has_key key a) is) ids (all_recent window t ids h.order e))

pub forgotten_told : (window t : ℕ) (ids : List AcceptedId) (rows : List Row) (start : List AcceptedId) → Forgetting window t ids rows start → is_first_past window t ids ≡ false → AreTold ids rows
forgotten_told window t ids rows start h e = record { order = h.order; moments = h.moments; tells = forgotten_tells window t ids rows start h e }

-- ---- one more, which wasn't known

pub told_noted : (window t key : ℕ) (id : List ℕ) (ids kept : List AcceptedId) (rows more : List Row) → is_known window id t ids ≡ false → IsSorted comes_first ids → kept ≡ filter (is_recent window t) ids → AreTold kept rows → t < 2 ^ 64 → key ≡ key_of (one t id) → ((k : ℕ) → list_any (is_at k) more ≡ ((k == key) || list_any (is_at k) rows)) → AreTold (with_sorted (is_earlier t id) (one t id) kept) more
told_noted window t key id ids kept rows more none sorted same told small is tells = record {
  order = subst (λ (l : List AcceptedId). IsSorted comes_first (with_sorted (is_earlier t id) (one t id) l)) (sym same) (sorted_noted window t id ids none sorted);
  moments = each_inserted (λ a. a.moment < 2 ^ 64) (is_earlier t id) (one t id) kept small told.moments;
  tells = tells_with (is_earlier t id) (one t id) key kept rows more told.tells is tells;
}
