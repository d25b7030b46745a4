-- Rows that tell which ids are there: what a search in them says of the ids, and how they go with a change.
use Rattle.std.proofs.Common.{◌≡◌, ℕ, ◌+◌, ◌-◌, ◌*◌, ◌^◌, ◌<◌, ◌≤◌, refl, sym, ap, ◌∙◌, Bool, true, false, ◌&&◌, ◌||◌, ◌==◌, List, [], ◌∷◌, Option, Some, None, find, nat_lt, nat_le, take, drop, subst, arith, if◌then◌else◌}
use Rattle.std.proofs.lemmas.Bool.{eq-eqb}
use Rattle.std.proofs.lemmas.Bool.Decides.{nat_tests}
use Rattle.std.proofs.lemmas.List.{take-append-drop}
use Rattle.std.proofs.lemmas.List.Folds.{list_any-append}
use Rattle.std.specs.Prelude.{bytes_eq}
use Rattle.std.specs.List.{insert, list_any, prefix_len}
use Rattle.sb_index.specs.Hashes.{hash}
use Rattle.sb_index.specs.Rows.{AreAbove, AreRising, is_at, is_from, with_row}
use Rattle.sb_index.specs.declared.row.Row.{Row}
use Rattle.sb_machine.specs.Changes.{is_known, is_recent}
use Rattle.sb_machine.specs.Each.{Each}
use Rattle.sb_machine.specs.Keyed.{with_sorted}
use Rattle.sb_machine.specs.declared.state.AcceptedId.{AcceptedId}
use Rattle.sb_repeats.specs.Windows.{AreMoments, Tells, has_key, is_known_at, is_known_from, is_one, key_at, key_of, moment_in}
use Rattle.sb_repeats.proofs.Bisecting.{bytes_same, each_implied}
use Rattle.sb_repeats.proofs.Ids.{and_false}

-- ---- whether any passes

swap_or : (a b c : Bool) → (a || (b || c)) ≡ (b || (a || c))
swap_or true true c = refl
swap_or true false c = refl
swap_or false b c = refl

module _ {X : Type 0} where
  pub any_none : (p : X → Bool) (xs : List X) → find p xs ≡ None → list_any p xs ≡ false
  any_none p [] e = refl
  any_none p (x ∷ xs) e = at (p x) refl (any_none p xs) where
    at : (b : Bool) → p x ≡ b → (find p xs ≡ None → list_any p xs ≡ false) → list_any p (x ∷ xs) ≡ false
    at true is ih = let bad : Some x ≡ None = rw is at e in absurd cc
    at false is ih = let rest : find p xs ≡ None = rw is at e in rw is (ih rest)

  pub any_found : (p : X → Bool) (y : X) (xs : List X) → find p xs ≡ Some y → list_any p xs ≡ true
  any_found p y [] e = absurd (let bad : None ≡ Some y = e in cc)
  any_found p y (x ∷ xs) e = at (p x) refl (any_found p y xs) where
    at : (b : Bool) → p x ≡ b → (find p xs ≡ Some y → list_any p xs ≡ true) → list_any p (x ∷ xs) ≡ true
    at true is ih = rw is refl
    at false is ih = let rest : find p xs ≡ Some y = rw is at e in rw is (ih rest)

  pub any_same : (p q : X → Bool) (xs : List X) → Each (λ x. p x ≡ q x) xs → list_any p xs ≡ list_any q xs
  any_same p q [] h = refl
  any_same p q (x ∷ xs) h = rw (h.0, any_same p q xs h.1) refl

  pub any_off : (p : X → Bool) (xs : List X) → Each (λ x. p x ≡ false) xs → list_any p xs ≡ false
  any_off p [] h = refl
  any_off p (x ∷ xs) h = rw h.0 (any_off p xs h.1)

  off_any : (p : X → Bool) (xs : List X) → list_any p xs ≡ false → Each (λ x. p x ≡ false) xs
  off_any p [] e = tt
  off_any p (x ∷ xs) e = at (p x) refl (off_any p xs) where
    at : (b : Bool) → p x ≡ b → (list_any p xs ≡ false → Each (λ y. p y ≡ false) xs) → Each (λ y. p y ≡ false) (x ∷ xs)
    at true is ih = let bad : true ≡ false = rw is at e in absurd cc
    at false is ih = let rest : list_any p xs ≡ false = rw is at e in (is, ih rest)

  pub any_more : (p q : X → Bool) (xs : List X) → ((x : X) → p x ≡ true → q x ≡ true) → list_any p xs ≡ true → list_any q xs ≡ true
  any_more p q [] more e = absurd (let bad : false ≡ true = e in cc)
  any_more p q (x ∷ xs) more e = at (p x) refl (q x) refl (any_more p q xs more) where
    at : (b : Bool) → p x ≡ b → (c : Bool) → q x ≡ c → (list_any p xs ≡ true → list_any q xs ≡ true) → list_any q (x ∷ xs) ≡ true
    at b is true has ih = rw has refl
    at true is false has ih = let bad = more x is in absurd cc
    at false is false has ih = let rest : list_any p xs ≡ true = rw is at e in rw has (ih rest)

  pub any_insert : (p : X → Bool) (x : X) (xs : List X) (n : ℕ) → list_any p (insert xs n x) ≡ (p x || list_any p xs)
  any_insert p x xs n =
      list_any-append p (take n xs) (x ∷ drop n xs) ∙ swap_or (list_any p (take n xs)) (p x) (list_any p (drop n xs)) ∙
      ap (λ b. p x || b) (sym (list_any-append p (take n xs) (drop n xs)) ∙ ap (list_any p) (take-append-drop n xs))

-- ---- the least row from a key on

none_above : (j n : ℕ) (rows : List Row) → j ≤ n → AreAbove n rows → list_any (is_at j) rows ≡ false
none_above j n [] le above = refl
none_above j n (x ∷ xs) le above =
    let lt : n < x.key = above.0 in
    let off : (j == x.key) ≡ false = grind (arith, nat_tests) in
    rw off (none_above j n xs le above.1)

found_least : (k j : ℕ) (rows : List Row) → AreRising rows → k ≤ j → list_any (is_at j) rows ≡ true → (r : Row) × (find (is_from k) rows ≡ Some r) × (k ≤ r.key) × (r.key ≤ j)
found_least k j [] rising le there = absurd (let bad : false ≡ true = there in cc)
found_least k j (x ∷ xs) rising le there = at (is_from k x) refl (found_least k j xs rising.1 le) where
  le_of : (a b : ℕ) → nat_le a b ≡ true → a ≤ b
  le_of a b e = grind (arith, nat_tests)

  first : (c : Bool) → nat_le x.key j ≡ c → x.key ≤ j
  first true e = le_of x.key j e
  first false e =
      let off : (j == x.key) ≡ false = grind (arith, nat_tests) in
      let lt : j ≤ x.key = grind (arith, nat_tests) in
      absurd (let bad : true ≡ false = sym there ∙ ap (λ b. b || list_any (is_at j) xs) off ∙ none_above j x.key xs lt rising.0 in cc)

  at : (b : Bool) → is_from k x ≡ b → (list_any (is_at j) xs ≡ true → (r : Row) × (find (is_from k) xs ≡ Some r) × (k ≤ r.key) × (r.key ≤ j)) → (r : Row) × (find (is_from k) (x ∷ xs) ≡ Some r) × (k ≤ r.key) × (r.key ≤ j)
  at true is ih = (x, rw is refl, le_of k x.key is, first (nat_le x.key j) refl)
  at false is ih =
      let off : (j == x.key) ≡ false = grind (arith, nat_tests) in
      let rest : list_any (is_at j) xs ≡ true = rw off at there in
      let it = ih rest in
      (it.0, rw is it.1, it.2, it.3)

pub found_from : (k : ℕ) (r : Row) (rows : List Row) → find (is_from k) rows ≡ Some r → k ≤ r.key
found_from k r [] e = absurd (let bad : None ≡ Some r = e in cc)
found_from k r (x ∷ xs) e = at (is_from k x) refl (found_from k r xs) where
  at : (b : Bool) → is_from k x ≡ b → (find (is_from k) xs ≡ Some r → k ≤ r.key) → k ≤ r.key
  at true is ih =
      let it : Some x ≡ Some r = rw is at e in
      let same : x ≡ r = cc in
      let le : k ≤ x.key = grind (arith, nat_tests) in
      subst (λ (z : Row). k ≤ z.key) same le
  at false is ih = let rest : find (is_from k) xs ≡ Some r = rw is at e in ih rest

-- ---- each id has its row

each_both : {X : Type 0} (P Q : X → Type 0) (xs : List X) → Each P xs → Each Q xs → Each (λ x. P x × Q x) xs
each_both P Q [] h k = tt
each_both P Q (x ∷ xs) h k = ((h.0, k.0), each_both P Q xs h.1 k.1)

or_true : (a b : Bool) → b ≡ true → (a || b) ≡ true
or_true true b e = refl
or_true false b e = e

own_keys : (ids : List AcceptedId) → Each (λ a. list_any (has_key (key_of a)) ids ≡ true) ids
own_keys [] = tt
own_keys (x ∷ xs) = (ap (λ b. b || list_any (has_key (key_of x)) xs) (eq-eqb (key_of x) (key_of x) refl), each_implied (λ a. list_any (has_key (key_of a)) xs ≡ true) (λ a. list_any (has_key (key_of a)) (x ∷ xs) ≡ true) (λ a e. or_true (has_key (key_of a) x) _ e) xs (own_keys xs))

-- an id with its row, and a moment of 64 bits
abbrev Held : List Row → AcceptedId → Type 0
Held rows a = (list_any (is_at (key_of a)) rows ≡ true) × (a.moment < 2 ^ 64)

held : (rows : List Row) (ids : List AcceptedId) → AreMoments ids → Tells rows ids → Each (Held rows) ids
held rows ids moments tells = each_both (λ a. list_any (is_at (key_of a)) rows ≡ true) (λ a. a.moment < 2 ^ 64) ids (each_implied (λ a. list_any (has_key (key_of a)) ids ≡ true) (λ a. list_any (is_at (key_of a)) rows ≡ true) (λ a e. tells (key_of a) ∙ e) ids (own_keys ids)) moments

-- ---- what a search says of the ids

between : (p w from m k : ℕ) → p + from ≤ k → k ≤ p + m → m < w → (nat_lt (k - p) w ≡ true) × (from ≤ k - p) × (k - p ≤ m)
between p w from m k a b c = (grind (arith, nat_tests), omega (arith, a), omega (arith, b))

-- where a moment has a row, the one that is found is no later
no_later : (h from m : ℕ) (rows : List Row) → AreRising rows → from ≤ m → m < 2 ^ 64 → list_any (is_at (key_at h m)) rows ≡ true → (at : ℕ) × (moment_in h (find (is_from (key_at h from)) rows) ≡ Some at) × (at ≤ m)
no_later h from m rows rising le lt there =
    let it = found_least (key_at h from) (key_at h m) rows rising (omega (arith, le)) there in
    let is = between (h * 2 ^ 64) (2 ^ 64) from m it.0.key it.2 it.3 lt in
    (it.0.key - h * 2 ^ 64, ap (moment_in h) it.1 ∙ ap (λ (b : Bool). if b then Some (it.0.key - h * 2 ^ 64) else None) is.0, is.2)

row_of : (h at : ℕ) (o : Option Row) → moment_in h o ≡ Some at → (r : Row) × (o ≡ Some r) × (r.key - h * 2 ^ 64 ≡ at)
row_of h at None e = absurd (let bad : None ≡ Some at = e in cc)
row_of h at (Some r) e = go (nat_lt (r.key - h * 2 ^ 64) (2 ^ 64)) refl where
  go : (b : Bool) → nat_lt (r.key - h * 2 ^ 64) (2 ^ 64) ≡ b → (x : Row) × (Some r ≡ Some x) × (x.key - h * 2 ^ 64 ≡ at)
  go true is = let it : Some (r.key - h * 2 ^ 64) ≡ Some at = rw is at e in (r, refl, cc)
  go false is = let bad : None ≡ Some at = rw is at e in absurd cc

past : (p from k : ℕ) → p + from ≤ k → from ≤ k - p
past p from k e = omega (arith, e)

-- the moment that is found is one from there on
pub no_earlier : (h from at : ℕ) (rows : List Row) → moment_in h (find (is_from (key_at h from)) rows) ≡ Some at → from ≤ at
no_earlier h from at rows e =
    let it = row_of h at (find (is_from (key_at h from)) rows) e in
    subst (λ (n : ℕ). from ≤ n) it.2 (past (h * 2 ^ 64) from it.0.key (found_from (key_at h from) it.0 rows it.1))

module _ (window t : ℕ) (id : List ℕ) where
  own_row : (rows : List Row) (a : AcceptedId) → bytes_eq a.id id ≡ true → list_any (is_at (key_of a)) rows ≡ true → list_any (is_at (key_at (hash id) a.moment)) rows ≡ true
  own_row rows a same there = subst (λ (x : List ℕ). list_any (is_at (key_at (hash x) a.moment)) rows ≡ true) (bytes_same a.id id same) there

  none_of : (from : ℕ) (rows : List Row) → AreRising rows → moment_in (hash id) (find (is_from (key_at (hash id) from)) rows) ≡ None → (a : AcceptedId) → Held rows a → ((bytes_eq a.id id && is_recent window t a) && nat_le from a.moment) ≡ false
  none_of from rows rising none a h = at (bytes_eq a.id id) refl (nat_le from a.moment) refl where
    le_of : (m n : ℕ) → nat_le m n ≡ true → m ≤ n
    le_of m n e = grind (arith, nat_tests)

    at : (b : Bool) → bytes_eq a.id id ≡ b → (c : Bool) → nat_le from a.moment ≡ c → ((bytes_eq a.id id && is_recent window t a) && nat_le from a.moment) ≡ false
    at false is c le = rw is refl
    at true is false le = rw le (and_false (bytes_eq a.id id && is_recent window t a))
    at true is true le =
        let it = no_later (hash id) from a.moment rows rising (le_of from a.moment le) h.1 (own_row rows a is h.0) in
        absurd (let bad : None ≡ Some it.0 = sym none ∙ it.1 in cc)

  pub known_none : (from : ℕ) (ids : List AcceptedId) (rows : List Row) → AreRising rows → AreMoments ids → Tells rows ids → moment_in (hash id) (find (is_from (key_at (hash id) from)) rows) ≡ None → is_known_from window id t from ids ≡ false
  known_none from ids rows rising moments tells none = any_off (λ a. (bytes_eq a.id id && is_recent window t a) && nat_le from a.moment) ids (each_implied (Held rows) (λ a. ((bytes_eq a.id id && is_recent window t a) && nat_le from a.moment) ≡ false) (none_of from rows rising none) ids (held rows ids moments tells))

  -- behind a moment at which it isn't known, the same is left to look at
  same_of : (from at : ℕ) (rows : List Row) → AreRising rows → moment_in (hash id) (find (is_from (key_at (hash id) from)) rows) ≡ Some at → (a : AcceptedId) → Held rows a → (nat_lt t (at + 1000 * window) && is_one at id a) ≡ false → ((bytes_eq a.id id && is_recent window t a) && nat_le from a.moment) ≡ ((bytes_eq a.id id && is_recent window t a) && nat_le (at + 1) a.moment)
  same_of from at rows rising found a h off = by_id (bytes_eq a.id id) refl (is_recent window t a) refl where
    within : nat_le from a.moment ≡ true → at ≤ a.moment → (at ≡ a.moment → ⊥) → nat_le from a.moment ≡ nat_le (at + 1) a.moment
    within e le other = e ∙ sym (later le other) where
      later : at ≤ a.moment → (at ≡ a.moment → ⊥) → nat_le (at + 1) a.moment ≡ true
      later le other = go (at == a.moment) refl where
        go : (b : Bool) → (at == a.moment) ≡ b → nat_le (at + 1) a.moment ≡ true
        go true is = absurd (other (grind (arith, nat_tests)))
        go false is = grind (arith, nat_tests)

    without_it : nat_le from a.moment ≡ false → nat_le from a.moment ≡ nat_le (at + 1) a.moment
    without_it e =
        let le = no_earlier (hash id) from at rows found in
        let none : nat_le (at + 1) a.moment ≡ false = grind (arith, nat_tests) in
        e ∙ sym none

    le_of : (m n : ℕ) → nat_le m n ≡ true → m ≤ n
    le_of m n e = grind (arith, nat_tests)

    some_is : (m n : ℕ) → Some m ≡ Some n → m ≡ n
    some_is m n e = cc

    by_moment : (c : Bool) → nat_le from a.moment ≡ c → bytes_eq a.id id ≡ true → is_recent window t a ≡ true → nat_le from a.moment ≡ nat_le (at + 1) a.moment
    by_moment false e same recent = without_it e
    by_moment true e same recent =
        let it = no_later (hash id) from a.moment rows rising (le_of from a.moment e) h.1 (own_row rows a same h.0) in
        let is : at ≡ it.0 = some_is at it.0 (sym found ∙ it.1) in
        within e (subst (λ (n : ℕ). n ≤ a.moment) (sym is) it.2) (λ here.
        let late : nat_lt t (at + 1000 * window) ≡ true = subst (λ (n : ℕ). nat_lt t (n + 1000 * window) ≡ true) (sym here) recent in
        let one_is : (a.moment == at) ≡ true = eq-eqb a.moment at (sym here) in
        let bad : true ≡ false = rw (late, one_is, same) at off in
        cc)

    by_id : (b : Bool) → bytes_eq a.id id ≡ b → (c : Bool) → is_recent window t a ≡ c → ((bytes_eq a.id id && is_recent window t a) && nat_le from a.moment) ≡ ((bytes_eq a.id id && is_recent window t a) && nat_le (at + 1) a.moment)
    by_id false same c recent = rw same refl
    by_id true same false recent = rw (same, recent) refl
    by_id true same true recent = rw (same, recent) (by_moment (nat_le from a.moment) refl same recent)

  each_of_all : {X : Type 0} (P : X → Type 0) → ((x : X) → P x) → (xs : List X) → Each P xs
  each_of_all P all [] = tt
  each_of_all P all (x ∷ xs) = (all x, each_of_all P all xs)

  off_each : (at : ℕ) (ids : List AcceptedId) → is_known_at window id t at ids ≡ false → Each (λ a. (nat_lt t (at + 1000 * window) && is_one at id a) ≡ false) ids
  off_each at ids off = go (nat_lt t (at + 1000 * window)) off where
    go : (b : Bool) → (b && list_any (is_one at id) ids) ≡ false → Each (λ a. (b && is_one at id a) ≡ false) ids
    go true e = off_any (is_one at id) ids e
    go false e = each_of_all (λ a. false ≡ false) (λ a. refl) ids

  pub known_next : (from at : ℕ) (ids : List AcceptedId) (rows : List Row) → AreRising rows → AreMoments ids → Tells rows ids → moment_in (hash id) (find (is_from (key_at (hash id) from)) rows) ≡ Some at → is_known_at window id t at ids ≡ false → is_known_from window id t from ids ≡ is_known_from window id t (at + 1) ids
  known_next from at ids rows rising moments tells found off =
      any_same (λ a. (bytes_eq a.id id && is_recent window t a) && nat_le from a.moment) (λ a. (bytes_eq a.id id && is_recent window t a) && nat_le (at + 1) a.moment) ids
      (each_implied (λ a. Held rows a × ((nat_lt t (at + 1000 * window) && is_one at id a) ≡ false)) (λ a. ((bytes_eq a.id id && is_recent window t a) && nat_le from a.moment) ≡ ((bytes_eq a.id id && is_recent window t a) && nat_le (at + 1) a.moment)) (λ a h. same_of from at rows rising found a h.0 h.1) ids
      (each_both (Held rows) (λ a. (nat_lt t (at + 1000 * window) && is_one at id a) ≡ false) ids (held rows ids moments tells) (off_each at ids off)))

  -- an id that was accepted so recently is known
  pub known_hit : (at : ℕ) (ids : List AcceptedId) → is_known_at window id t at ids ≡ true → is_known window id t ids ≡ true
  known_hit at ids on = go (nat_lt t (at + 1000 * window)) refl where
    go : (b : Bool) → nat_lt t (at + 1000 * window) ≡ b → is_known window id t ids ≡ true
    go false is = let bad : false ≡ true = rw is at on in absurd cc
    go true is =
        let any : list_any (is_one at id) ids ≡ true = rw is at on in
        any_more (is_one at id) (λ a. bytes_eq a.id id && is_recent window t a) ids (λ a e. one_known a e (a.moment == at) refl (bytes_eq a.id id) refl) any where
          one_known : (a : AcceptedId) → is_one at id a ≡ true → (c : Bool) → (a.moment == at) ≡ c → (d : Bool) → bytes_eq a.id id ≡ d → (bytes_eq a.id id && is_recent window t a) ≡ true
          one_known a e false here d same = let bad : false ≡ true = rw here at e in absurd cc
          one_known a e true here false same = let bad : false ≡ true = rw (here, same) at e in absurd cc
          one_known a e true here true same =
              let there : at ≡ a.moment = grind (arith, nat_tests) in
              rw same (subst (λ (n : ℕ). nat_lt t (n + 1000 * window) ≡ true) there is)

  -- what was accepted before `from` is past the window
  pub known_start : (from : ℕ) (ids : List AcceptedId) → from ≡ t - 1000 * window → is_known window id t ids ≡ is_known_from window id t from ids
  known_start from ids e = any_same (λ a. bytes_eq a.id id && is_recent window t a) (λ a. (bytes_eq a.id id && is_recent window t a) && nat_le from a.moment) ids (each_of_all _ (λ a. one_same a (bytes_eq a.id id) (is_recent window t a) refl) ids) where
    since : (w m : ℕ) → from ≡ t - w → nat_lt t (m + w) ≡ true → nat_le from m ≡ true
    since w m is e = grind (arith, nat_tests)

    one_same : (a : AcceptedId) (b c : Bool) → is_recent window t a ≡ c → (b && c) ≡ ((b && c) && nat_le from a.moment)
    one_same a false c is = refl
    one_same a true false is = refl
    one_same a true true is = sym (since (1000 * window) a.moment e is)

  -- there is no moment behind the last
  pub known_end : (from : ℕ) (ids : List AcceptedId) → AreMoments ids → 2 ^ 64 ≤ from → is_known_from window id t from ids ≡ false
  known_end from ids moments le = any_off (λ a. (bytes_eq a.id id && is_recent window t a) && nat_le from a.moment) ids (each_implied (λ a. a.moment < 2 ^ 64) (λ a. ((bytes_eq a.id id && is_recent window t a) && nat_le from a.moment) ≡ false) (λ a lt. rw (off (2 ^ 64) a.moment lt le) (and_false (bytes_eq a.id id && is_recent window t a))) ids moments) where
    off : (w m : ℕ) → m < w → w ≤ from → nat_le from m ≡ false
    off w m lt le = grind (arith, nat_tests)

-- ---- one id more

-- rows that were told of one more
pub tells_with : (before : AcceptedId → Bool) (a : AcceptedId) (key : ℕ) (ids : List AcceptedId) (rows more : List Row) → Tells rows ids → key ≡ key_of a → ((k : ℕ) → list_any (is_at k) more ≡ ((k == key) || list_any (is_at k) rows)) → Tells more (with_sorted before a ids)
tells_with before a key ids rows more tells same told k =
    told k ∙ ap (λ (n : ℕ). (k == n) || list_any (is_at k) rows) same ∙ ap (λ (b : Bool). has_key k a || b) (tells k) ∙ sym (any_insert (has_key k) a ids (prefix_len before ids))

pub told_new : (key k : ℕ) (r : Row) (rows : List Row) → r.key ≡ key → list_any (is_at k) (with_row r rows) ≡ ((k == key) || list_any (is_at k) rows)
told_new key k r rows same = any_insert (is_at k) r rows (prefix_len (λ x. nat_lt x.key r.key) rows) ∙ ap (λ (n : ℕ). (k == n) || list_any (is_at k) rows) same

pub told_again : (key k : ℕ) (r : Row) (rows : List Row) → Some r ≡ find (is_at key) rows → list_any (is_at k) rows ≡ ((k == key) || list_any (is_at k) rows)
told_again key k r rows found = at (k == key) refl where
  at : (b : Bool) → (k == key) ≡ b → list_any (is_at k) rows ≡ ((k == key) || list_any (is_at k) rows)
  at true is =
      let same : key ≡ k = grind (arith, nat_tests) in
      let there : list_any (is_at k) rows ≡ true = subst (λ (n : ℕ). list_any (is_at n) rows ≡ true) same (any_found (is_at key) r rows (sym found)) in
      rw is there
  at false is = rw is refl

-- what is left to tell, once the first is told
pub told_one : (a b c : Bool) → ((a || b) || c) ≡ (b || (a || c))
told_one true true c = refl
told_one true false c = refl
told_one false b c = refl
