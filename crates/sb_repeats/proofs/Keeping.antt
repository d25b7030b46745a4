-- Clients in order: the place of one, a call kept there, and one that is forgotten.
use Rattle.std.proofs.Common.{◌≡◌, ℕ, zero, suc, List, [], ◌∷◌, ◌<◌, length, arith, Bool, true, false, Option, Some, None, find, refl, sym, ap, ◌∙◌, subst, cond, if◌then◌else◌}
use Rattle.std.specs.Prelude.{bytes_eq, slice_set, is_some}
use Rattle.std.specs.List.{insert, prefix_len, remove, slice_get}
use Rattle.std.specs.List.Sorted.{IsPartitionedBy}
use Rattle.sb_machine.specs.Answers.{with_kept, without_client}
use Rattle.sb_machine.specs.Each.{Each, IsSorted}
use Rattle.sb_machine.specs.Keyed.{changed, with_sorted}
use Rattle.sb_machine.specs.Names.{is_before}
use Rattle.sb_machine.specs.Repeats.{is_client, kept_for}
use Rattle.sb_machine.specs.declared.state.Kept.{Kept}
use Rattle.sb_repeats.specs.Clients.{is_first, of_client}
use Rattle.sb_repeats.proofs.Bisecting.{before_differs, before_later, before_other, behind_differs, bytes_same, each_implied, parted, prefix_off, prefix_on, sorted_with}

-- how many stand before this client
abbrev pub entry : List ℕ → List Kept → ℕ
entry client rows = prefix_len (λ x. is_before x.client client) rows

pub clients_parted : (client : List ℕ) (rows : List Kept) → IsSorted is_first rows → IsPartitionedBy (λ x. is_before x.client client) rows
clients_parted client rows sorted = parted is_first (λ x. is_before x.client client) (λ x y before passes. before_later x.client y.client client before passes) rows sorted

none_of : (client : List ℕ) (rows : List Kept) → Each (λ y. is_before client y.client ≡ true) rows → find (is_client client) rows ≡ None
none_of client [] behind = refl
none_of client (y ∷ ys) behind = rw (behind_differs y.client client behind.0) (none_of client ys behind.1)

pub kept_at : (client : List ℕ) (rows : List Kept) → IsSorted is_first rows → kept_for client rows ≡ of_client client (slice_get rows (entry client rows))
kept_at client [] sorted = refl
kept_at client (y ∷ ys) sorted = at (is_before y.client client) refl (kept_at client ys sorted.1) where
  here : (c : Bool) → bytes_eq y.client client ≡ c → is_before y.client client ≡ false → cond (bytes_eq y.client client) (Some y) (find (is_client client) ys) ≡ of_client client (Some y)
  here true same off = rw same refl
  here false same off = rw same (none_of client ys (each_implied (λ z. is_before y.client z.client ≡ true) (λ z. is_before client z.client ≡ true) (λ z behind. before_later client y.client z.client (before_other y.client client off same) behind) ys sorted.0))

  at : (b : Bool) → is_before y.client client ≡ b → kept_for client ys ≡ of_client client (slice_get ys (entry client ys)) → kept_for client (y ∷ ys) ≡ of_client client (slice_get (y ∷ ys) (entry client (y ∷ ys)))
  at true is ih = rw (prefix_on (λ x. is_before x.client client) y ys is, before_differs y.client client is) ih
  at false is ih = rw (prefix_off (λ x. is_before x.client client) y ys is) (here (bytes_eq y.client client) refl is)

-- ---- a call in the place of the client's last

changed_at : (k x : Kept) (client : List ℕ) (rows : List Kept) → slice_get rows (entry client rows) ≡ Some x → is_client client x ≡ true → slice_set rows (entry client rows) k ≡ changed (is_client client) (λ y. k ∷ []) rows
changed_at k x client [] found same = refl
changed_at k x client (y ∷ ys) found same = at (is_before y.client client) refl (changed_at k x client ys) where
  at : (b : Bool) → is_before y.client client ≡ b → (slice_get ys (entry client ys) ≡ Some x → is_client client x ≡ true → slice_set ys (entry client ys) k ≡ changed (is_client client) (λ z. k ∷ []) ys) → slice_set (y ∷ ys) (entry client (y ∷ ys)) k ≡ changed (is_client client) (λ z. k ∷ []) (y ∷ ys)
  at true is ih =
      let on = prefix_on (λ x. is_before x.client client) y ys is in
      let behind : slice_get ys (entry client ys) ≡ Some x = ap (slice_get (y ∷ ys)) (sym on) ∙ found in
      rw (on, before_differs y.client client is) (ap (λ (l : List Kept). y ∷ l) (ih behind same))
  at false is ih =
      let off = prefix_off (λ x. is_before x.client client) y ys is in
      let here : Some y ≡ Some x = ap (slice_get (y ∷ ys)) (sym off) ∙ found in
      let one : y ≡ x = cc in
      rw (off, subst (λ (z : Kept). is_client client z ≡ true) (sym one) same) refl

-- what is kept, by what was found
abbrev by_found : Kept → List Kept → Option Kept → List Kept
by_found k rows o = if is_some o then changed (is_client k.client) (λ x. k ∷ []) rows else with_sorted (λ x. is_before x.client k.client) k rows

is_of : (client : List ℕ) (o : Option Kept) → is_some (of_client client o) ≡ true → (x : Kept) × (o ≡ Some x) × (is_client client x ≡ true)
is_of client None e = absurd (let bad : false ≡ true = e in cc)
is_of client (Some x) e = at (is_client client x) refl where
  at : (b : Bool) → is_client client x ≡ b → (y : Kept) × (Some x ≡ Some y) × (is_client client y ≡ true)
  at true is = (x, refl, is)
  at false is = absurd (let bad : false ≡ true = ap (λ (b : Bool). is_some (if b then Some x else None)) (sym is) ∙ e in cc)

is_not_of : (o : Option Kept) → is_some o ≡ false → o ≡ None
is_not_of None e = refl
is_not_of (Some x) e = absurd (let bad : true ≡ false = e in cc)

pub keep_known : (k : Kept) (client : List ℕ) (rows : List Kept) (place : ℕ) → client ≡ k.client → place ≡ entry client rows → IsSorted is_first rows → is_some (of_client client (slice_get rows place)) ≡ true → slice_set rows place k ≡ with_kept k rows
keep_known k client rows place named is sorted there =
    let at_own : is_some (of_client k.client (slice_get rows (entry k.client rows))) ≡ true = subst (λ (c : List ℕ). is_some (of_client c (slice_get rows (entry c rows))) ≡ true) named (subst (λ (n : ℕ). is_some (of_client client (slice_get rows n)) ≡ true) is there) in
    let it = is_of k.client (slice_get rows (entry k.client rows)) at_own in
    let known : kept_for k.client rows ≡ Some it.0 = kept_at k.client rows sorted ∙ ap (of_client k.client) it.1 ∙ ap (λ (b : Bool). if b then Some it.0 else None) it.2 in
    ap (λ (n : ℕ). slice_set rows n k) (is ∙ ap (λ (c : List ℕ). entry c rows) named) ∙ changed_at k it.0 k.client rows it.1 it.2 ∙ ap (by_found k rows) (sym known)

pub place_within : (client : List ℕ) (rows : List Kept) (place : ℕ) → is_some (of_client client (slice_get rows place)) ≡ true → place < length rows
place_within client [] place there = absurd (let bad : false ≡ true = there in cc)
place_within client (y ∷ ys) zero there = omega arith
place_within client (y ∷ ys) (suc n) there = let rest = place_within client ys n there in omega (arith, rest)

absent : (k : Kept) (client : List ℕ) (rows : List Kept) (place : ℕ) → client ≡ k.client → place ≡ entry client rows → is_some (of_client client (slice_get rows place)) ≡ false → of_client k.client (slice_get rows (entry k.client rows)) ≡ None
absent k client rows place named is off = is_not_of _ (subst (λ (c : List ℕ). is_some (of_client c (slice_get rows (entry c rows))) ≡ false) named (subst (λ (n : ℕ). is_some (of_client client (slice_get rows n)) ≡ false) is off))

pub keep_new : (k : Kept) (client : List ℕ) (rows : List Kept) (place : ℕ) → client ≡ k.client → place ≡ entry client rows → IsSorted is_first rows → is_some (of_client client (slice_get rows place)) ≡ false → insert rows place k ≡ with_kept k rows
keep_new k client rows place named is sorted off =
    ap (λ (n : ℕ). insert rows n k) (is ∙ ap (λ (c : List ℕ). entry c rows) named) ∙ ap (by_found k rows) (sym (kept_at k.client rows sorted ∙ absent k client rows place named is off))

-- ---- the order stays

each_set : (P : List ℕ → Type 0) (k x : Kept) (rows : List Kept) (i : ℕ) → k.client ≡ x.client → slice_get rows i ≡ Some x → Each (λ y. P y.client) rows → Each (λ y. P y.client) (slice_set rows i k)
each_set P k x [] i same found h = tt
each_set P k x (y ∷ ys) zero same found h = let one : y ≡ x = cc in (subst P (ap (λ (z : Kept). z.client) one ∙ sym same) h.0, h.1)
each_set P k x (y ∷ ys) (suc i) same found h = (h.0, each_set P k x ys i same found h.1)

sorted_set : (k x : Kept) (rows : List Kept) (i : ℕ) → k.client ≡ x.client → slice_get rows i ≡ Some x → IsSorted is_first rows → IsSorted is_first (slice_set rows i k)
sorted_set k x [] i same found sorted = tt
sorted_set k x (y ∷ ys) zero same found sorted =
    let one : y ≡ x = cc in
    let client : y.client ≡ k.client = ap (λ (z : Kept). z.client) one ∙ sym same in
    (each_implied (λ z. is_before y.client z.client ≡ true) (λ z. is_before k.client z.client ≡ true) (λ z before. subst (λ (c : List ℕ). is_before c z.client ≡ true) client before) ys sorted.0, sorted.1)
sorted_set k x (y ∷ ys) (suc i) same found sorted = (each_set (λ c. is_before y.client c ≡ true) k x ys i same found sorted.0, sorted_set k x ys i same found sorted.1)

others : (client : List ℕ) (rows : List Kept) → find (is_client client) rows ≡ None → Each (λ y. is_before y.client client ≡ false → is_before client y.client ≡ true) rows
others client [] none = tt
others client (y ∷ ys) none = at (bytes_eq y.client client) refl (others client ys) where
  at : (b : Bool) → bytes_eq y.client client ≡ b → (find (is_client client) ys ≡ None → Each (λ z. is_before z.client client ≡ false → is_before client z.client ≡ true) ys) → Each (λ z. is_before z.client client ≡ false → is_before client z.client ≡ true) (y ∷ ys)
  at true is ih = let bad : Some y ≡ None = rw is at none in absurd cc
  at false is ih = let rest : find (is_client client) ys ≡ None = rw is at none in (λ off. before_other y.client client off is, ih rest)

pub sorted_known : (k : Kept) (client : List ℕ) (rows : List Kept) (place : ℕ) → client ≡ k.client → IsSorted is_first rows → is_some (of_client client (slice_get rows place)) ≡ true → IsSorted is_first (slice_set rows place k)
sorted_known k client rows place named sorted there =
    let it = is_of client (slice_get rows place) there in
    sorted_set k it.0 rows place (sym named ∙ sym (bytes_same it.0.client client it.2)) it.1 sorted

pub sorted_new : (k : Kept) (client : List ℕ) (rows : List Kept) (place : ℕ) → client ≡ k.client → place ≡ entry client rows → IsSorted is_first rows → is_some (of_client client (slice_get rows place)) ≡ false → IsSorted is_first (insert rows place k)
sorted_new k client rows place named is sorted off =
    let none = kept_at k.client rows sorted ∙ absent k client rows place named is off in
    subst (λ (n : ℕ). IsSorted is_first (insert rows n k)) (sym (is ∙ ap (λ (c : List ℕ). entry c rows) named)) (sorted_with is_first k (λ y z p q. before_later k.client y.client z.client p q) rows (others k.client rows none) sorted)

-- ---- one that is forgotten

forgotten_at : (client : List ℕ) (rows : List Kept) → is_some (of_client client (slice_get rows (entry client rows))) ≡ true → remove rows (entry client rows) ≡ without_client client rows
forgotten_at client [] there = absurd (let bad : false ≡ true = there in cc)
forgotten_at client (y ∷ ys) there = at (is_before y.client client) refl (forgotten_at client ys) where
  at : (b : Bool) → is_before y.client client ≡ b → (is_some (of_client client (slice_get ys (entry client ys))) ≡ true → remove ys (entry client ys) ≡ without_client client ys) → remove (y ∷ ys) (entry client (y ∷ ys)) ≡ without_client client (y ∷ ys)
  at true is ih =
      let on = prefix_on (λ x. is_before x.client client) y ys is in
      let behind : is_some (of_client client (slice_get ys (entry client ys))) ≡ true = ap (λ (n : ℕ). is_some (of_client client (slice_get (y ∷ ys) n))) (sym on) ∙ there in
      rw (on, before_differs y.client client is) (ap (λ (l : List Kept). y ∷ l) (ih behind))
  at false is ih =
      let off = prefix_off (λ x. is_before x.client client) y ys is in
      let here : is_some (of_client client (Some y)) ≡ true = ap (λ (n : ℕ). is_some (of_client client (slice_get (y ∷ ys) n))) (sym off) ∙ there in
      let it = is_of client (Some y) here in
      let one : y ≡ it.0 = let e = it.1 in cc in
      let named : is_client client y ≡ true = subst (λ (z : Kept). is_client client z ≡ true) (sym one) it.2 in
      rw (off, named) refl

pub forget_known : (client : List ℕ) (rows : List Kept) (place : ℕ) → place ≡ entry client rows → is_some (of_client client (slice_get rows place)) ≡ true → remove rows place ≡ without_client client rows
forget_known client rows place is there =
    ap (λ (n : ℕ). remove rows n) is ∙ forgotten_at client rows (subst (λ (n : ℕ). is_some (of_client client (slice_get rows n)) ≡ true) is there)

none_changed : (client : List ℕ) (rows : List Kept) → kept_for client rows ≡ None → rows ≡ without_client client rows
none_changed client [] none = refl
none_changed client (y ∷ ys) none = at (is_client client y) refl (none_changed client ys) where
  at : (b : Bool) → is_client client y ≡ b → (kept_for client ys ≡ None → ys ≡ without_client client ys) → y ∷ ys ≡ without_client client (y ∷ ys)
  at true is ih = let bad : Some y ≡ None = rw is at none in absurd cc
  at false is ih = let rest : kept_for client ys ≡ None = rw is at none in rw is (ap (λ (l : List Kept). y ∷ l) (ih rest))

pub forget_none : (client : List ℕ) (rows : List Kept) (place : ℕ) → place ≡ entry client rows → IsSorted is_first rows → is_some (of_client client (slice_get rows place)) ≡ false → rows ≡ without_client client rows
forget_none client rows place is sorted off =
    none_changed client rows (kept_at client rows sorted ∙ is_not_of _ (subst (λ (n : ℕ). is_some (of_client client (slice_get rows n)) ≡ false) is off))

each_forgotten : (P : Kept → Type 0) (client : List ℕ) (rows : List Kept) → Each P rows → Each P (without_client client rows)
each_forgotten P client [] h = tt
each_forgotten P client (y ∷ ys) h = at (is_client client y) refl (each_forgotten P client ys h.1) where
  at : (b : Bool) → is_client client y ≡ b → Each P (without_client client ys) → Each P (without_client client (y ∷ ys))
  at true is ih = rw is h.1
  at false is ih = rw is (h.0, ih)

sorted_without : (client : List ℕ) (rows : List Kept) → IsSorted is_first rows → IsSorted is_first (without_client client rows)
sorted_without client [] sorted = tt
sorted_without client (y ∷ ys) sorted = at (is_client client y) refl (sorted_without client ys sorted.1) where
  at : (b : Bool) → is_client client y ≡ b → IsSorted is_first (without_client client ys) → IsSorted is_first (without_client client (y ∷ ys))
  at true is ih = rw is sorted.1
  at false is ih = rw is (each_forgotten (λ z. is_first y z ≡ true) client ys sorted.0, ih)

pub sorted_forgotten : (client : List ℕ) (rows : List Kept) (place : ℕ) → place ≡ entry client rows → IsSorted is_first rows → is_some (of_client client (slice_get rows place)) ≡ true → IsSorted is_first (remove rows place)
sorted_forgotten client rows place is sorted there = subst (λ (l : List Kept). IsSorted is_first l) (sym (forget_known client rows place is there)) (sorted_without client rows sorted)
