-- A slab and its index by number after a change of both: the copies that the rows then lead to.
use Rattle.std.proofs.Common.{◌≡◌, ◌≢◌, ℕ, suc, ◌+◌, List, [], ◌∷◌, ◌++◌, length, map, find, Bool, true, false, Option, Some, None, OnSome, refl, sym, ap, ◌∙◌, subst, arith}
use Rattle.std.specs.Prelude.{option_and_then}
use Rattle.std.proofs.lemmas.List.{map_push}
use Rattle.slab.specs.Slab.{Slab, Updates, get}
use Rattle.sb_index.specs.Rows.{AreRising, is_at, with_row, without}
use Rattle.sb_index.specs.Rows as index
use Rattle.sb_index.specs.declared.row.Row.{Row}
use Rattle.sb_index.proofs.Order.{length_changed, length_with, length_without, without_none}
use Rattle.sb_machine.specs.Keyed.{changed}
use Rattle.sb_machine.specs.Leaves.{has_number}
use Rattle.sb_machine.specs.declared.state.StoredCopy.{StoredCopy}
use Rattle.sb_machine.proofs.Places.{found_passes}
use Rattle.sb_copies.specs.Shelf.{AreBelow, AreInOrder, Leads, Mirrors, copies_in, row_in, rows_in, unkeyed}
use Rattle.sb_copies.proofs.Finding.{leads, numbered_is}
use Rattle.sb_copies.proofs.Leading.{Keeps, Pairs, changed_leads, changed_so, keeps_others, pairs_changed, pairs_last, pairs_led, pairs_of, pairs_taken, pairs_with, with_last, without_so}
use Rattle.sb_copies.proofs.Mirror.{IsToldOf, row_taken, row_told}
use Rattle.sb_copies.proofs.Order.{same_number}

-- ---- the row of a number

row_at : (k n : ℕ) (x : Row) (rows : List Row) → k ≡ n → Some x ≡ find (is_at k) rows → find (is_at n) rows ≡ Some x
row_at k n x rows same found = ap (λ j. find (is_at j) rows) (sym same) ∙ sym found

-- the copy that it leads to
own_copy : (look : ℕ → Option StoredCopy) (p : Row → Bool) (x : Row) (rows : List Row) (cs : List StoredCopy) → Pairs look rows cs → find p rows ≡ Some x → (c : StoredCopy) × (look x.value ≡ Some c) × (x.key ≡ c.number)
own_copy look p x [] [] a found = absurd cc
own_copy look p x [] (c ∷ cs) a found = absurd a
own_copy look p x (r ∷ rs) [] a found = absurd a
own_copy look p x (r ∷ rs) (c ∷ cs) a found = at (p r) refl (own_copy look p x rs cs a.2) where
  at : (b : Bool) → p r ≡ b → (find p rs ≡ Some x → (y : StoredCopy) × (look x.value ≡ Some y) × (x.key ≡ y.number)) → (y : StoredCopy) × (look x.value ≡ Some y) × (x.key ≡ y.number)
  at true e ih =
      let it : Some r ≡ Some x = rw e at found in
      let same : r ≡ x = cc in
      subst (λ (z : Row). (y : StoredCopy) × (look z.value ≡ Some y) × (z.key ≡ y.number)) same (c, a.0, a.1)
  at false e ih = ih (rw e at found)

-- what is changed under its key alone
keeps_at : (n : ℕ) (x : Row) (rows : List Row) (cs : List StoredCopy) (look new : ℕ → Option StoredCopy) → Pairs look rows cs → find (is_at n) rows ≡ Some x → ((o : ℕ) → o ≢ x.value → new o ≡ look o) → Keeps n look new
keeps_at n x rows cs look new a found others =
    let it = own_copy look (is_at n) x rows cs a found in
    let own : n ≡ x.key = same_number n x.key (found_passes (is_at n) rows x found) in
    keeps_others n x.value it.0 look new it.1 (sym it.2 ∙ sym own) others

unchanged : (p : StoredCopy → Bool) (g : StoredCopy → List StoredCopy) (cs : List StoredCopy) → find p cs ≡ None → changed p g cs ≡ cs
unchanged p g [] found = refl
unchanged p g (c ∷ cs) found = at (p c) refl (unchanged p g cs) where
  at : (b : Bool) → p c ≡ b → (find p cs ≡ None → changed p g cs ≡ cs) → changed p g (c ∷ cs) ≡ c ∷ cs
  at true e ih = absurd (let bad : Some c ≡ None = rw e at found in cc)
  at false e ih = rw e (ap (λ (l : List StoredCopy). c ∷ l) (ih (rw e at found)))

none_numbered : (slots : Slab StoredCopy) (k n : ℕ) (rows : List Row) → k ≡ n → Leads slots rows → None ≡ find (is_at k) rows → find (has_number n) (copies_in slots rows) ≡ None
none_numbered slots k n rows same is found = sym (numbered_is slots n rows is) ∙ at (find (is_at n) rows) (ap (λ j. find (is_at j) rows) (sym same) ∙ sym found) where
  at : (o : Option Row) → o ≡ None → option_and_then (λ r. get slots r.value) o ≡ None
  at None e = refl
  at (Some r) e = absurd cc

-- ---- one that stands otherwise

pub stood_led : (k n : ℕ) (g : StoredCopy → StoredCopy) (same : (c : StoredCopy) → (g c).number ≡ c.number) (old new : Slab StoredCopy) (x : Row) (rows : List Row) → k ≡ n → Leads old rows → AreRising rows → Some x ≡ find (is_at k) rows
    → ((c : StoredCopy) → get old x.value ≡ Some c → get new x.value ≡ Some (g c)) → ((o : ℕ) → o ≢ x.value → get new o ≡ get old o) → copies_in new rows ≡ changed (has_number n) (λ c. g c ∷ []) (copies_in old rows)
stood_led k n g same old new x rows key is s found stands others =
    pairs_led (get new) rows (changed (has_number n) (λ c. g c ∷ []) (copies_in old rows))
    (pairs_changed n g same (get old) (get new) (keeps_at n x rows (copies_in old rows) (get old) (get new) pairs here others) rows (copies_in old rows) turns pairs s)
  where
    here : find (is_at n) rows ≡ Some x
    here = row_at k n x rows key found

    pairs : Pairs (get old) rows (copies_in old rows)
    pairs = pairs_of (get old) rows is

    turns : (r : Row) (c : StoredCopy) → find (is_at n) rows ≡ Some r → get old r.value ≡ Some c → get new r.value ≡ Some (g c)
    turns r c there held =
        let it : Some x ≡ Some r = sym here ∙ there in
        let one : x ≡ r = cc in
        subst (λ (z : Row). get new z.value ≡ Some (g c)) one (stands c (ap (λ (z : Row). get old z.value) one ∙ held))

pub unstood_led : (k n : ℕ) (g : StoredCopy → StoredCopy) (old : Slab StoredCopy) (rows : List Row) → k ≡ n → Leads old rows → None ≡ find (is_at k) rows → copies_in old rows ≡ changed (has_number n) (λ c. g c ∷ []) (copies_in old rows)
unstood_led k n g old rows key is found = sym (unchanged (has_number n) (λ c. g c ∷ []) (copies_in old rows) (none_numbered old k n rows key is found))

-- ... and its row tells so
pub told_led : (k : ℕ) (m : Bool) (d : ℕ) (slots : Slab StoredCopy) (rows after : List Row) (cs : List StoredCopy) → after ≡ index.changed k m d rows → copies_in slots rows ≡ cs → copies_in slots after ≡ cs
told_led k m d slots rows after cs told stands = ap (λ (l : List Row). copies_in slots l) told ∙ changed_leads k m d (get slots) rows ∙ stands

pub told_mirrors : (e : Bool) (k n : ℕ) (m : Bool) (d : ℕ) (g : StoredCopy → StoredCopy) (old new : Slab StoredCopy) (rows after : List Row) → k ≡ n → IsToldOf e n m d g (copies_in old rows) → Mirrors e old rows → AreInOrder (copies_in old rows) → after ≡ index.changed k m d rows → copies_in new after ≡ changed (has_number n) (λ c. g c ∷ []) (copies_in old rows) → Mirrors e new after
told_mirrors e k n m d g old new rows after key so is s told stands =
    row_told e n m d g (map unkeyed rows) (map unkeyed after) (copies_in old rows) (copies_in new after) so is s
    (ap (λ (l : List Row). map unkeyed l) told ∙ ap (λ j. map unkeyed (index.changed j m d rows)) key ∙ changed_so n m d rows) stands

pub told_long : (k : ℕ) (m : Bool) (d len : ℕ) (rows after : List Row) → after ≡ index.changed k m d rows → len ≡ length rows → len ≡ length after
told_long k m d len rows after told long = long ∙ sym (length_changed k m d rows) ∙ ap (λ (l : List Row). length l) (sym told)

-- ---- one less

pub taken_led : (k n : ℕ) (old new : Slab StoredCopy) (x : Row) (rows after : List Row) → k ≡ n → Leads old rows → AreRising rows → Some x ≡ find (is_at k) rows → Updates old new x.value None → after ≡ without k rows → copies_in new after ≡ changed (has_number n) (λ c. []) (copies_in old rows)
taken_led k n old new x rows after key is s found updates removed =
    let pairs = pairs_of (get old) rows is in
    let keeps = keeps_at n x rows (copies_in old rows) (get old) (get new) pairs (row_at k n x rows key found) updates.others in
    ap (λ (l : List Row). copies_in new l) (removed ∙ ap (λ j. without j rows) key)
    ∙ pairs_led (get new) (without n rows) (changed (has_number n) (λ c. []) (copies_in old rows)) (pairs_taken n (get old) (get new) keeps rows (copies_in old rows) pairs s)

-- where there is none
pub same_rows : (k : ℕ) (rows after : List Row) → None ≡ find (is_at k) rows → after ≡ without k rows → after ≡ rows
same_rows k rows after found removed = removed ∙ without_none k rows (sym found)

pub untaken_led : (k n : ℕ) (old : Slab StoredCopy) (rows after : List Row) → k ≡ n → Leads old rows → None ≡ find (is_at k) rows → after ≡ without k rows → copies_in old after ≡ changed (has_number n) (λ c. []) (copies_in old rows)
untaken_led k n old rows after key is found removed = ap (λ (l : List Row). copies_in old l) (same_rows k rows after found removed) ∙ sym (unchanged (has_number n) (λ c. []) (copies_in old rows) (none_numbered old k n rows key is found))

on_some : {X : Type 0} (o : Option X) (x : X) (P : Type 0) → o ≡ Some x → OnSome o P → P
on_some None x P e p = absurd cc
on_some (Some y) x P e p = p

pub taken_long : (k len more : ℕ) (old : Slab StoredCopy) (o : Option StoredCopy) (x : Row) (rows after : List Row) → Leads old rows → AreRising rows → Some x ≡ find (is_at k) rows → o ≡ get old x.value → OnSome o (len + 1 ≡ more) → after ≡ without k rows → more ≡ length rows → len ≡ length after
taken_long k len more old o x rows after is s found got fewer removed long =
    let it = own_copy (get old) (is_at k) x rows (copies_in old rows) (pairs_of (get old) rows is) (sym found) in
    let one : len + 1 ≡ more = on_some o it.0 (len + 1 ≡ more) (got ∙ it.1) fewer in
    let rest : suc (length (without k rows)) ≡ length rows = length_without k x rows s (sym found) in
    let same : length after ≡ length (without k rows) = ap (λ (l : List Row). length l) removed in
    omega (arith, one, rest, same, long)

pub taken_mirrors : (e : Bool) (n : ℕ) (old new : Slab StoredCopy) (rows after : List Row) → Mirrors e old rows → AreInOrder (copies_in old rows) → after ≡ without n rows → copies_in new after ≡ changed (has_number n) (λ c. []) (copies_in old rows) → Mirrors e new after
taken_mirrors e n old new rows after is s removed taken =
    row_taken e n (map unkeyed rows) (map unkeyed after) (copies_in old rows) (copies_in new after) is s (ap (λ (l : List Row). map unkeyed l) removed ∙ without_so n rows) taken

-- ---- one more

module _ (e : Bool) (v key : ℕ) (old new : Slab StoredCopy) (c : StoredCopy) (x : Row) (rows after : List Row) (row : x ≡ record (row_in e c) { value = v }) (under : key ≡ v) (is : Mirrors e old rows) (b : AreBelow c.number (copies_in old rows)) (none : get old key ≡ None) (updates : Updates old new key (Some c)) (put : after ≡ with_row x rows) where
  pairs : Pairs (get old) rows (copies_in old rows)
  pairs = pairs_of (get old) rows (leads e old rows is)

  number : x.key ≡ c.number
  number = ap (λ (z : Row). z.key) row

  there : x.value ≡ key
  there = ap (λ (z : Row). z.value) row ∙ sym under

  behind : after ≡ rows ++ x ∷ []
  behind = put ∙ with_last (get old) x rows (copies_in old rows) pairs (subst (λ k. AreBelow k (copies_in old rows)) (sym number) b)

  pub put_led : copies_in new after ≡ copies_in old rows ++ c ∷ []
  put_led =
      ap (λ (l : List Row). copies_in new l) behind
      ∙ pairs_led (get new) (rows ++ x ∷ []) (copies_in old rows ++ c ∷ [])
      (pairs_last (get new) x c (ap (λ k. get new k) there ∙ updates.changed) number rows (copies_in old rows) (pairs_with key (get old) (get new) none updates.others rows (copies_in old rows) pairs))

  pub put_mirrors : Mirrors e new after
  put_mirrors =
      ap (λ (l : List Row). map unkeyed l) behind
      ∙ map_push unkeyed rows x
      ∙ ap (λ (l : List Row). l ++ unkeyed x ∷ []) is
      ∙ ap (λ (z : Row). rows_in e (copies_in old rows) ++ unkeyed z ∷ []) row
      ∙ sym (map_push (row_in e) (copies_in old rows) c)
      ∙ ap (λ (l : List StoredCopy). rows_in e l) (sym put_led)

pub put_long : (len more : ℕ) (x : Row) (rows after : List Row) → after ≡ with_row x rows → more ≡ len + 1 → len ≡ length rows → more ≡ length after
put_long len more x rows after put grown long =
    let it : length after ≡ suc (length rows) = ap (λ (l : List Row). length l) put ∙ length_with x rows in
    omega (arith, it, grown, long)
