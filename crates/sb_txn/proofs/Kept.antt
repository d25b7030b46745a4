-- The index of the keys, and the slots, as transactions change.
use Rattle.std.proofs.Common.{◌≡◌, ℕ, ◌+◌, ◌*◌, ◌-◌, ◌^◌, ◌≤◌, ◌<◌, max, refl, sym, ap, ◌∙◌, Bool, true, false, not, ◌||◌, ◌&&◌, ◌==◌, List, [], ◌∷◌, ◌++◌, find, filter, sum_by, Option, Some, cond, subst, arith}
use Rattle.std.proofs.lemmas.Bool.Decides.{nat_tests}
use Rattle.std.proofs.lemmas.List.Folds.{list_any-append}
use Rattle.std.proofs.lemmas.List.Sums.{sum_by-cons, sum_by-append}
use Rattle.std.specs.List.{list_any, slice_get}
use Rattle.std.specs.Prelude.{position, IfSome}
use Rattle.sb_machine.proofs.Places.{found_some}
use Rattle.sb_index.specs.Rows.{is_at, Indexed}
use Rattle.sb_machine.specs.Each.{Each}
use Rattle.sb_machine.specs.Keyed.{changed}
use Rattle.sb_machine.specs.declared.state.Operation.{Operation}
use Rattle.sb_machine.specs.declared.state.Transaction.{Transaction}
use Rattle.sb_machine.specs.declared.state.Operation.TheVariants.{Send, Settle}
use Rattle.sb_txn.specs.Queued.{has_keyed, has_keyed_on, is_keyed, key_of, slots_of, slots_on, AreNumbered, IsKept}
use Rattle.sb_txn.specs.Txns.{Opened, begun, has_txn, is_elsewhere, with_queued, with_room}
use Rattle.sb_txn.proofs.Numbered.{numbered_changed, numbered_dropped, numbered_filter, numbered_push}

-- ---- lists

module _ {X : Type 0} where
  found_behind : (p : X → Bool) (x : X) (xs : List X) (r : Option X) → p x ≡ false → find p (x ∷ xs) ≡ r → find p xs ≡ r
  found_behind p x xs r fails found = rw fails at found

  found_here : (p : X → Bool) (x e : X) (xs : List X) → p x ≡ true → find p (x ∷ xs) ≡ Some e → x ≡ e
  found_here p x e xs passes found = let it : Some x ≡ Some e = rw passes at found in cc

  pub changed_sum : (f : X → ℕ) (p : X → Bool) (g : X → List X) (e : X) (xs : List X) → find p xs ≡ Some e → sum_by f (changed p g xs) + f e ≡ sum_by f xs + sum_by f (g e)
  changed_sum f p g e [] found = absurd cc
  changed_sum f p g e (x ∷ xs) found = at (p x) refl (changed_sum f p g e xs) where
    at : (b : Bool) → p x ≡ b → (find p xs ≡ Some e → sum_by f (changed p g xs) + f e ≡ sum_by f xs + sum_by f (g e)) → sum_by f (changed p g (x ∷ xs)) + f e ≡ sum_by f (x ∷ xs) + sum_by f (g e)
    at true is ih =
        let same : x ≡ e = found_here p x e xs is found in
        rw is (omega (arith, sum_by-append f (g x) xs, sum_by-cons f x xs, ap f same, ap (λ (z : X). sum_by f (g z)) same))
    at false is ih =
        let rest = ih (found_behind p x xs (Some e) is found) in
        rw is (omega (arith, sum_by-cons f x (changed p g xs), sum_by-cons f x xs, rest))

  pub sum_one : (f : X → ℕ) (x : X) → sum_by f (x ∷ []) ≡ f x
  sum_one f x = from_zero (f x) where
    from_zero : (n : ℕ) → 0 + n ≡ n
    from_zero n = omega arith

  pub found_least : (f : X → ℕ) (p : X → Bool) (e : X) (xs : List X) → find p xs ≡ Some e → f e ≤ sum_by f xs
  found_least f p e [] found = absurd cc
  found_least f p e (x ∷ xs) found = at (p x) refl (found_least f p e xs) where
    at : (b : Bool) → p x ≡ b → (find p xs ≡ Some e → f e ≤ sum_by f xs) → f e ≤ sum_by f (x ∷ xs)
    at true is ih = omega (arith, sum_by-cons f x xs, ap f (found_here p x e xs is found))
    at false is ih = omega (arith, sum_by-cons f x xs, ih (found_behind p x xs (Some e) is found))

  pub any_changed : (q p : X → Bool) (f : X → X) → ((x : X) → q (f x) ≡ q x) → (xs : List X) → list_any q (changed p (λ x. f x ∷ []) xs) ≡ list_any q xs
  any_changed q p f same [] = refl
  any_changed q p f same (x ∷ xs) = at (p x) refl (any_changed q p f same xs) where
    at : (b : Bool) → p x ≡ b → list_any q (changed p (λ y. f y ∷ []) xs) ≡ list_any q xs → list_any q (changed p (λ y. f y ∷ []) (x ∷ xs)) ≡ list_any q (x ∷ xs)
    at true is ih = rw is (ap (λ b. b || list_any q xs) (same x))
    at false is ih = rw is (ap (λ b. q x || b) ih)

  no_filter : (q p : X → Bool) (xs : List X) → list_any q xs ≡ false → list_any q (filter p xs) ≡ false
  no_filter q p [] e = refl
  no_filter q p (x ∷ xs) e =
      let it = neither (q x) (list_any q xs) e in
      at (p x) it.0 (no_filter q p xs it.1)
    where
      neither : (a b : Bool) → (a || b) ≡ false → (a ≡ false) × (b ≡ false)
      neither true b e = absurd cc
      neither false b e = (refl, e)

      at : (b : Bool) → q x ≡ false → list_any q (filter p xs) ≡ false → list_any q (cond b (x ∷ filter p xs) (filter p xs)) ≡ false
      at true own ih = rw own ih
      at false own ih = ih

-- ---- a key tells its transaction

pub keyed_number : (n k : ℕ) (ops : List Operation) → list_any (is_keyed n k) ops ≡ true → (lock : ℕ) × (k ≡ key_of lock n)
keyed_number n k [] e = absurd cc
keyed_number n k (Send to messages ∷ ops) e = keyed_number n k ops e
keyed_number n k (Settle from copy token session how ∷ ops) e = at (k == key_of token.lock n) refl (keyed_number n k ops) where
  same : (a b : ℕ) → (a == b) ≡ true → a ≡ b
  same a b e = grind (arith, nat_tests)

  at : (b : Bool) → (k == key_of token.lock n) ≡ b → (list_any (is_keyed n k) ops ≡ true → (lock : ℕ) × (k ≡ key_of lock n)) → (lock : ℕ) × (k ≡ key_of lock n)
  at true is ih = (token.lock, same k (key_of token.lock n) is)
  at false is ih = let rest : list_any (is_keyed n k) ops ≡ true = rw is at e in ih rest

pub one_number : (k l m a b : ℕ) → k ≡ l * 2 ^ 64 + a → k ≡ m * 2 ^ 64 + b → a < 2 ^ 64 → b < 2 ^ 64 → (a ≡ b) × (l ≡ m)
one_number k l m a b e f p q = (omega (arith, e, f, p, q), omega (arith, e, f, p, q))

-- of those behind one with the key, none has it
alone : (k : ℕ) (x : Opened) (xs : List Opened) → Each (λ y. x.transaction.number < y.transaction.number) xs → Each (λ r. r.transaction.number < 2 ^ 64) xs → x.transaction.number < 2 ^ 64 → has_keyed k x ≡ true → list_any (has_keyed k) xs ≡ false
alone k x [] up small own e = refl
alone k x (y ∷ ys) up small own e = at (has_keyed k y) refl (alone k x ys up.1 small.1 own e) where
  at : (b : Bool) → has_keyed k y ≡ b → list_any (has_keyed k) ys ≡ false → list_any (has_keyed k) (y ∷ ys) ≡ false
  at true is ih =
      let a = keyed_number x.transaction.number k x.transaction.operations e in
      let b = keyed_number y.transaction.number k y.transaction.operations is in
      let same = one_number k a.0 b.0 x.transaction.number y.transaction.number a.1 b.1 own small.0 in
      let less : x.transaction.number < y.transaction.number = up.0 in
      absurd (omega (arith, less, same.0))
  at false is ih = rw is ih

-- ---- one more operation

any_queued : (n k deadline : ℕ) (op : Operation) (r : Opened) (rows : List Opened) → find (has_txn n) rows ≡ Some r → list_any (has_keyed k) (changed (has_txn n) (λ r. with_queued deadline op r ∷ []) rows) ≡ (is_keyed n k op || list_any (has_keyed k) rows)
any_queued n k deadline op r [] found = absurd cc
any_queued n k deadline op r (x ∷ xs) found = at (has_txn n x) refl (any_queued n k deadline op r xs) where
  own : (n m : ℕ) → (m == n) ≡ true → m ≡ n
  own n m e = grind (arith, nat_tests)

  placed : (a b c : Bool) → ((a || (b || false)) || c) ≡ (b || (a || c))
  placed true true c = refl
  placed true false c = refl
  placed false true c = refl
  placed false false c = refl

  behind : (a b c : Bool) → (a || (b || c)) ≡ (b || (a || c))
  behind true true c = refl
  behind true false c = refl
  behind false b c = refl

  at : (b : Bool) → has_txn n x ≡ b → (find (has_txn n) xs ≡ Some r → list_any (has_keyed k) (changed (has_txn n) (λ r. with_queued deadline op r ∷ []) xs) ≡ (is_keyed n k op || list_any (has_keyed k) xs))
      → list_any (has_keyed k) (changed (has_txn n) (λ r. with_queued deadline op r ∷ []) (x ∷ xs)) ≡ (is_keyed n k op || list_any (has_keyed k) (x ∷ xs))
  at true is ih =
      let number : x.transaction.number ≡ n = own n x.transaction.number is in
      rw is (
      ap (λ b. b || list_any (has_keyed k) xs) (list_any-append (is_keyed x.transaction.number k) x.transaction.operations (op ∷ []))
      ∙ placed (list_any (is_keyed x.transaction.number k) x.transaction.operations) (is_keyed x.transaction.number k op) (list_any (has_keyed k) xs)
      ∙ ap (λ m. is_keyed m k op || (has_keyed k x || list_any (has_keyed k) xs)) number
      )
  at false is ih = rw is (ap (λ b. has_keyed k x || b) (ih (found_behind (has_txn n) x xs (Some r) is found)) ∙ behind (has_keyed k x) (is_keyed n k op) (list_any (has_keyed k) xs))

pub queued_slots : (n deadline : ℕ) (op : Operation) (r : Opened) (rows : List Opened) → find (has_txn n) rows ≡ Some r → 1 ≤ r.spare → slots_of (changed (has_txn n) (λ r. with_queued deadline op r ∷ []) rows) + 1 ≡ slots_of rows
queued_slots n deadline op r rows found room =
    let it = changed_sum (λ (r : Opened). r.spare) (has_txn n) (λ r. with_queued deadline op r ∷ []) r rows found in
    let one : sum_by (λ (r : Opened). r.spare) (with_queued deadline op r ∷ []) ≡ r.spare - 1 = sum_one (λ (r : Opened). r.spare) (with_queued deadline op r) in
    omega (arith, it, one, room)

pub queued_kept : (n deadline : ℕ) (op : Operation) (r : Opened) (rows : List Opened) (keys keys' : Indexed) → find (has_txn n) rows ≡ Some r → 1 ≤ r.spare
    → ((k : ℕ) → list_any (is_at k) keys'.rows ≡ (is_keyed n k op || list_any (is_at k) keys.rows)) → keys.spare ≤ keys'.spare + 1 → IsKept rows keys → IsKept (changed (has_txn n) (λ r. with_queued deadline op r ∷ []) rows) keys'
queued_kept n deadline op r rows keys keys' found room noted nodes kept =
    let slots = queued_slots n deadline op r rows found room in (
      numbered_changed (has_txn n) (with_queued deadline op) (λ r. refl) rows kept.0,
      (λ k. noted k ∙ ap (λ b. is_keyed n k op || b) (kept.1 k) ∙ sym (any_queued n k deadline op r rows found)),
      omega (arith, slots, nodes, kept.2),
    )

-- ---- one more transaction

pub begun_at : (number entity deadline slots : ℕ) (y : Opened) (rows new : List Opened) (keys : Indexed) → y.transaction ≡ begun number entity deadline → y.spare ≡ 0 → new ≡ rows ++ y ∷ [] → Each (λ r. r.transaction.number < number) rows → number < 2 ^ 64
    → slots ≡ slots_of rows → IsKept rows keys → (slots ≡ slots_of new) × IsKept new keys
begun_at number entity deadline slots y rows new keys opened none is above within all kept =
    let own : number ≡ y.transaction.number = sym (ap (λ (x : Transaction). x.number) opened) in
    let up : Each (λ r. r.transaction.number < y.transaction.number) rows = subst (λ (n : ℕ). Each (λ r. r.transaction.number < n) rows) own above in
    let empty : (k : ℕ) → has_keyed k y ≡ false = λ k. ap (λ (x : Transaction). list_any (is_keyed x.number k) x.operations) opened in
    let more : slots_of (rows ++ y ∷ []) ≡ slots_of rows + y.spare = sum_by-append (λ (r : Opened). r.spare) rows (y ∷ []) ∙ ap (λ m. slots_of rows + m) (sum_one (λ (r : Opened). r.spare) y) in (
      omega (arith, all, more, none, ap slots_of is),
      subst (λ (l : List Opened). IsKept l keys) (sym is) (
        numbered_push y rows kept.0 up (subst (λ (n : ℕ). n < 2 ^ 64) own within),
        (λ k. kept.1 k ∙ no_more (list_any (has_keyed k) rows) (has_keyed k y) (empty k) ∙ sym (list_any-append (has_keyed k) rows (y ∷ []))),
        omega (arith, more, none, kept.2),
      ),
    )
  where
    no_more : (a b : Bool) → b ≡ false → a ≡ (a || (b || false))
    no_more true b e = refl
    no_more false true e = sym e
    no_more false false e = refl

-- ---- more slots

pub roomy_slots : (n count : ℕ) (r : Opened) (rows : List Opened) → find (has_txn n) rows ≡ Some r → slots_of (changed (has_txn n) (λ r. with_room count r ∷ []) rows) + r.spare ≡ slots_of rows + max r.spare count
roomy_slots n count r rows found =
    changed_sum (λ (r : Opened). r.spare) (has_txn n) (λ r. with_room count r ∷ []) r rows found
    ∙ ap (λ m. slots_of rows + m) (sum_one (λ (r : Opened). r.spare) (with_room count r))

pub roomy_kept : (n count : ℕ) (rows : List Opened) (keys keys' : Indexed) → keys'.rows ≡ keys.rows → slots_of (changed (has_txn n) (λ r. with_room count r ∷ []) rows) ≤ keys'.spare → IsKept rows keys → IsKept (changed (has_txn n) (λ r. with_room count r ∷ []) rows) keys'
roomy_kept n count rows keys keys' same room kept = (
  numbered_changed (has_txn n) (with_room count) (λ r. refl) rows kept.0,
  (λ k. ap (list_any (is_at k)) same ∙ kept.1 k ∙ sym (any_changed (has_keyed k) (has_txn n) (with_room count) (λ r. refl) rows)),
  room,
)

-- ---- one transaction less

any_dropped : (n k : ℕ) (r : Opened) (rows : List Opened) → AreNumbered rows → find (has_txn n) rows ≡ Some r → list_any (has_keyed k) (changed (has_txn n) (λ r. []) rows) ≡ (not (has_keyed k r) && list_any (has_keyed k) rows)
any_dropped n k r [] kept found = absurd cc
any_dropped n k r (x ∷ xs) kept found = at (has_txn n x) (has_keyed k x) refl refl (any_dropped n k r xs (kept.0.1, kept.1.1)) where
  others : has_keyed k x ≡ true → list_any (has_keyed k) xs ≡ false
  others e = alone k x xs kept.0.0 kept.1.1 kept.1.0 e

  neither : (n : ℕ) (r : Opened) (xs : List Opened) → find (has_txn n) xs ≡ Some r → list_any (has_keyed k) xs ≡ false → has_keyed k r ≡ false
  neither n r [] found none = absurd cc
  neither n r (y ∷ ys) found none = by (has_txn n y) (has_keyed k y) refl refl (neither n r ys) where
    by : (b c : Bool) → has_txn n y ≡ b → has_keyed k y ≡ c → (find (has_txn n) ys ≡ Some r → list_any (has_keyed k) ys ≡ false → has_keyed k r ≡ false) → has_keyed k r ≡ false
    by b true is has ih = let bad : true ≡ false = rw has at none in absurd cc
    by true false is has ih = ap (has_keyed k) (sym (found_here (has_txn n) y r ys is found)) ∙ has
    by false false is has ih = let rest : list_any (has_keyed k) ys ≡ false = rw has at none in ih (found_behind (has_txn n) y ys (Some r) is found) rest

  gone : (a : Bool) → a ≡ false → (b : Bool) → b ≡ (not a && b)
  gone true e b = absurd cc
  gone false e b = refl

  at : (b c : Bool) → has_txn n x ≡ b → has_keyed k x ≡ c → (find (has_txn n) xs ≡ Some r → list_any (has_keyed k) (changed (has_txn n) (λ r. []) xs) ≡ (not (has_keyed k r) && list_any (has_keyed k) xs))
      → list_any (has_keyed k) (changed (has_txn n) (λ r. []) (x ∷ xs)) ≡ (not (has_keyed k r) && list_any (has_keyed k) (x ∷ xs))
  at true true is has ih =
      let own : has_keyed k r ≡ true = ap (has_keyed k) (sym (found_here (has_txn n) x r xs is found)) ∙ has in
      rw (is, own) (others has)
  at true false is has ih =
      let own : has_keyed k r ≡ false = ap (has_keyed k) (sym (found_here (has_txn n) x r xs is found)) ∙ has in
      rw (is, own, has) refl
  at false true is has ih =
      let not_own : has_keyed k r ≡ false = neither n r xs (found_behind (has_txn n) x xs (Some r) is found) (others has) in
      rw (is, not_own, has) refl
  at false false is has ih = rw (is, has) (ih (found_behind (has_txn n) x xs (Some r) is found))

pub dropped_slots : (n : ℕ) (r : Opened) (rows : List Opened) → find (has_txn n) rows ≡ Some r → slots_of (changed (has_txn n) (λ r. []) rows) + r.spare ≡ slots_of rows
dropped_slots n r rows found = omega (arith, changed_sum (λ (r : Opened). r.spare) (has_txn n) (λ r. []) r rows found)

pub dropped_kept : (n : ℕ) (r : Opened) (rows : List Opened) (keys keys' : Indexed) → find (has_txn n) rows ≡ Some r
    → ((k : ℕ) → list_any (is_at k) keys'.rows ≡ (not (has_keyed k r) && list_any (is_at k) keys.rows)) → keys'.spare ≡ keys.spare → IsKept rows keys → IsKept (changed (has_txn n) (λ r. []) rows) keys'
dropped_kept n r rows keys keys' found forgot nodes kept =
    let slots = dropped_slots n r rows found in (
      numbered_dropped (has_txn n) rows kept.0,
      (λ k. forgot k ∙ ap (λ b. not (has_keyed k r) && b) (kept.1 k) ∙ sym (any_dropped n k r rows kept.0 found)),
      omega (arith, slots, nodes, kept.2),
    )

-- ---- those of an entity less

any_elsewhere : (e k : ℕ) (rows : List Opened) → AreNumbered rows → list_any (has_keyed k) (filter (λ r. is_elsewhere e r.transaction) rows) ≡ (not (list_any (has_keyed_on e k) rows) && list_any (has_keyed k) rows)
any_elsewhere e k [] kept = refl
any_elsewhere e k (x ∷ xs) kept = at (x.transaction.entity == e) (has_keyed k x) refl refl (any_elsewhere e k xs (kept.0.1, kept.1.1)) where
  others : has_keyed k x ≡ true → list_any (has_keyed k) xs ≡ false
  others has = alone k x xs kept.0.0 kept.1.1 kept.1.0 has

  fewer : (xs : List Opened) → list_any (has_keyed k) xs ≡ false → list_any (has_keyed_on e k) xs ≡ false
  fewer [] none = refl
  fewer (y ∷ ys) none = by (has_keyed k y) refl (fewer ys) where
    none_of : (b : Bool) → (b && false) ≡ false
    none_of true = refl
    none_of false = refl

    by : (c : Bool) → has_keyed k y ≡ c → (list_any (has_keyed k) ys ≡ false → list_any (has_keyed_on e k) ys ≡ false) → list_any (has_keyed_on e k) (y ∷ ys) ≡ false
    by true has ih = let bad : true ≡ false = rw has at none in absurd cc
    by false has ih = let rest : list_any (has_keyed k) ys ≡ false = rw has at none in rw (has, none_of (y.transaction.entity == e)) (ih rest)

  at : (b c : Bool) → (x.transaction.entity == e) ≡ b → has_keyed k x ≡ c → list_any (has_keyed k) (filter (λ r. is_elsewhere e r.transaction) xs) ≡ (not (list_any (has_keyed_on e k) xs) && list_any (has_keyed k) xs)
      → list_any (has_keyed k) (filter (λ r. is_elsewhere e r.transaction) (x ∷ xs)) ≡ (not (list_any (has_keyed_on e k) (x ∷ xs)) && list_any (has_keyed k) (x ∷ xs))
  at true true is has ih = rw (is, has) (no_filter (has_keyed k) (λ r. is_elsewhere e r.transaction) xs (others has))
  at true false is has ih = rw (is, has) ih
  at false true is has ih = rw (is, has, fewer xs (others has)) refl
  at false false is has ih = rw (is, has) ih

pub elsewhere_slots : (e : ℕ) (rows : List Opened) → slots_of (filter (λ r. is_elsewhere e r.transaction) rows) + sum_by (slots_on e) rows ≡ slots_of rows
elsewhere_slots e [] = refl
elsewhere_slots e (x ∷ xs) = at (x.transaction.entity == e) refl (elsewhere_slots e xs) where
  kept : List Opened
  kept = filter (λ r. is_elsewhere e r.transaction) xs

  at : (b : Bool) → (x.transaction.entity == e) ≡ b → slots_of kept + sum_by (slots_on e) xs ≡ slots_of xs → slots_of (filter (λ r. is_elsewhere e r.transaction) (x ∷ xs)) + sum_by (slots_on e) (x ∷ xs) ≡ slots_of (x ∷ xs)
  at true is ih =
      let own : slots_on e x ≡ x.spare = rw is refl in
      let gone : filter (λ r. is_elsewhere e r.transaction) (x ∷ xs) ≡ kept = rw is refl in
      omega (arith, ih, own, ap slots_of gone, sum_by-cons (slots_on e) x xs, sum_by-cons (λ (r : Opened). r.spare) x xs)
  at false is ih =
      let own : slots_on e x ≡ 0 = rw is refl in
      let stays : filter (λ r. is_elsewhere e r.transaction) (x ∷ xs) ≡ x ∷ kept = rw is refl in
      omega (arith, ih, own, ap slots_of stays, sum_by-cons (slots_on e) x xs, sum_by-cons (λ (r : Opened). r.spare) x xs, sum_by-cons (λ (r : Opened). r.spare) x kept)

pub elsewhere_kept : (e : ℕ) (rows : List Opened) (keys keys' : Indexed) → ((k : ℕ) → list_any (is_at k) keys'.rows ≡ (not (list_any (has_keyed_on e k) rows) && list_any (is_at k) keys.rows)) → keys'.spare ≡ keys.spare
    → IsKept rows keys → IsKept (filter (λ r. is_elsewhere e r.transaction) rows) keys'
elsewhere_kept e rows keys keys' forgot nodes kept =
    let slots = elsewhere_slots e rows in (
      numbered_filter (λ r. is_elsewhere e r.transaction) rows kept.0,
      (λ k. forgot k ∙ ap (λ b. not (list_any (has_keyed_on e k) rows) && b) (kept.1 k) ∙ sym (any_elsewhere e k rows kept.0)),
      omega (arith, slots, nodes, kept.2),
    )

-- ---- as it is done at a place

-- what is said of the one that was found is so of the one that stands there
pub of_found : (P : Opened → Type 0) (r : Opened) (o : Option Opened) → o ≡ Some r → IfSome o P → P r
of_found P r o e h = subst (λ (o : Option Opened). IfSome o P) e h

pub node_there : (n i : ℕ) (rows : List Opened) (keys : Indexed) → Some i ≡ position (has_txn n) rows → IfSome (find (has_txn n) rows) (λ r. 1 ≤ r.spare) → IsKept rows keys → 1 ≤ keys.spare
node_there n i rows keys found room kept =
    let it = found_some (has_txn n) i rows found in
    let one : 1 ≤ it.0.spare = of_found (λ (r : Opened). 1 ≤ r.spare) it.0 (find (has_txn n) rows) it.1 room in
    omega (arith, one, found_least (λ (r : Opened). r.spare) (has_txn n) it.0 rows it.1, kept.2)

pub queued_at : (n i deadline : ℕ) (op : Operation) (rows new : List Opened) (keys keys' : Indexed) → Some i ≡ position (has_txn n) rows → IfSome (find (has_txn n) rows) (λ r. 1 ≤ r.spare)
    → ((k : ℕ) → list_any (is_at k) keys'.rows ≡ (is_keyed n k op || list_any (is_at k) keys.rows)) → keys.spare ≤ keys'.spare + 1 → IsKept rows keys → new ≡ changed (has_txn n) (λ r. with_queued deadline op r ∷ []) rows → IsKept new keys'
queued_at n i deadline op rows new keys keys' found room noted nodes kept is =
    let it = found_some (has_txn n) i rows found in
    let one : 1 ≤ it.0.spare = of_found (λ (r : Opened). 1 ≤ r.spare) it.0 (find (has_txn n) rows) it.1 room in
    subst (λ (l : List Opened). IsKept l keys') (sym is) (queued_kept n deadline op it.0 rows keys keys' it.1 one noted nodes kept)

pub queued_slots_at : (n i deadline : ℕ) (op : Operation) (rows new : List Opened) → Some i ≡ position (has_txn n) rows → IfSome (find (has_txn n) rows) (λ r. 1 ≤ r.spare) → new ≡ changed (has_txn n) (λ r. with_queued deadline op r ∷ []) rows → slots_of new + 1 ≡ slots_of rows
queued_slots_at n i deadline op rows new found room is =
    let it = found_some (has_txn n) i rows found in
    let one : 1 ≤ it.0.spare = of_found (λ (r : Opened). 1 ≤ r.spare) it.0 (find (has_txn n) rows) it.1 room in
    ap (λ (l : List Opened). slots_of l + 1) is ∙ queued_slots n deadline op it.0 rows it.1 one

pub seen_place : (n i : ℕ) (rows rows' : List Opened) → rows' ≡ rows → Some i ≡ position (has_txn n) rows' → Some i ≡ position (has_txn n) rows
seen_place n i rows rows' same found = subst (λ (l : List Opened). Some i ≡ position (has_txn n) l) same found

spare_seen : (n i had : ℕ) (rows rows' : List Opened) → rows' ≡ rows → Some i ≡ position (has_txn n) rows → IfSome (slice_get rows' i) (λ r. had ≡ r.spare) → (r : Opened) × (find (has_txn n) rows ≡ Some r) × (had ≡ r.spare)
spare_seen n i had rows rows' same found seen =
    let it = found_some (has_txn n) i rows found in
    (it.0, it.1, of_found (λ (r : Opened). had ≡ r.spare) it.0 (slice_get rows' i) (ap (λ (l : List Opened). slice_get l i) same ∙ it.2) seen)

-- the slots of one are no more than those of all
pub had_least : (n i had slots : ℕ) (rows rows' rows'' : List Opened) → rows' ≡ rows → rows'' ≡ rows → Some i ≡ position (has_txn n) rows' → IfSome (slice_get rows'' i) (λ r. had ≡ r.spare) → slots ≡ slots_of rows → had ≤ slots
had_least n i had slots rows rows' rows'' same same' found seen all =
    let it = spare_seen n i had rows rows'' same' (seen_place n i rows rows' same found) seen in
    omega (arith, it.2, all, found_least (λ (r : Opened). r.spare) (has_txn n) it.0 rows it.1)

pub reserved_slots : (n i count had wanted slots : ℕ) (rows rows' rows'' new : List Opened) → rows' ≡ rows → rows'' ≡ rows → Some i ≡ position (has_txn n) rows' → IfSome (slice_get rows'' i) (λ r. had ≡ r.spare) → slots ≡ slots_of rows
    → wanted + had ≡ slots + max had count → new ≡ changed (has_txn n) (λ r. with_room count r ∷ []) rows → wanted ≡ slots_of new
reserved_slots n i count had wanted slots rows rows' rows'' new same same' found seen all sum is =
    let it = spare_seen n i had rows rows'' same' (seen_place n i rows rows' same found) seen in
    omega (arith, roomy_slots n count it.0 rows it.1, it.2, all, sum, ap slots_of is, ap (λ h. max h count) it.2)

pub reserved_kept : (n count wanted : ℕ) (rows new : List Opened) (keys keys' : Indexed) → wanted ≡ slots_of new → keys'.rows ≡ keys.rows → keys'.spare ≡ max keys.spare wanted → new ≡ changed (has_txn n) (λ r. with_room count r ∷ []) rows → IsKept rows keys → IsKept new keys'
reserved_kept n count wanted rows new keys keys' all same room is kept =
    subst (λ (l : List Opened). IsKept l keys') (sym is) (roomy_kept n count rows keys keys' same (omega (arith, all, room, ap slots_of is)) kept)

pub taken_kept : (n : ℕ) (r : Opened) (rows new : List Opened) (keys keys' : Indexed) → Some r ≡ find (has_txn n) rows → ((k : ℕ) → list_any (is_at k) keys'.rows ≡ (not (has_keyed k r) && list_any (is_at k) keys.rows)) → keys'.spare ≡ keys.spare
    → new ≡ changed (has_txn n) (λ r. []) rows → IsKept rows keys → IsKept new keys'
taken_kept n r rows new keys keys' found forgot nodes is kept = subst (λ (l : List Opened). IsKept l keys') (sym is) (dropped_kept n r rows keys keys' (sym found) forgot nodes kept)

pub taken_slots : (n : ℕ) (r : Opened) (rows new : List Opened) → Some r ≡ find (has_txn n) rows → new ≡ changed (has_txn n) (λ r. []) rows → slots_of new + r.spare ≡ slots_of rows
taken_slots n r rows new found is = ap (λ (l : List Opened). slots_of l + r.spare) is ∙ dropped_slots n r rows (sym found)

pub slots_more : (e : ℕ) (x : Opened) (xs : List Opened) → sum_by (slots_on e) (x ∷ xs) ≡ slots_on e x + sum_by (slots_on e) xs
slots_more e x xs = sum_by-cons (slots_on e) x xs

pub slots_within : (e top : ℕ) (rows rows' : List Opened) → rows' ≡ rows → slots_of rows < top → sum_by (slots_on e) rows' < top
slots_within e top rows rows' same within = omega (arith, within, ap (λ (l : List Opened). sum_by (slots_on e) l) same, elsewhere_slots e rows)

pub removed_kept : (e : ℕ) (rows rows' new : List Opened) (keys keys' : Indexed) → rows' ≡ rows → ((k : ℕ) → list_any (is_at k) keys'.rows ≡ (not (list_any (has_keyed_on e k) rows') && list_any (is_at k) keys.rows)) → keys'.spare ≡ keys.spare
    → new ≡ filter (λ r. is_elsewhere e r.transaction) rows → IsKept rows keys → IsKept new keys'
removed_kept e rows rows' new keys keys' same forgot nodes is kept =
    subst (λ (l : List Opened). IsKept l keys') (sym is)
    (elsewhere_kept e rows keys keys' (λ k. forgot k ∙ ap (λ (l : List Opened). not (list_any (has_keyed_on e k) l) && list_any (is_at k) keys.rows) same) nodes kept)

pub removed_slots : (e slots : ℕ) (rows rows' new : List Opened) → rows' ≡ rows → slots ≡ sum_by (slots_on e) rows' → new ≡ filter (λ r. is_elsewhere e r.transaction) rows → slots_of new + slots ≡ slots_of rows
removed_slots e slots rows rows' new same all is = omega (arith, ap slots_of is, elsewhere_slots e rows, all, ap (λ (l : List Opened). sum_by (slots_on e) l) same)
