-- Copies under one lock: where locks don't fall, they stand side by side.
use Rattle.std.proofs.Common.{◌≡◌, ℕ, suc, ◌<◌, ◌≤◌, refl, sym, ap, ◌∙◌, Bool, true, false, ◌&&◌, ◌==◌, nat_lt, List, [], ◌∷◌, ◌++◌, length, get_or, drop, filter, map, arith, one-add}
use Rattle.std.proofs.lemmas.Bool.Decides.{nat_tests}
use Rattle.std.proofs.lemmas.List.Folds.{list_all-append}
use Rattle.std.specs.List.{flat_map, list_all, prefix_len}
use Rattle.std.specs.List.Sorted.{IsNonDecreasingBy, IsPermutation}
use Rattle.sb_machine.specs.Consistent.{locked_in}
use Rattle.sb_machine.specs.Each.{Each, has_lock}
use Rattle.sb_machine.specs.Namespace.{key_of, leaf_of}
use Rattle.sb_machine.specs.declared.call.Part.{Part}
use Rattle.sb_machine.specs.declared.call.Part.TheVariants.{Main, Dead, Transfer}
use Rattle.sb_machine.specs.declared.change.LeafKey.{LeafKey}
use Rattle.sb_machine.specs.declared.state.Entity.{Entity}
use Rattle.sb_machine.specs.declared.state.Space.{Space}
use Rattle.sb_machine.specs.declared.state.Standing.{Standing}
use Rattle.sb_machine.specs.declared.state.Standing.TheVariants.{Ready, Deferred, Held, Scheduled}
use Rattle.sb_machine.specs.declared.state.StoredCopy.{StoredCopy}
use Rattle.sb_judge.specs.Held.{held_as, held_in, held_of, is_own, is_own_front, is_place}
use Rattle.sb_judge.proofs.Distinct.{all_moved}
use Rattle.sb_judge.specs.Transactions.{own_verdict, place_verdict}
use Rattle.sb_judge.specs.declared.held.HeldCopy.{HeldCopy}

-- ---- the front of those of a lock and above it

rest_up : (x : HeldCopy) (xs : List HeldCopy) → IsNonDecreasingBy (λ h. h.lock) (x ∷ xs) → IsNonDecreasingBy (λ h. h.lock) xs
rest_up x xs up i j d le lt = up (suc i) (suc j) d (omega (arith, le)) (omega (arith, lt))

-- each is held under no lower a lock than the first
none_lower : (x : HeldCopy) (xs : List HeldCopy) → IsNonDecreasingBy (λ h. h.lock) (x ∷ xs) → Each (λ y. x.lock ≤ y.lock) xs
none_lower x xs up = from xs (λ k d lt. up 0 (suc k) d (omega arith) (omega (arith, lt))) where
  from : (ys : List HeldCopy) → ((k : ℕ) (d : HeldCopy) → k < length ys → x.lock ≤ (get_or ys k d).lock) → Each (λ y. x.lock ≤ y.lock) ys
  from [] at_k = tt
  from (y ∷ ys) at_k = (at_k 0 y (omega arith), from ys (λ k d lt. at_k (suc k) d (omega (arith, lt))))

-- above the lock none is asked of
all_above : (key : LeafKey) (number lock : ℕ) (x : HeldCopy) (xs : List HeldCopy) → lock < x.lock → Each (λ y. x.lock ≤ y.lock) xs → list_all (is_own key number lock) xs ≡ true
all_above key number lock x [] lt h = refl
all_above key number lock x (y ∷ ys) lt h =
    rw (off y.lock (omega (arith, lt, h.0))) (all_above key number lock x ys lt h.1) where
      off : (l : ℕ) → lock < l → (l == lock) ≡ false
      off l lt = grind (arith, nat_tests)

front : (key : LeafKey) (number lock : ℕ) (xs : List HeldCopy) → IsNonDecreasingBy (λ h. h.lock) xs → Each (λ y. lock ≤ y.lock) xs → is_own_front key number lock xs ≡ list_all (is_own key number lock) xs
front key number lock [] up h = refl
front key number lock (x ∷ xs) up h = at (x.lock == lock) refl (front key number lock xs (rest_up x xs up) h.1) where
  at : (b : Bool) → (x.lock == lock) ≡ b → is_own_front key number lock xs ≡ list_all (is_own key number lock) xs → is_own_front key number lock (x ∷ xs) ≡ list_all (is_own key number lock) (x ∷ xs)
  at true e ih = rw e (ap (λ t. is_place key number x && t) ih)
  at false e ih = rw e (sym (all_above key number lock x xs (apart x.lock e h.0) (none_lower x xs up))) where
    apart : (l : ℕ) → (l == lock) ≡ false → lock ≤ l → lock < l
    apart l e le = grind (arith, nat_tests)

each_least : (lock : ℕ) (x : HeldCopy) (ys : List HeldCopy) → lock ≤ x.lock → Each (λ y. x.lock ≤ y.lock) ys → Each (λ y. lock ≤ y.lock) ys
each_least lock x [] le h = tt
each_least lock x (y ∷ ys) le h = (omega (arith, le, h.0), each_least lock x ys le h.1)

lower_off : (l lock : ℕ) → nat_lt l lock ≡ true → (l == lock) ≡ false
lower_off l lock e = grind (arith, nat_tests)

no_lower : (l lock : ℕ) → nat_lt l lock ≡ false → lock ≤ l
no_lower l lock e = grind (arith, nat_tests)

reach : (key : LeafKey) (number lock : ℕ) (xs : List HeldCopy) → IsNonDecreasingBy (λ h. h.lock) xs → is_own_front key number lock (drop (prefix_len (λ h. nat_lt h.lock lock) xs) xs) ≡ list_all (is_own key number lock) xs
reach key number lock [] up = refl
reach key number lock (x ∷ xs) up = at (nat_lt x.lock lock) refl (reach key number lock xs (rest_up x xs up)) where
  at : (b : Bool) → nat_lt x.lock lock ≡ b → is_own_front key number lock (drop (prefix_len (λ h. nat_lt h.lock lock) xs) xs) ≡ list_all (is_own key number lock) xs → is_own_front key number lock (drop (prefix_len (λ h. nat_lt h.lock lock) (x ∷ xs)) (x ∷ xs)) ≡ list_all (is_own key number lock) (x ∷ xs)
  at true e ih = rw (e, one-add, lower_off x.lock lock e) ih
  at false e ih = rw e (front key number lock (x ∷ xs) up (no_lower x.lock lock e, each_least lock x xs (no_lower x.lock lock e) (none_lower x xs up)))

pub own_front : (key : LeafKey) (number lock : ℕ) (xs : List HeldCopy) (place : ℕ) → IsNonDecreasingBy (λ h. h.lock) xs → place ≡ prefix_len (λ h. nat_lt h.lock lock) xs → is_own_front key number lock (drop place xs) ≡ list_all (is_own key number lock) xs
own_front key number lock xs place up is = ap (λ n. is_own_front key number lock (drop n xs)) is ∙ reach key number lock xs up

-- ---- where a lock stands, by the held copies

on : (key k : LeafKey) (n number lock : ℕ) (standing : Standing) (more : List HeldCopy) → has_lock lock standing ≡ true → list_all (is_own key number lock) (held_as k n standing ++ more) ≡ ((place_verdict (k, n) (key, number)).0 && list_all (is_own key number lock) more)
unfolding place_verdict
on key k n number lock Ready more e = let bad : false ≡ true = e in absurd cc
on key k n number lock Deferred more e = let bad : false ≡ true = e in absurd cc
on key k n number lock (Scheduled at) more e = let bad : false ≡ true = e in absurd cc
on key k n number lock (Held l hold deferred) more e = rw e refl

off : (key k : LeafKey) (n number lock : ℕ) (standing : Standing) (more : List HeldCopy) → has_lock lock standing ≡ false → list_all (is_own key number lock) (held_as k n standing ++ more) ≡ list_all (is_own key number lock) more
off key k n number lock Ready more e = refl
off key k n number lock Deferred more e = refl
off key k n number lock (Scheduled at) more e = refl
off key k n number lock (Held l hold deferred) more e = rw e refl

abbrev names : LeafKey → ℕ → LeafKey × ℕ → Bool
names key number x = (place_verdict x (key, number)).0

in_copies : (key k : LeafKey) (number lock : ℕ) (cs : List StoredCopy) → list_all (names key number) (map (λ c. (k, c.number)) (filter (λ c. has_lock lock c.standing) cs)) ≡ list_all (is_own key number lock) (flat_map (λ c. held_as k c.number c.standing) cs)
in_copies key k number lock [] = refl
in_copies key k number lock (c ∷ cs) = at (has_lock lock c.standing) refl (in_copies key k number lock cs) where
  at : (b : Bool) → has_lock lock c.standing ≡ b → list_all (names key number) (map (λ c. (k, c.number)) (filter (λ c. has_lock lock c.standing) cs)) ≡ list_all (is_own key number lock) (flat_map (λ c. held_as k c.number c.standing) cs)
      → list_all (names key number) (map (λ c. (k, c.number)) (filter (λ c. has_lock lock c.standing) (c ∷ cs))) ≡ list_all (is_own key number lock) (flat_map (λ c. held_as k c.number c.standing) (c ∷ cs))
  at true e ih =
      rw e (ap (λ t. names key number (k, c.number) && t) ih ∙ sym (on key k c.number number lock c.standing (flat_map (λ c. held_as k c.number c.standing) cs) e))
  at false e ih = rw e (ih ∙ sym (off key k c.number number lock c.standing (flat_map (λ c. held_as k c.number c.standing) cs) e))

in_part : (key : LeafKey) (number lock : ℕ) (e : Entity) (part : Part) → list_all (names key number) (locked_in lock e part) ≡ list_all (is_own key number lock) (held_in e part)
in_part key number lock e part = in_copies key (key_of part e) number lock (leaf_of part e).copies

both : {X Y : Type 0} (p : X → Bool) (q : Y → Bool) (a b : List X) (c d : List Y) → list_all p a ≡ list_all q c → list_all p b ≡ list_all q d → list_all p (a ++ b) ≡ list_all q (c ++ d)
both p q a b c d one two = list_all-append p a b ∙ ap (λ t. t && list_all p b) one ∙ ap (λ t. list_all q c && t) two ∙ sym (list_all-append q c d)

in_entity : (key : LeafKey) (number lock : ℕ) (e : Entity) → list_all (names key number) (locked_in lock e Main ++ locked_in lock e Dead ++ locked_in lock e Transfer) ≡ list_all (is_own key number lock) (held_in e Main ++ held_in e Dead ++ held_in e Transfer)
in_entity key number lock e =
    both (names key number) (is_own key number lock) (locked_in lock e Main ++ locked_in lock e Dead) (locked_in lock e Transfer) (held_in e Main ++ held_in e Dead) (held_in e Transfer)
    (both (names key number) (is_own key number lock) (locked_in lock e Main) (locked_in lock e Dead) (held_in e Main) (held_in e Dead) (in_part key number lock e Main) (in_part key number lock e Dead))
    (in_part key number lock e Transfer)

in_entities : (key : LeafKey) (number lock : ℕ) (es : List Entity) → list_all (names key number) (flat_map (λ e. locked_in lock e Main ++ locked_in lock e Dead ++ locked_in lock e Transfer) es) ≡ list_all (is_own key number lock) (flat_map (λ e. held_in e Main ++ held_in e Dead ++ held_in e Transfer) es)
in_entities key number lock [] = refl
in_entities key number lock (e ∷ es) =
    both (names key number) (is_own key number lock) (locked_in lock e Main ++ locked_in lock e Dead ++ locked_in lock e Transfer) (flat_map (λ x. locked_in lock x Main ++ locked_in lock x Dead ++ locked_in lock x Transfer) es)
    (held_in e Main ++ held_in e Dead ++ held_in e Transfer) (flat_map (λ x. held_in x Main ++ held_in x Dead ++ held_in x Transfer) es) (in_entity key number lock e) (in_entities key number lock es)

-- in any order
pub own_of : (s : Space) (key : LeafKey) (number lock : ℕ) (held : List HeldCopy) → IsPermutation (held_of s) held → list_all (is_own key number lock) held ≡ (own_verdict s key number lock).0
unfolding own_verdict
own_of s key number lock held p = all_moved (is_own key number lock) (held_of s) held p ∙ sym (in_entities key number lock s.entities)
