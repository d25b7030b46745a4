-- What an index by number finds in a slab.
use Rattle.std.proofs.Common.{◌≡◌, ℕ, ◌≤◌, List, [], ◌∷◌, length, map, find, nat_le, Bool, true, Option, Some, None, refl, sym, ap, ◌∙◌, arith}
use Rattle.std.specs.Prelude.{option_and_then, option_map}
use Rattle.std.proofs.lemmas.Bool.Decides.{nat_tests}
use Rattle.slab.specs.Slab.{Slab, get}
use Rattle.sb_index.specs.Rows.{AreRising, Lacks, due_values, is_at, is_from, is_marked_within, least_due}
use Rattle.sb_index.specs.declared.row.Row.{Row}
use Rattle.sb_machine.specs.Leaves.{has_number}
use Rattle.sb_machine.specs.Receiving.{is_ready_for}
use Rattle.sb_machine.specs.declared.state.StoredCopy.{StoredCopy}
use Rattle.sb_copies.specs.Dues.{due_by, due_of, least_of, never}
use Rattle.sb_copies.specs.Shelf.{AreBelow, AreInOrder, Leads, Mirrors, copies_in, held_in, rows_in, unkeyed}
use Rattle.sb_copies.proofs.Leading.{due_led, find_so, key_as, least_so, pairs_find, pairs_lack, pairs_long, pairs_of, pairs_order, rising_so, row_leads}
use Rattle.sb_copies.proofs.Mirror.{marked_found, marked_none}
use Rattle.sb_copies.proofs.WhenDue.{at_most, least_some, least_none}

-- ---- rows that mirror copies lead to them

keys_so : (rows : List Row) → map (λ r. r.key) (map unkeyed rows) ≡ map (λ r. r.key) rows
keys_so [] = refl
keys_so (r ∷ rs) = ap (λ (l : List ℕ). r.key ∷ l) (keys_so rs)

keys_in : (e : Bool) (cs : List StoredCopy) → map (λ r. r.key) (rows_in e cs) ≡ map (λ c. c.number) cs
keys_in e [] = refl
keys_in e (c ∷ cs) = ap (λ (l : List ℕ). c.number ∷ l) (keys_in e cs)

pub leads : (e : Bool) (slots : Slab StoredCopy) (rows : List Row) → Mirrors e slots rows → Leads slots rows
leads e slots rows is = sym (keys_so rows) ∙ ap (λ (l : List Row). map (λ r. r.key) l) is ∙ keys_in e (copies_in slots rows)

pub ordered : (slots : Slab StoredCopy) (rows : List Row) → Leads slots rows → AreRising rows → AreInOrder (copies_in slots rows)
ordered slots rows is s = pairs_order (get slots) rows (copies_in slots rows) (pairs_of (get slots) rows is) s

pub order_mirrored : (e : Bool) (slots : Slab StoredCopy) (rows : List Row) → Mirrors e slots rows → AreRising rows → AreInOrder (copies_in slots rows)
order_mirrored e slots rows is s = ordered slots rows (leads e slots rows is) s

pub size_is : (e : Bool) (slots : Slab StoredCopy) (rows : List Row) → Mirrors e slots rows → length rows ≡ length (copies_in slots rows)
size_is e slots rows is = pairs_long (get slots) rows (copies_in slots rows) (pairs_of (get slots) rows (leads e slots rows is))

pub size_led : (slots : Slab StoredCopy) (rows : List Row) → Leads slots rows → length rows ≡ length (copies_in slots rows)
size_led slots rows is = pairs_long (get slots) rows (copies_in slots rows) (pairs_of (get slots) rows is)

-- ---- by number

find_led : (slots : Slab StoredCopy) (rows : List Row) (p : Row → Bool) (q : StoredCopy → Bool) → Leads slots rows → ((r : Row) (c : StoredCopy) → r.key ≡ c.number → p r ≡ q c) → option_and_then (λ r. get slots r.value) (find p rows) ≡ find q (copies_in slots rows)
find_led slots rows p q is same = pairs_find (get slots) p q same rows (copies_in slots rows) (pairs_of (get slots) rows is)

pub numbered_is : (slots : Slab StoredCopy) (n : ℕ) (rows : List Row) → Leads slots rows → option_and_then (λ r. get slots r.value) (find (is_at n) rows) ≡ find (has_number n) (copies_in slots rows)
numbered_is slots n rows is = find_led slots rows (is_at n) (has_number n) is (key_as n)

pub numbered_there : (slots : Slab StoredCopy) (n : ℕ) (row : Row) (rows : List Row) (o : Option StoredCopy) → Leads slots rows → Some row ≡ find (is_at n) rows → o ≡ get slots row.value → o ≡ find (has_number n) (copies_in slots rows)
numbered_there slots n row rows o is found got = got ∙ ap (λ (x : Option Row). option_and_then (λ r. get slots r.value) x) found ∙ numbered_is slots n rows is

pub numbered_none : (slots : Slab StoredCopy) (n : ℕ) (rows : List Row) → Leads slots rows → None ≡ find (is_at n) rows → None ≡ find (has_number n) (copies_in slots rows)
numbered_none slots n rows is found = ap (λ (x : Option Row). option_and_then (λ r. get slots r.value) x) found ∙ numbered_is slots n rows is

from_is : (slots : Slab StoredCopy) (n : ℕ) (rows : List Row) → Leads slots rows → option_and_then (λ r. get slots r.value) (find (is_from n) rows) ≡ find (λ c. nat_le n c.number) (copies_in slots rows)
from_is slots n rows is = find_led slots rows (is_from n) (λ c. nat_le n c.number) is (λ r c same. ap (λ k. nat_le n k) same)

pub from_there : (slots : Slab StoredCopy) (n : ℕ) (row : Row) (rows : List Row) (o : Option StoredCopy) → Leads slots rows → Some row ≡ find (is_from n) rows → o ≡ get slots row.value → o ≡ find (λ c. nat_le n c.number) (copies_in slots rows)
from_there slots n row rows o is found got = got ∙ ap (λ (x : Option Row). option_and_then (λ r. get slots r.value) x) found ∙ from_is slots n rows is

pub from_none : (slots : Slab StoredCopy) (n : ℕ) (rows : List Row) → Leads slots rows → None ≡ find (is_from n) rows → None ≡ find (λ c. nat_le n c.number) (copies_in slots rows)
from_none slots n rows is found = ap (λ (x : Option Row). option_and_then (λ r. get slots r.value) x) found ∙ from_is slots n rows is

pub number_lacks : (e : Bool) (slots : Slab StoredCopy) (n : ℕ) (rows : List Row) → Mirrors e slots rows → AreBelow n (copies_in slots rows) → Lacks n rows
number_lacks e slots n rows is b = pairs_lack (get slots) n rows (copies_in slots rows) (pairs_of (get slots) rows (leads e slots rows is)) b

-- ---- by mark

pub marked_there : (e : Bool) (slots : Slab StoredCopy) (m : ℕ) (row : Row) (rows : List Row) (o : Option StoredCopy) → Mirrors e slots rows → AreRising rows → AreBelow m (copies_in slots rows) → Some row ≡ find (is_marked_within 0 m) rows → o ≡ get slots row.value → o ≡ find (is_ready_for None) (copies_in slots rows)
marked_there e slots m row rows o is s b found got =
    got
    ∙ row_leads (get slots) (is_marked_within 0 m) row rows (copies_in slots rows) (pairs_of (get slots) rows (leads e slots rows is)) s (sym found)
    ∙ marked_found e m (unkeyed row) (map unkeyed rows) (copies_in slots rows) is (rising_so rows s) b (ap (λ (x : Option Row). option_map unkeyed x) found ∙ sym (find_so (is_marked_within 0 m) (λ x. refl) rows))

pub marked_nowhere : (e : Bool) (slots : Slab StoredCopy) (m : ℕ) (rows : List Row) → Mirrors e slots rows → AreBelow m (copies_in slots rows) → None ≡ find (is_marked_within 0 m) rows → None ≡ find (is_ready_for None) (copies_in slots rows)
marked_nowhere e slots m rows is b found = marked_none e m (map unkeyed rows) (copies_in slots rows) is b (ap (λ (x : Option Row). option_map unkeyed x) found ∙ sym (find_so (is_marked_within 0 m) (λ x. refl) rows))

-- ---- by moment

pub due_found : (e : Bool) (slots : Slab StoredCopy) (m : ℕ) (rows : List Row) (keys : List ℕ) (found : List StoredCopy) → Mirrors e slots rows → keys ≡ due_values m rows → found ≡ held_in slots keys → found ≡ due_by e m (copies_in slots rows)
due_found e slots m rows keys found is numbers there =
    there
    ∙ ap (λ (l : List ℕ). held_in slots l) numbers
    ∙ due_led e (get slots) m rows (copies_in slots rows) (pairs_of (get slots) rows (leads e slots rows is)) is

pub soonest_some : (e : Bool) (slots : Slab StoredCopy) (d : ℕ) (rows : List Row) → Mirrors e slots rows → Some d ≡ least_due rows → d ≡ least_of e (copies_in slots rows)
soonest_some e slots d rows is least = least_some e d (map unkeyed rows) (copies_in slots rows) is (least ∙ sym (least_so rows))

pub soonest_none : (e : Bool) (slots : Slab StoredCopy) (rows : List Row) → Mirrors e slots rows → None ≡ least_due rows → never ≡ least_of e (copies_in slots rows)
soonest_none e slots rows is least = least_none e (map unkeyed rows) (copies_in slots rows) is (least ∙ sym (least_so rows))

at_last : (d : ℕ) → d ≤ never → nat_le d never ≡ true
at_last d p = grind (arith, nat_tests)

-- each has come due by the last moment
pub all_due : (e : Bool) (cs : List StoredCopy) → due_by e never cs ≡ cs
all_due e [] = refl
all_due e (c ∷ cs) = rw (at_last (due_of e c) (at_most _)) (ap (λ (l : List StoredCopy). c ∷ l) (all_due e cs))

pub all_found : (e : Bool) (cs found : List StoredCopy) → found ≡ due_by e never cs → found ≡ cs
all_found e cs found there = there ∙ all_due e cs
