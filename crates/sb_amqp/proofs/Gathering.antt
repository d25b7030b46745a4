-- A map by names beside the properties that it stands for: an entry that is put in is a property that is set.
use Rattle.std.proofs.Common.{◌≡◌, ℕ, List, [], ◌∷◌, Some, String, Global, Ordering, Less, Equal, Greater, string_bytes, string_cmp, nat_cmp, is_eq, is_lt, true, false, bytes_eq, map, refl, sym, ap, subst, one-add, ◌∙◌}
use Rattle.std.proofs.lemmas.Cmp.{nat_list_cmp_total}
use Rattle.std.proofs.lemmas.Map.Text.{is_eq-slice_cmp}
use Rattle.std.proofs.lemmas.Slice.Eq.{bytes_eq-Decides}
use Rattle.std.specs.Cmp.Lexicographic.{slice_cmp}
use Rattle.std.specs.List.{AllByRecursion, prefix_len}
use Rattle.std.specs.List.Sorted.{IsStrictlySortedBy}
use Rattle.std.specs.Map.{keys_of}
use Rattle.std.specs.Ordering.{match_ordering, ordering_reverse}
use Rattle.std.specs.BTreeMap.{insert_entry}
use Rattle.sb_model.specs.Effects.{without_user, with_user}
use Rattle.sb_model.specs.declared.message.Property.{Property}
use Rattle.sb_model.specs.declared.message.PropertyValue.{PropertyValue}
use Rattle.sb_amqp.specs.Gathering.{property_at}

abbrev Entry : Type 0
Entry = String Global × PropertyValue

-- the order, seen from the other side
turned : (a b : List ℕ) (o : Ordering) → slice_cmp nat_cmp a b ≡ o → slice_cmp nat_cmp b a ≡ ordering_reverse o
turned a b o e = nat_list_cmp_total.antisymm b a ∙ ap ordering_reverse e

is_other : (a b : List ℕ) (o : Ordering) → slice_cmp nat_cmp a b ≡ o → is_eq o ≡ false → bytes_eq b a ≡ false
is_other a b Less e h = sym (is_eq-slice_cmp b a) ∙ ap is_eq (turned a b Less e)
is_other a b Equal e h = absurd cc
is_other a b Greater e h = sym (is_eq-slice_cmp b a) ∙ ap is_eq (turned a b Greater e)

-- entries above a name: none has it, and none comes before it
kept_above : (name : List ℕ) (es : List Entry) → AllByRecursion (λ k. slice_cmp nat_cmp name (string_bytes k) ≡ Less) (keys_of es) → without_user name (map property_at es) ≡ map property_at es
kept_above name [] above = refl
kept_above name (e ∷ es) above = rw (is_other name (string_bytes e.0) Less above.0 refl) (ap (λ ps. property_at e ∷ ps) (kept_above name es above.1))

none_before : (name : List ℕ) (es : List Entry) → AllByRecursion (λ k. slice_cmp nat_cmp name (string_bytes k) ≡ Less) (keys_of es) → prefix_len (λ q. is_lt (slice_cmp nat_cmp q.name name)) (map property_at es) ≡ 0
none_before name [] above = refl
none_before name (e ∷ es) above = rw (turned name (string_bytes e.0) Less above.0) refl

set_above : (name : List ℕ) (v : PropertyValue) (es : List Entry) → AllByRecursion (λ k. slice_cmp nat_cmp name (string_bytes k) ≡ Less) (keys_of es) → with_user name (Some v) (map property_at es) ≡ record { name = name; value = v } ∷ map property_at es
set_above name v es above = rw (kept_above name es above, none_before name es above) refl

all_above : (name other : List ℕ) (ks : List (String Global)) → slice_cmp nat_cmp name other ≡ Less → AllByRecursion (λ k. slice_cmp nat_cmp other (string_bytes k) ≡ Less) ks → AllByRecursion (λ k. slice_cmp nat_cmp name (string_bytes k) ≡ Less) ks
all_above name other [] less above = tt
all_above name other (k ∷ ks) less above = (nat_list_cmp_total.trans name other (string_bytes k) less above.0, all_above name other ks less above.1)

bytes_eq-refl : (bs : List ℕ) → bytes_eq bs bs ≡ true
bytes_eq-refl bs = (bytes_eq-Decides bs bs).1 refl

same_bytes : (a b : List ℕ) → slice_cmp nat_cmp a b ≡ Equal → a ≡ b
same_bytes a b e = (bytes_eq-Decides a b).0 (sym (is_eq-slice_cmp a b) ∙ ap is_eq e)

-- an entry put in, by how its name stands to the first one's
put_equal : (name : List ℕ) (v : PropertyValue) (e : Entry) (es : List Entry) → string_bytes e.0 ≡ name → AllByRecursion (λ k. slice_cmp nat_cmp (string_bytes e.0) (string_bytes k) ≡ Less) (keys_of es) → property_at (e.0, v) ∷ map property_at es ≡ with_user name (Some v) (property_at e ∷ map property_at es)
put_equal name v e es same above =
    let above_name : AllByRecursion (λ k. slice_cmp nat_cmp name (string_bytes k) ≡ Less) (keys_of es) = subst (λ n. AllByRecursion (λ k. slice_cmp nat_cmp n (string_bytes k) ≡ Less) (keys_of es)) same above in
    let here : bytes_eq (string_bytes e.0) name ≡ true = rw same (bytes_eq-refl name) in
    let rest : with_user name (Some v) (map property_at es) ≡ record { name = name; value = v } ∷ map property_at es = set_above name v es above_name in
    rw here (ap (λ n. (record { name = n; value = v }) ∷ map property_at es) same ∙ sym rest)

put_later : (name : List ℕ) (v : PropertyValue) (p : Property) (props : List Property) → bytes_eq p.name name ≡ false → is_lt (slice_cmp nat_cmp p.name name) ≡ true → p ∷ with_user name (Some v) props ≡ with_user name (Some v) (p ∷ props)
put_later name v p props other before = rw (other, before, one-add) refl

put_at : (o : Ordering) (k : String Global) (v : PropertyValue) (e : Entry) (es : List Entry) → slice_cmp nat_cmp (string_bytes k) (string_bytes e.0) ≡ o → AllByRecursion (λ y. slice_cmp nat_cmp (string_bytes e.0) (string_bytes y) ≡ Less) (keys_of es)
    → map property_at (insert_entry string_cmp es k v) ≡ with_user (string_bytes k) (Some v) (map property_at es)
    → map property_at (match_ordering o ((k, v) ∷ e ∷ es) ((e.0, v) ∷ es) (e ∷ insert_entry string_cmp es k v)) ≡ with_user (string_bytes k) (Some v) (property_at e ∷ map property_at es)
put_at Less k v e es is above ih = sym (set_above (string_bytes k) v (e ∷ es) (is, all_above (string_bytes k) (string_bytes e.0) (keys_of es) is above))
put_at Equal k v e es is above ih = put_equal (string_bytes k) v e es (sym (same_bytes (string_bytes k) (string_bytes e.0) is)) above
put_at Greater k v e es is above ih = ap (λ ps. property_at e ∷ ps) ih ∙ put_later (string_bytes k) v (property_at e) (map property_at es) (is_other (string_bytes k) (string_bytes e.0) Greater is refl) (ap is_lt (turned (string_bytes k) (string_bytes e.0) Greater is))

pub entry_put : (es : List Entry) (k : String Global) (v : PropertyValue) → IsStrictlySortedBy string_cmp (keys_of es) → map property_at (insert_entry string_cmp es k v) ≡ with_user (string_bytes k) (Some v) (map property_at es)
unfolding IsStrictlySortedBy
entry_put [] k v sorted = refl
entry_put (e ∷ es) k v sorted = put_at (slice_cmp nat_cmp (string_bytes k) (string_bytes e.0)) k v e es refl sorted.0 (entry_put es k v sorted.1)
