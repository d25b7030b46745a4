-- Application properties that are written are read back.
use Rattle.std.proofs.Common.{◌≡◌, ℕ, suc, ◌+◌, ◌*◌, ◌%◌, ◌<◌, ◌≤◌, ◌^◌, Bool, true, false, List, [], ◌∷◌, ◌++◌, length, drop, Option, Some, Result, Ok, refl, sym, ap, subst, ◌∙◌, append_assoc, take_all, arith}
use Rattle.std.specs.Prelude.{◌==◌, ◌&&◌, bytes_eq, option_and_then, option_map}
use Rattle.std.specs.Str.{is_utf8}
use Rattle.std.specs.Int.{w64, cast_unsigned, cast_signed}
use Rattle.std.specs.List.{flat_map, insert, list_all, prefix_len, sum_by}
use Rattle.std.specs.Ordering.{is_lt, is_eq, nat_cmp}
use Rattle.std.specs.declared.cmp.Ordering.{Ordering}
use Rattle.std.specs.declared.cmp.Ordering.TheVariants.{Less, Equal, Greater}
use Rattle.std.specs.Cmp.Lexicographic.{slice_cmp}
use Rattle.std.proofs.Math.Facts.{Fits-of_z, Fits-lt-pow}
use Rattle.std.proofs.lemmas.Bool.{eq-eqb, eqb-true}
use Rattle.std.proofs.lemmas.Int.{to_z-of_z}
use Rattle.std.proofs.lemmas.List.Sums.{sum_by-cons}
use Rattle.std.proofs.lemmas.List.{append-nil, drop_all, length-append}
use Rattle.std.proofs.lemmas.Map.Text.{is_eq-slice_cmp}
use Rattle.std.proofs.lemmas.Nat.{from_be_bytes-to_be_bytes_8}
use Rattle.sb_model.specs.Effects.{with_user, with_one_more, without_user, property_size, value_size}
use Rattle.sb_model.specs.Orders.{AreRising, name_before}
use Rattle.sb_model.specs.declared.message.Message.{Message}
use Rattle.sb_model.specs.declared.message.Property.{Property}
use Rattle.sb_model.specs.declared.message.PropertyValue.{PropertyValue}
use Rattle.sb_model.specs.declared.message.PropertyValue.TheVariants.{Int, Text, Bool as Truth}
use Rattle.sb_amqp.specs.Laws.{HasRange, IsFolded, AreFolded}
use Rattle.sb_amqp.specs.Meaning.{items_say, entry_named, entry_of, is_null, plain_text, property_from, signed_in, with_item, with_property}
use Rattle.sb_amqp.specs.Values.{AreValues, IsValue, joined, max_nesting, kind_of, content_of, extent_of}
use Rattle.sb_amqp.specs.Written.{string, property_value, entry}

-- ---- one behind all

insert_last : {X : Type 0} (xs : List X) (n : ℕ) (x : X) → n ≡ length xs → insert xs n x ≡ xs ++ x ∷ []
insert_last {X} xs n x e = ap (λ (front : List X). front ++ x ∷ drop n xs) (take_all n xs (omega (arith, e))) ∙ ap (λ (rest : List X). xs ++ x ∷ rest) (drop_all n xs (omega (arith, e)))

both : (a b : Bool) → (a && b) ≡ true → (a ≡ true) × (b ≡ true)
both true b e = (refl, e)
both false b e = absurd cc

all_before : {X : Type 0} (p : X → Bool) (xs : List X) → list_all p xs ≡ true → prefix_len p xs ≡ length xs
all_before p [] all = refl
all_before p (x ∷ xs) all =
    let b = both (p x) (list_all p xs) all in
    let others = all_before p xs b.1 in
    rw b.0 (omega (arith, others))

less_not_same : (o : Ordering) → is_lt o ≡ true → is_eq o ≡ false
less_not_same Less e = refl
less_not_same Equal e = absurd cc
less_not_same Greater e = absurd cc

other : (q p : Property) → name_before q p ≡ true → bytes_eq q.name p.name ≡ false
other q p e = sym (is_eq-slice_cmp q.name p.name) ∙ less_not_same (slice_cmp nat_cmp q.name p.name) e

none_taken : (front : List Property) (p : Property) → list_all (λ q. name_before q p) front ≡ true → without_user p.name front ≡ front
none_taken [] p all = refl
none_taken (q ∷ front) p all =
    let b = both (name_before q p) (list_all (λ r. name_before r p) front) all in
    rw (other q p b.0, none_taken front p b.1) refl

pub set_last : (front : List Property) (p : Property) → list_all (λ q. name_before q p) front ≡ true → with_user p.name (Some p.value) front ≡ front ++ p ∷ []
set_last front p all = ap (λ (others : List Property). with_one_more p others) (none_taken front p all) ∙ insert_last front (prefix_len (λ q. name_before q p) front) p (all_before (λ q. name_before q p) front all)

among : (t : Property → Bool) (front : List Property) (p : Property) (back : List Property) → list_all t (front ++ p ∷ back) ≡ true → t p ≡ true
among t [] p back all = (both (t p) (list_all t back) all).0
among t (q ∷ front) p back all = among t front p back (both (t q) (list_all t (front ++ p ∷ back)) all).1

pub each_before : (front : List Property) (p : Property) (back : List Property) → AreRising name_before (front ++ p ∷ back) → list_all (λ q. name_before q p) front ≡ true
each_before [] p back rising = refl
each_before (q ∷ front) p back rising = rw (among (name_before q) front p back rising.0) (each_before front p back rising.1)

-- ---- values

abbrev value_found : PropertyValue → Option PropertyValue
value_found v = Some v

value_back : (v : PropertyValue) → HasRange v → property_from (kind_of (property_value v)) (content_of (property_value v)) ≡ value_found v
unfolding kind_of content_of extent_of signed_in
value_back (Int z) fits = ap (λ n. value_found (Int (cast_signed w64 n))) (from_be_bytes-to_be_bytes_8 (cast_unsigned w64 z) (Fits-lt-pow {w = w64} {n = cast_unsigned w64 z} (Fits-of_z {w = w64} {z = z} fits))) ∙ ap (λ n. value_found (Int n)) (to_z-of_z w64 z fits)
value_back (Text text) fits = rw fits refl
value_back (Truth true) fits = refl
value_back (Truth false) fits = refl

not_null : (v : PropertyValue) → is_null (kind_of (property_value v)) ≡ false
unfolding kind_of
not_null (Int z) = refl
not_null (Text text) = refl
not_null (Truth true) = refl
not_null (Truth false) = refl

abbrev message_found : Message → Option Message
message_found m = Some m

key_item : (index : ℕ) (before name : List ℕ) (m : Message) → (index % 2 == 0) ≡ true → is_utf8 name ≡ true → with_item 116 index before (string name) m ≡ message_found m
unfolding with_item kind_of content_of extent_of
key_item index before name m even text = rw (even, text) refl

name_taken : (name : List ℕ) (f : List ℕ → Option Message) → is_utf8 name ≡ true → option_and_then f (plain_text (kind_of (string name)) (content_of (string name))) ≡ f name
unfolding kind_of content_of extent_of
name_taken name f text = rw text refl

entry_back : (p : Property) (m : Message) → IsFolded p → entry_of (string p.name) (property_value p.value) m ≡ message_found (with_property p.name p.value m)
entry_back p m is =
    rw (not_null p.value) (name_taken p.name (λ name. entry_named name (property_value p.value) m) is.text ∙ ap (option_map (λ v. with_property p.name v m)) (value_back p.value is.value))

value_item : (index : ℕ) (p : Property) (m : Message) → (index % 2 == 0) ≡ false → IsFolded p → with_item 116 index (string p.name) (property_value p.value) m ≡ message_found (with_property p.name p.value m)
unfolding with_item
value_item index p m odd is = rw odd (entry_back p m is)

odd_behind : (index : ℕ) → index % 2 ≡ 0 → (suc index % 2 == 0) ≡ false
odd_behind index even = by_test (suc index % 2 == 0) refl where
  by_test : (b : Bool) → (suc index % 2 == 0) ≡ b → b ≡ false
  by_test true e = (let is = eqb-true (suc index % 2) 0 e in absurd (omega (arith, even, is)))
  by_test false e = refl

pair_says : (index : ℕ) (before : List ℕ) (m : Message) (p : Property) (rest : List (List ℕ)) (behind : ℕ) → index % 2 ≡ 0 → IsFolded p
    → items_say 116 index before m (string p.name ∷ property_value p.value ∷ rest) behind ≡ items_say 116 (suc (suc index)) (property_value p.value) (with_property p.name p.value m) rest behind
pair_says index before m p rest behind even is =
    rw (key_item index before p.name m (eq-eqb (index % 2) 0 even) is.text, value_item (suc index) p m (odd_behind index even) is) refl

abbrev said_ok : Message → Result Message ℕ
said_ok m = Ok m

pub props_say : (front ps : List Property) (index : ℕ) (before : List ℕ) (m : Message) (behind : ℕ) → index % 2 ≡ 0 → m.props ≡ front → AreRising name_before (front ++ ps) → AreFolded ps
    → items_say 116 index before m (flat_map entry ps) behind ≡ said_ok (record m { props = front ++ ps })
props_say front [] index before m behind even is rising folded = ap (λ (ps : List Property). said_ok (record m { props = ps })) (is ∙ sym (append-nil front))
props_say front (p ∷ ps) index before m behind even is rising folded =
    let next : Message = with_property p.name p.value m in
    let added : next.props ≡ front ++ p ∷ [] = rw folded.0.folded (ap (λ (xs : List Property). with_user p.name (Some p.value) xs) is ∙ set_last front p (each_before front p ps rising)) in
    let regrouped : front ++ p ∷ ps ≡ (front ++ p ∷ []) ++ ps = sym (append_assoc front (p ∷ []) ps) in
    pair_says index before m p (flat_map entry ps) behind even folded.0
    ∙ props_say (front ++ p ∷ []) ps (suc (suc index)) (property_value p.value) next behind (omega (arith, even)) added (subst (AreRising name_before) regrouped rising) folded.1
    ∙ ap (λ (xs : List Property). said_ok (record m { props = xs })) (sym regrouped)

-- ---- sizes

-- ---- sizes

pub record Entries (ps : List Property) : Type 0 where
  pub are : AreValues (flat_map entry ps)
  pub count : length (flat_map entry ps) ≡ length ps + length ps
  pub len : length (joined (flat_map entry ps)) ≤ sum_by property_size ps + 10 * length ps

record Fit (most : ℕ) (value : List ℕ) : Type 0 where
  pub is : IsValue max_nesting value
  pub len : length value ≤ most

string_fit : (text : List ℕ) → length text < 2 ^ 31 → Fit (5 + length text) (string text)
unfolding extent_of
string_fit text lt = record { is = (text, omega (arith, lt), refl); len = omega arith }

value_fit : (v : PropertyValue) → value_size v < 2 ^ 31 → Fit (5 + value_size v) (property_value v)
unfolding extent_of
value_fit (Int z) lt = record { is = refl; len = omega arith }
value_fit (Text text) lt = string_fit text lt
value_fit (Truth true) lt = record { is = refl; len = omega arith }
value_fit (Truth false) lt = record { is = refl; len = omega arith }

pub entries_fit : (ps : List Property) → sum_by property_size ps < 2 ^ 31 → Entries ps
entries_fit [] lt = record { are = tt; count = refl; len = omega arith }
entries_fit (p ∷ ps) less =
    let all : sum_by property_size (p ∷ ps) ≡ (length p.name + value_size p.value) + sum_by property_size ps = sum_by-cons property_size p ps in
    let lt : (length p.name + value_size p.value) + sum_by property_size ps < 2 ^ 31 = omega (arith, less, all) in
    let name = string_fit p.name (omega (arith, lt)) in
    let value = value_fit p.value (omega (arith, lt)) in
    let others = entries_fit ps (omega (arith, lt)) in
    record {
      are = (name.is, (value.is, others.are));
      count = omega (arith, others.count);
      len = omega (arith, all, name.len, value.len, others.len, length-append (string p.name) (property_value p.value ++ joined (flat_map entry ps)), length-append (property_value p.value) (joined (flat_map entry ps)));
    }
