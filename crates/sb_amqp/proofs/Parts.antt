-- The sections that are written, each with what it adds when it is read.
use Rattle.std.proofs.Common.{◌≡◌, ℕ, ◌+◌, ◌*◌, ◌<◌, ◌≤◌, ◌^◌, true, List, [], ◌∷◌, ◌++◌, length, Some, Result, Ok, refl, sym, ap, arith}
use Rattle.std.specs.Prelude.{nat_lt}
use Rattle.std.specs.Int.{w32, to_be_bytes}
use Rattle.std.proofs.lemmas.Bool.{lt-ltb}
use Rattle.std.proofs.lemmas.List.{length-append}
use Rattle.std.proofs.lemmas.Nat.{from_be_bytes-to_be_bytes_4, from_be_bytes-to_be_bytes_8}
use Rattle.sb_model.specs.declared.message.Message.{Message}
use Rattle.sb_amqp.specs.Fields.{schedule_key}
use Rattle.sb_amqp.specs.Meaning.{items_say, section_says, with_item, unsigned_in, seconds}
use Rattle.sb_amqp.specs.Sections.{Section, IsSection, HasItems}
use Rattle.sb_amqp.specs.Values.{joined, IsValue, AreValues, max_nesting, extent_of, extent_at, kind_of, content_of}
use Rattle.sb_amqp.specs.Written.{null, uint, timestamp, symbol, binary, list, map_of}
use Rattle.sb_amqp.proofs.Tails.{Makes}

-- ---- lists and maps

compound_len : (count : ℕ) (items : List ℕ) → length (to_be_bytes w32 count ++ items) ≡ 4 + length items
compound_len count items = length-append (to_be_bytes w32 count) items

pub list_is : (count : ℕ) (items : List ℕ) → 4 + length items < 2 ^ 32 → IsValue max_nesting (list count items)
unfolding extent_of
list_is count items lt = (to_be_bytes w32 count ++ items, omega (arith, lt, compound_len count items), ap (λ n. to_be_bytes w32 n ++ (to_be_bytes w32 count ++ items)) (sym (compound_len count items)))

pub map_is : (count : ℕ) (items : List ℕ) → 4 + length items < 2 ^ 32 → IsValue max_nesting (map_of count items)
unfolding extent_of
map_is count items lt = (to_be_bytes w32 count ++ items, omega (arith, lt, compound_len count items), ap (λ n. to_be_bytes w32 n ++ (to_be_bytes w32 count ++ items)) (sym (compound_len count items)))

pub list_has : (items : List (List ℕ)) → AreValues items → length items < 2 ^ 32 → HasItems (list (length items) (joined items)) items
unfolding extent_of extent_at content_of
list_has items are lt = record { content = refl; each = are; count = lt }

pub map_has : (items : List (List ℕ)) → AreValues items → length items < 2 ^ 32 → HasItems (map_of (length items) (joined items)) items
unfolding extent_of extent_at content_of
map_has items are lt = record { content = refl; each = are; count = lt }

abbrev said_ok : Message → Result Message ℕ
said_ok m = Ok m

-- ---- the body

abbrev pub data_part : List ℕ → Section
data_part body = record { code = 117; is_small = true; value = binary body; items = [] }

data_is : (body : List ℕ) → length body < 2 ^ 32 → IsSection (data_part body)
unfolding extent_of kind_of
data_is body lt = record { code = omega arith; value = (body, lt, refl); items = refl }

data_says : (body : List ℕ) (m : Message) (behind : ℕ) → m.body ≡ [] → section_says 117 (binary body) [] m behind ≡ said_ok (record m { body = body })
unfolding extent_of kind_of content_of
data_says body m behind none = ap (λ (front : List ℕ). said_ok (record m { body = front ++ body })) none

pub data_makes : (body : List ℕ) (m : Message) → length body < 2 ^ 32 → m.body ≡ [] → Makes (data_part body) m (record m { body = body })
data_makes body m lt none = record { is = data_is body lt; said = λ behind. data_says body m behind none }

-- ---- the schedule

abbrev pub annotation_part : ℕ → Section
annotation_part moment = record { code = 114; is_small = true; value = map_of 2 (symbol schedule_key ++ timestamp moment); items = symbol schedule_key ∷ timestamp moment ∷ [] }

annotation_is : (moment : ℕ) → IsSection (annotation_part moment)
unfolding extent_of extent_at kind_of content_of
annotation_is moment = record {
  code = omega arith;
  value = map_is 2 (symbol schedule_key ++ timestamp moment) (omega arith);
  items = (record { content = refl; each = ((schedule_key, omega arith, refl), (refl, tt)); count = omega arith }, refl);
}

moment_says : (moment : ℕ) (m : Message) → moment < 2 ^ 63 → with_item 114 1 (symbol schedule_key) (timestamp moment) m ≡ Some (record m { schedule = Some moment })
unfolding with_item extent_of kind_of content_of unsigned_in
moment_says moment m lt =
    let back = from_be_bytes-to_be_bytes_8 moment (omega (arith, lt)) in
    let within : nat_lt moment (2 ^ 63) ≡ true = lt-ltb _ _ lt in
    rw (back, within) refl

key_says : (m : Message) → with_item 114 0 [] (symbol schedule_key) m ≡ Some m
unfolding with_item
key_says m = refl

annotation_read : (moment : ℕ) (m : Message) (behind : ℕ) → items_say 114 0 [] m (symbol schedule_key ∷ timestamp moment ∷ []) behind ≡ said_ok (record m { schedule = Some moment })
    → section_says 114 (map_of 2 (symbol schedule_key ++ timestamp moment)) (symbol schedule_key ∷ timestamp moment ∷ []) m behind ≡ said_ok (record m { schedule = Some moment })
unfolding kind_of
annotation_read moment m behind says = says

annotation_says : (moment : ℕ) (m : Message) (behind : ℕ) → moment < 2 ^ 63 → section_says 114 (map_of 2 (symbol schedule_key ++ timestamp moment)) (symbol schedule_key ∷ timestamp moment ∷ []) m behind ≡ said_ok (record m { schedule = Some moment })
annotation_says moment m behind lt = annotation_read moment m behind (rw (key_says m, moment_says moment m lt) refl)

pub annotation_makes : (moment : ℕ) (m : Message) → moment < 2 ^ 63 → Makes (annotation_part moment) m (record m { schedule = Some moment })
annotation_makes moment m lt = record { is = annotation_is moment; said = λ behind. annotation_says moment m behind lt }

-- ---- the time to live

abbrev pub header_part : ℕ → Section
header_part ttl = record { code = 112; is_small = true; value = list 3 (null ++ null ++ uint (ttl * 1000)); items = null ∷ null ∷ uint (ttl * 1000) ∷ [] }

header_is : (ttl : ℕ) → IsSection (header_part ttl)
unfolding extent_of extent_at kind_of content_of
header_is ttl = record {
  code = omega arith;
  value = list_is 3 (null ++ null ++ uint (ttl * 1000)) (omega arith);
  items = (record { content = refl; each = (refl, (refl, (refl, tt))); count = omega arith }, refl);
}

whole_seconds : (ttl : ℕ) → 0 < ttl → seconds (ttl * 1000) ≡ ttl
whole_seconds ttl lt = omega (arith, lt)

ttl_says : (ttl : ℕ) (m : Message) → 0 < ttl → ttl ≤ 4294967 → with_item 112 2 null (uint (ttl * 1000)) m ≡ Some (record m { ttl = Some ttl })
unfolding with_item extent_of kind_of content_of unsigned_in
ttl_says ttl m more le =
    let back = from_be_bytes-to_be_bytes_4 (ttl * 1000) (omega (arith, le)) in
    rw (back, whole_seconds ttl more) refl

first_says : (m : Message) → with_item 112 0 [] null m ≡ Some m
unfolding with_item
first_says m = refl

second_says : (m : Message) → with_item 112 1 null null m ≡ Some m
unfolding with_item
second_says m = refl

header_read : (ttl : ℕ) (m : Message) (behind : ℕ) → items_say 112 0 [] m (null ∷ null ∷ uint (ttl * 1000) ∷ []) behind ≡ said_ok (record m { ttl = Some ttl })
    → section_says 112 (list 3 (null ++ null ++ uint (ttl * 1000))) (null ∷ null ∷ uint (ttl * 1000) ∷ []) m behind ≡ said_ok (record m { ttl = Some ttl })
unfolding kind_of
header_read ttl m behind says = says

header_says : (ttl : ℕ) (m : Message) (behind : ℕ) → 0 < ttl → ttl ≤ 4294967 → section_says 112 (list 3 (null ++ null ++ uint (ttl * 1000))) (null ∷ null ∷ uint (ttl * 1000) ∷ []) m behind ≡ said_ok (record m { ttl = Some ttl })
header_says ttl m behind more le = header_read ttl m behind (rw (first_says m, second_says m, ttl_says ttl m more le) refl)

pub header_makes : (ttl : ℕ) (m : Message) → 0 < ttl → ttl ≤ 4294967 → Makes (header_part ttl) m (record m { ttl = Some ttl })
header_makes ttl m more le = record { is = header_is ttl; said = λ behind. header_says ttl m behind more le }
