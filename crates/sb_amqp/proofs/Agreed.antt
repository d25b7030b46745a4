-- What is taken section by section is what the bytes spell.
use Rattle.std.proofs.Common.{◌≡◌, ℕ, zero, suc, ◌+◌, ◌≤◌, Bool, true, false, cond, List, [], ◌∷◌, ◌++◌, length, Option, Some, None, Result, Ok, Err, refl, sym, ap, ◌∙◌, append_assoc, arith}
use Rattle.std.specs.Prelude.{◌==◌, ◌&&◌, ◌||◌, option_and_then, option_map}
use Rattle.std.specs.Result.{result_ok}
use Rattle.std.proofs.lemmas.Bool.Decides.{nat_tests}
use Rattle.std.proofs.lemmas.List.{append-nil, length-append}
use Rattle.sb_model.specs.declared.message.Message.{Message}
use Rattle.sb_amqp.specs.declared.fault.AmqpFault.{AmqpFault}
use Rattle.sb_amqp.specs.declared.fault.AmqpFault.TheVariants.{BadMessage, Unsupported, OutOfMemory}
use Rattle.sb_amqp.specs.Fields.{header_code, annotations_code, properties_code, application_code, data_code, sequence_code, value_code}
use Rattle.sb_amqp.specs.Found.{values_in, counted_values, items_in, said_by, at_end, onwards, message_from, message_in, IsFound}
use Rattle.sb_amqp.specs.Meaning.{or_left, and_then, with_item, items_say, items_if, body_from, with_body, section_says, sections_say, no_message}
use Rattle.sb_amqp.specs.Reading.{counted, descriptor_at, section_at, next_at}
use Rattle.sb_amqp.specs.Reads.{Spells, IsBad, Answers}
use Rattle.sb_amqp.specs.Sections.{Section, spelled, all_spelled, descriptor, HasUsedItems, has_used_items, is_list, is_map, IsSection, AreInOrder, before_all, last_code, may_follow, may_end}
use Rattle.sb_amqp.specs.Values.{joined, extent_at, kind_of, content_of, AreValues}
use Rattle.sb_amqp.proofs.Begins.{counted_again, next_gives, next_again}
use Rattle.sb_amqp.proofs.Fronts.{cut_again}
use Rattle.sb_amqp.proofs.Widths.{IsBytes, IsBytes-behind}

-- ---- items

values_again : (vs : List (List ℕ)) → AreValues vs → values_in (length vs) (joined vs) ≡ vs
unfolding values_in
values_again [] are = refl
values_again (v ∷ vs) are = rw (cut_again v (joined vs) are.0) (ap (λ (others : List (List ℕ)). v ∷ others) (values_again vs are.1))

items_again : (due : Bool) (value : List ℕ) (items : List (List ℕ)) → HasUsedItems due value items → items_in due value ≡ items
items_again false value items has = sym has
items_again true value items (has, pairs) =
    ap (λ (c : List ℕ). counted_values (counted (extent_at value) c)) has.content ∙ ap counted_values (counted_again (extent_at value) (length items) (joined items) has.count) ∙ values_again items has.each

-- ---- what is said is the same, whatever is behind

items_same : (code index : ℕ) (before : List ℕ) (m : Message) (vs : List (List ℕ)) (a b : ℕ) → result_ok (items_say code index before m vs a) ≡ result_ok (items_say code index before m vs b)
items_same code index before m [] a b = refl
items_same code index before m (v ∷ vs) a b = by_item (with_item code index before v m) (λ next. items_same code (suc index) v next vs a b) where
  by_item : (o : Option Message) → ((next : Message) → result_ok (items_say code (suc index) v next vs a) ≡ result_ok (items_say code (suc index) v next vs b))
      → result_ok (and_then (or_left (length (joined (v ∷ vs)) + a) o) (λ next. items_say code (suc index) v next vs a)) ≡ result_ok (and_then (or_left (length (joined (v ∷ vs)) + b) o) (λ next. items_say code (suc index) v next vs b))
  by_item None ih = refl
  by_item (Some next) ih = ih next

items_if_same : (due : Bool) (code : ℕ) (m : Message) (value : List ℕ) (items : List (List ℕ)) (a b : ℕ) → result_ok (items_if due code m value items a) ≡ result_ok (items_if due code m value items b)
items_if_same true code m value items a b = items_same code 0 [] m items a b
items_if_same false code m value items a b = refl

left_same : (o : Option Message) (a b : ℕ) → result_ok (or_left a o) ≡ result_ok (or_left b o)
left_same None a b = refl
left_same (Some m) a b = refl

chosen_same : (t : Bool) (w x y z : Result Message ℕ) → result_ok w ≡ result_ok y → result_ok x ≡ result_ok z → result_ok (cond t w x) ≡ result_ok (cond t y z)
chosen_same true w x y z e f = e
chosen_same false w x y z e f = f

section_same : (code : ℕ) (value : List ℕ) (items : List (List ℕ)) (m : Message) (a b : ℕ) → result_ok (section_says code value items m a) ≡ result_ok (section_says code value items m b)
section_same code value items m a b =
    chosen_same (code == header_code || code == properties_code) _ _ _ _ (items_if_same (is_list (kind_of value)) code m value items a b)
    (chosen_same (code == annotations_code || code == application_code) _ _ _ _ (items_if_same (is_map (kind_of value)) code m value items a b)
    (chosen_same (code == data_code || code == value_code) _ _ _ _ (left_same (option_map (λ bytes. with_body bytes m) (body_from code (kind_of value) (content_of value))) (length value + a) (length value + b))
    (chosen_same (code == sequence_code) (Err (length value + a)) (Ok m) (Err (length value + b)) (Ok m) refl refl)))

-- ---- sections

then_on : (r : Result Message ℕ) (f h : Message → Option Message) (g : Message → Result Message ℕ) → ((next : Message) → f next ≡ option_and_then h (result_ok (g next))) → option_and_then f (result_ok r) ≡ option_and_then h (result_ok (and_then r g))
then_on (Ok next) f h g ih = ih next
then_on (Err left) f h g ih = refl

by_sections : (n last : ℕ) (ss : List Section) (rest : List ℕ) (m : Message) → AreInOrder last ss → length ss ≤ n → next_at (last_code last ss) rest ≡ None
    → message_from n last (all_spelled ss ++ rest) m ≡ option_and_then (λ said. at_end (last_code last ss) rest said) (result_ok (sections_say m ss))
unfolding message_from
by_sections zero last [] rest m order fits none = refl
by_sections (suc n) last [] rest m order fits none = rw none refl
by_sections zero last (s ∷ ss) rest m order fits none = absurd (omega (arith, fits))
by_sections (suc n) last (s ∷ ss) rest m order fits none =
    let tail : List ℕ = all_spelled ss ++ rest in
    let begins : next_at last (all_spelled (s ∷ ss) ++ rest) ≡ Some (s.code, (s.value, tail)) = ap (next_at last) (append_assoc (spelled s) (all_spelled ss) rest) ∙ next_again last s tail order.1 order.0 in
    let same : said_by (s.code, (s.value, tail)) m ≡ result_ok (section_says s.code s.value s.items m (length (all_spelled ss))) =
    ap (λ (items : List (List ℕ)). result_ok (section_says s.code s.value items m (length tail))) (items_again (has_used_items s.code (kind_of s.value)) s.value s.items order.1.items)
    ∙ section_same s.code s.value s.items m (length tail) (length (all_spelled ss)) in
    ap (λ (o : Option (ℕ × (List ℕ × List ℕ))). onwards o (at_end last (all_spelled (s ∷ ss) ++ rest) m) (λ x. option_and_then (λ next. message_from n x.0 x.1.1 next) (said_by x m))) begins
    ∙ ap (λ (o : Option Message). option_and_then (λ next. message_from n s.code tail next) o) same
    ∙ then_on (section_says s.code s.value s.items m (length (all_spelled ss))) (λ next. message_from n s.code tail next) (λ said. at_end (last_code s.code ss) rest said) (λ next. sections_say next ss)
    (λ next. by_sections n s.code ss rest next order.2 (omega (arith, fits)) none)

one_byte : (is_small : Bool) (code : ℕ) (value : List ℕ) → 1 ≤ length (descriptor is_small code ++ value)
one_byte true code value = omega arith
one_byte false code value = omega arith

count_fits : (ss : List Section) → length ss ≤ length (all_spelled ss)
count_fits [] = omega arith
count_fits (s ∷ ss) = omega (arith, count_fits ss, one_byte s.is_small s.code s.value, length-append (spelled s) (all_spelled ss))

from_spelled : (bytes : List ℕ) (ss : List Section) (rest : List ℕ) → bytes ≡ all_spelled ss ++ rest → AreInOrder before_all ss → next_at (last_code before_all ss) rest ≡ None
    → message_in bytes ≡ option_and_then (λ said. at_end (last_code before_all ss) rest said) (result_ok (sections_say no_message ss))
unfolding message_in
from_spelled bytes ss rest text order none =
    ap (λ (b : List ℕ). message_from (length bytes) before_all b no_message) text
    ∙ by_sections (length bytes) before_all ss rest no_message order (omega (arith, count_fits ss, ap (λ (b : List ℕ). length b) text, length-append (all_spelled ss) rest)) none

none_begins : (last : ℕ) → next_at last [] ≡ None
unfolding next_at section_at descriptor_at
none_begins last = refl

from_whole : (bytes : List ℕ) (ss : List Section) → Spells bytes ss → message_in bytes ≡ result_ok (sections_say no_message ss)
from_whole bytes ss spells =
    from_spelled bytes ss [] (spells.text ∙ sym (append-nil (all_spelled ss))) spells.order (none_begins (last_code before_all ss)) ∙ ended (may_end (last_code before_all ss)) (result_ok (sections_say no_message ss)) spells.whole where
      ended : (b : Bool) (o : Option Message) → b ≡ true → option_and_then (λ said. cond (b && true) (Some said) None) o ≡ o
      ended true None e = refl
      ended true (Some m) e = refl
      ended false o e = absurd cc

-- ---- where no section begins

none_next : (last : ℕ) (rest : List ℕ) → IsBytes rest → ((s : Section) (more : List ℕ) → IsSection s → may_follow last s.code ≡ true → rest ≡ spelled s ++ more → ⊥) → next_at last rest ≡ None
none_next last rest bounds none = by_next (next_at last rest) refl where
  by_next : (o : Option (ℕ × (List ℕ × List ℕ))) → next_at last rest ≡ o → o ≡ None
  by_next None e = refl
  by_next (Some x) e =
      let g = next_gives last rest x bounds e in
      let b = g.1 in
      absurd (none b.section x.1.1 b.is (ap (may_follow last) b.code ∙ g.0) b.text)

unended : (last : ℕ) (rest : List ℕ) (o : Option Message) → (rest ≡ [] → may_end last ≡ false) → option_and_then (λ said. at_end last rest said) o ≡ None
unended last rest None ends = refl
unended last [] (Some m) ends = rw (ends refl) refl
unended last (b ∷ rest) (Some m) ends = rw (not_zero (length rest)) (by_end (may_end last)) where
  not_zero : (n : ℕ) → (suc n == 0) ≡ false
  not_zero n = grind (arith, nat_tests)

  by_end : (t : Bool) → cond (t && false) (Some m) None ≡ None
  by_end true = refl
  by_end false = refl

pub bad_none : (bytes : List ℕ) (at : ℕ) → IsBytes bytes → IsBad bytes at → message_in bytes ≡ None
bad_none bytes at bounds bad =
    let inside = IsBytes-behind (all_spelled bad.sections) bad.rest bytes bad.text bounds in
    from_spelled bytes bad.sections bad.rest bad.text bad.order (none_next (last_code before_all bad.sections) bad.rest inside bad.none.none)
    ∙ unended (last_code before_all bad.sections) bad.rest (result_ok (sections_say no_message bad.sections)) bad.none.unended

-- ---- answers

pub is_found : (bytes : List ℕ) (answer : Result Message AmqpFault) → IsBytes bytes → Answers bytes answer → IsFound answer (message_in bytes)
is_found bytes (Ok m) bounds reads = from_whole bytes reads.sections reads.spelled ∙ ap (λ (r : Result Message ℕ). result_ok r) reads.said
is_found bytes (Err (BadMessage at)) bounds bad = bad_none bytes at bounds bad
is_found bytes (Err (Unsupported at)) bounds is = from_whole bytes is.sections is.spelled ∙ ap (λ (r : Result Message ℕ). result_ok r) is.said
is_found bytes (Err OutOfMemory) bounds said = tt
