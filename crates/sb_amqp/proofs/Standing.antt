-- What is read stands in its order.
use Rattle.std.proofs.Common.{◌≡◌, ℕ, zero, suc, ◌+◌, ◌%◌, Bool, true, false, cond, List, [], ◌∷◌, length, Option, Some, None, Result, Ok, Err, refl, sym, ap, subst, ◌∙◌, arith}
use Rattle.std.specs.Prelude.{IfOk, ◌==◌, ◌&&◌, ◌||◌, not, nat_le, nat_lt, bytes_eq, option_and_then, option_map}
use Rattle.std.specs.List.{list_all}
use Rattle.std.specs.Result.{result_ok}
use Rattle.std.specs.Str.{str_to_ascii_lowercase}
use Rattle.std.specs.Ordering.{nat_cmp, is_lt, is_eq, ordering_reverse}
use Rattle.std.specs.declared.cmp.Ordering.{Ordering}
use Rattle.std.specs.declared.cmp.Ordering.TheVariants.{Less, Equal, Greater}
use Rattle.std.specs.Cmp.Lexicographic.{slice_cmp}
use Rattle.std.proofs.lemmas.Bool.{eqb-true}
use Rattle.std.proofs.lemmas.Bool.Decides.{nat_tests}
use Rattle.std.proofs.lemmas.Cmp.{nat_list_cmp_total}
use Rattle.std.proofs.lemmas.Map.Text.{is_eq-slice_cmp}
use Rattle.sb_model.specs.Effects.{without_user, with_user, with_text_more}
use Rattle.sb_model.specs.Orders.{AreRising, IsInOrder, name_before, code_before, is_set}
use Rattle.sb_model.specs.SystemNames.{system_code}
use Rattle.sb_model.specs.declared.message.Message.{Message}
use Rattle.sb_model.specs.declared.message.Property.{Property}
use Rattle.sb_model.specs.declared.message.PropertyValue.{PropertyValue}
use Rattle.sb_model.specs.declared.message.SystemName.{SystemName}
use Rattle.sb_model.specs.declared.message.SystemText.{SystemText}
use Rattle.sb_model.proofs.Orders.{all_pass, all_placed, rising_filter, rising_placed}
use Rattle.sb_amqp.specs.Fields.{header_code, annotations_code, properties_code, application_code, data_code, sequence_code, value_code, field_name, field_number}
use Rattle.sb_amqp.specs.declared.fault.AmqpFault.{AmqpFault}
use Rattle.sb_amqp.specs.Found.{IsFound, said_by, at_end, onwards, items_in, message_from, message_in}
use Rattle.sb_amqp.specs.Meaning as says
use Rattle.sb_amqp.specs.Meaning.{or_left, and_then, with_item, items_say, items_if, section_says, no_message}
use Rattle.sb_amqp.specs.Reading.{section_at, if_next, next_at}
use Rattle.sb_amqp.specs.Sections.{has_used_items, is_list, is_map, before_all, may_follow}
use Rattle.sb_amqp.specs.Values.{joined, kind_of, content_of}
use Rattle.sb_amqp.proofs.Fronts.{then_some}
use Rattle.sb_amqp.proofs.Texted.{number_of, one_code}
use Rattle.sb_amqp.proofs.Widths.{when_some}

-- ---- one user property more, by name

less_is : (o : Ordering) → is_lt o ≡ true → o ≡ Less
less_is Less e = refl
less_is Equal e = absurd cc
less_is Greater e = absurd cc

names_later : (p q r : Property) → name_before p q ≡ true → name_before q r ≡ true → name_before p r ≡ true
names_later p q r a b = ap is_lt (nat_list_cmp_total.trans p.name q.name r.name (less_is (slice_cmp nat_cmp p.name q.name) a) (less_is (slice_cmp nat_cmp q.name r.name) b))

names_other : (p q : Property) → name_before q p ≡ false → bytes_eq q.name p.name ≡ false → name_before p q ≡ true
names_other p q after differs = at (slice_cmp nat_cmp q.name p.name) after (is_eq-slice_cmp q.name p.name ∙ differs) (nat_list_cmp_total.antisymm p.name q.name) where
  at : (o : Ordering) → is_lt o ≡ false → is_eq o ≡ false → slice_cmp nat_cmp p.name q.name ≡ ordering_reverse o → name_before p q ≡ true
  at Less after differs e = absurd cc
  at Equal after differs e = absurd cc
  at Greater after differs e = ap is_lt e

pub property_set : (name : List ℕ) (value : PropertyValue) (props : List Property) → AreRising name_before props → AreRising name_before (with_user name (Some value) props)
property_set name v props rising =
    let p : Property = record { name = name; value = v } in
    rising_placed name_before p (λ q r. bytes_eq q.name r.name) (λ q r. names_later p q r) (λ q. names_other p q) (without_user name props) (all_pass (λ q. not (bytes_eq q.name name)) props) (rising_filter name_before (λ q. not (bytes_eq q.name name)) props rising)

-- ---- one system text more, of a field behind those that are there

abbrev AreUpTo : ℕ → List SystemText → Type 0
AreUpTo k sys = list_all (λ s. nat_le (field_number s.name) k) sys ≡ true

both : (a b : Bool) → (a && b) ≡ true → (a ≡ true) × (b ≡ true)
both true b e = (refl, e)
both false b e = absurd cc

wider : (k : ℕ) (sys : List SystemText) → AreUpTo k sys → AreUpTo (suc k) sys
wider k [] all = refl
wider k (s ∷ sys) all =
    let parts = both (nat_le (field_number s.name) k) (list_all (λ t. nat_le (field_number t.name) k) sys) all in
    rw (at (field_number s.name) parts.0) (wider k sys parts.1) where
      at : (n : ℕ) → nat_le n k ≡ true → nat_le n (suc k) ≡ true
      at n within = grind (arith, nat_tests, within)

codes_differ : (a b : SystemName) (k : ℕ) → nat_le (field_number a) k ≡ true → field_number b ≡ k + 1 → (system_code a == system_code b) ≡ false
codes_differ a b k within is = by_test (system_code a == system_code b) refl where
  never : (n : ℕ) → nat_le n k ≡ true → n ≡ k + 1 → ⊥
  never n within is = grind (arith, nat_tests, within, is)

  by_test : (t : Bool) → (system_code a == system_code b) ≡ t → t ≡ false
  by_test false e = refl
  by_test true e = absurd (never (field_number a) within (ap field_number (one_code a b (eqb-true _ _ e)) ∙ is))

others_differ : (name : SystemName) (k : ℕ) (sys : List SystemText) → AreUpTo k sys → field_number name ≡ k + 1 → list_all (λ s. not (system_code s.name == system_code name)) sys ≡ true
others_differ name k [] all is = refl
others_differ name k (s ∷ sys) all is =
    let parts = both (nat_le (field_number s.name) k) (list_all (λ t. nat_le (field_number t.name) k) sys) all in
    rw (codes_differ s.name name k parts.0 is) (others_differ name k sys parts.1 is)

record Texts (k : ℕ) (sys : List SystemText) : Type 0 where
  pub rising : AreRising code_before sys
  pub set : list_all is_set sys ≡ true
  pub up_to : AreUpTo k sys

text_later : (s y z : SystemText) → code_before s y ≡ true → code_before y z ≡ true → code_before s z ≡ true
text_later s y z a b = at (system_code s.name) (system_code y.name) (system_code z.name) a b where
  at : (a b c : ℕ) → nat_lt a b ≡ true → nat_lt b c ≡ true → nat_lt a c ≡ true
  at a b c x y = grind (arith, nat_tests, x, y)

text_other : (s y : SystemText) → code_before y s ≡ false → (system_code y.name == system_code s.name) ≡ false → code_before s y ≡ true
text_other s y after differs = at (system_code s.name) (system_code y.name) after differs where
  at : (a b : ℕ) → nat_lt b a ≡ false → (b == a) ≡ false → nat_lt a b ≡ true
  at a b x y = grind (arith, nat_tests, x, y)

text_set : (name : SystemName) (b : ℕ) (bs : List ℕ) (k : ℕ) (sys : List SystemText) → field_number name ≡ k + 1 → Texts k sys → Texts (suc k) (with_text_more (record { name = name; text = b ∷ bs }) sys)
text_set name b bs k sys is t =
    let s : SystemText = record { name = name; text = b ∷ bs } in
    let here : is_set s ≡ true = grind (arith, nat_tests) in
    record {
      rising = rising_placed code_before s (λ y z. system_code y.name == system_code z.name) (λ y z. text_later s y z) (λ y. text_other s y) sys (others_differ name k sys t.up_to is) t.rising;
      set = all_placed code_before s is_set sys here t.set;
      up_to = all_placed code_before s (λ y. nat_le (field_number y.name) (suc k)) sys (at (field_number name) is) (wider k sys t.up_to);
    } where
      at : (n : ℕ) → n ≡ k + 1 → nat_le n (suc k) ≡ true
      at n is = grind (arith, nat_tests, is)

-- ---- items

-- so many items of such a section were used
record Along (code index : ℕ) (m : Message) : Type 0 where
  pub props : AreRising name_before m.props
  pub texts : (code == properties_code) ≡ true → Texts index m.sys
  pub order : AreRising code_before m.sys
  pub set : list_all is_set m.sys ≡ true
  pub clear : nat_lt code properties_code ≡ true → m.sys ≡ []

texts_on : (k : ℕ) (sys : List SystemText) → Texts k sys → Texts (suc k) sys
texts_on k sys t = record { rising = t.rising; set = t.set; up_to = wider k sys t.up_to }

-- the properties may change, the texts stay
along_props : (code index : ℕ) (m next : Message) → Along code index m → AreRising name_before next.props → next.sys ≡ m.sys → Along code (suc index) next
along_props code index m next a props same = record {
  props = props;
  texts = λ is. subst (λ (sys : List SystemText). Texts (suc index) sys) (sym same) (texts_on index m.sys (a.texts is));
  order = subst (λ (sys : List SystemText). AreRising code_before sys) (sym same) a.order;
  set = subst (λ (sys : List SystemText). list_all is_set sys ≡ true) (sym same) a.set;
  clear = λ is. same ∙ a.clear is;
}

abbrev some_message : Message → Option Message
some_message m = Some m

same_some : (m next : Message) → some_message m ≡ some_message next → m ≡ next
same_some m next e = cc

never_some : (next : Message) → None ≡ some_message next → ⊥
never_some next e = absurd cc

along_same : (code index : ℕ) (m next : Message) → Along code index m → some_message m ≡ some_message next → Along code (suc index) next
along_same code index m next a e = along_props code index m next a (subst (λ (n : Message). AreRising name_before n.props) (same_some m next e) a.props) (ap (λ (n : Message). n.sys) (sym (same_some m next e)))

mapped : {A : Type 0} (f : A → Message) (o : Option A) (next : Message) → option_map f o ≡ some_message next → (x : A) × (f x ≡ next)
mapped f None next e = absurd (never_some next e)
mapped f (Some x) next e = (x, same_some (f x) next e)

chosen_along : (code index : ℕ) (next : Message) (t : Bool) (o p : Option Message) → (t ≡ true → o ≡ some_message next → Along code (suc index) next) → (t ≡ false → p ≡ some_message next → Along code (suc index) next)
    → cond t o p ≡ some_message next → Along code (suc index) next
chosen_along code index next true o p one two e = one refl e
chosen_along code index next false o p one two e = two refl e

header_along : (code index : ℕ) (value : List ℕ) (m next : Message) → Along code index m → says.header_item index value m ≡ some_message next → Along code (suc index) next
header_along code index value m next a e =
    chosen_along code index next (index == 2) (option_map (λ ttl. record m { ttl = ttl }) (says.ttl_from (kind_of value) (content_of value) m.ttl)) (Some m)
    (λ _ one. (let x = mapped (λ ttl. record m { ttl = ttl }) (says.ttl_from (kind_of value) (content_of value) m.ttl) next one in
    along_props code index m next a (subst (λ (n : Message). AreRising name_before n.props) x.1 a.props) (ap (λ (n : Message). n.sys) (sym x.1))))
    (λ _ two. along_same code index m next a two) e

annotation_along : (code index : ℕ) (key value : List ℕ) (m next : Message) → Along code index m → says.annotation_item index key value m ≡ some_message next → Along code (suc index) next
annotation_along code index key value m next a e =
    chosen_along code index next ((index % 2 == 1) && says.is_schedule_key (kind_of key) (content_of key)) (option_map (λ moment. record m { schedule = Some moment }) (says.moment_from (kind_of value) (content_of value))) (Some m)
    (λ _ one. (let x = mapped (λ moment. record m { schedule = Some moment }) (says.moment_from (kind_of value) (content_of value)) next one in
    along_props code index m next a (subst (λ (n : Message). AreRising name_before n.props) x.1 a.props) (ap (λ (n : Message). n.sys) (sym x.1))))
    (λ _ two. along_same code index m next a two) e

not_clear : (code : ℕ) → (code == properties_code) ≡ true → nat_lt code properties_code ≡ true → ⊥
not_clear code is less = grind (arith, nat_tests, is, less)

text_along : (code index : ℕ) (name : SystemName) (text : List ℕ) (m next : Message) → (code == properties_code) ≡ true → field_number name ≡ index + 1 → Along code index m
    → record m { sys = says.with_text name text m.sys } ≡ next → Along code (suc index) next
text_along code index name [] m next is number a e = along_props code index m next a (subst (λ (n : Message). AreRising name_before n.props) e a.props) (ap (λ (n : Message). n.sys) (sym e))
text_along code index name (b ∷ bs) m next is number a e =
    let t = text_set name b bs index m.sys number (a.texts is) in
    subst (λ (n : Message). Along code (suc index) n) e (record { props = a.props; texts = λ _. t; order = t.rising; set = t.set; clear = λ less. absurd (not_clear code is less) })

named_along : (code index : ℕ) (name : Option SystemName) (value : List ℕ) (m next : Message) → (code == properties_code) ≡ true → field_name (index + 1) ≡ name → Along code index m → says.named_item name value m ≡ some_message next → Along code (suc index) next
named_along code index None value m next is number a e = along_same code index m next a e
named_along code index (Some name) value m next is number a e =
    let x = mapped (λ text. record m { sys = says.with_text name text m.sys }) (says.text_from name (kind_of value) (content_of value)) next e in
    text_along code index name x.0 m next is (number_of (index + 1) name number) a x.1

key_along : (code index : ℕ) (key : List ℕ) (m next : Message) → Along code index m → says.key_of key m ≡ some_message next → Along code (suc index) next
key_along code index key m next a e =
    let x = mapped (λ _. m) (says.plain_text (kind_of key) (content_of key)) next e in
    along_same code index m next a (ap some_message x.1)

entry_along : (code index : ℕ) (key value : List ℕ) (m next : Message) → Along code index m → says.entry_of key value m ≡ some_message next → Along code (suc index) next
entry_along code index key value m next a e =
    chosen_along code index next (says.is_null (kind_of value)) (Some m) (option_and_then (λ name. says.entry_named name value m) (says.plain_text (kind_of key) (content_of key)))
    (λ _ one. along_same code index m next a one)
    (λ _ two. (let n = then_some (says.plain_text (kind_of key) (content_of key)) (λ name. says.entry_named name value m) next two in
    let x = mapped (λ v. says.with_property n.0 v m) (says.property_from (kind_of value) (content_of value)) next n.2 in
    along_props code index m next a (subst (λ (r : Message). AreRising name_before r.props) x.1 (property_set (str_to_ascii_lowercase n.0) x.0 m.props a.props)) (ap (λ (r : Message). r.sys) (sym x.1)))) e

item_along : (code index : ℕ) (before value : List ℕ) (m next : Message) → Along code index m → with_item code index before value m ≡ some_message next → Along code (suc index) next
unfolding with_item
item_along code index before value m next a e =
    chosen_along code index next (code == header_code) _ _ (λ _ one. header_along code index value m next a one) (λ _ two.
    chosen_along code index next (code == annotations_code) _ _ (λ _ one. annotation_along code index before value m next a one) (λ _ three.
    chosen_along code index next (code == properties_code) _ _ (λ is one. named_along code index (field_name (index + 1)) value m next is refl a one) (λ _ four.
    chosen_along code index next (index % 2 == 0) _ _ (λ _ one. key_along code index value m next a one) (λ _ five. entry_along code index before value m next a five) four) three) two) e

items_along : (code index : ℕ) (before : List ℕ) (m : Message) (vs : List (List ℕ)) (behind : ℕ) (next : Message) → Along code index m → result_ok (items_say code index before m vs behind) ≡ some_message next → (k : ℕ) × Along code k next
items_along code index before m [] behind next a e = (index, subst (λ (n : Message). Along code index n) (same_some m next e) a)
items_along code index before m (v ∷ vs) behind next a e = by_item (with_item code index before v m) refl e (λ on b f. items_along code (suc index) v on vs behind next b f) where
  by_item : (o : Option Message) → with_item code index before v m ≡ o → result_ok (and_then (or_left (length (joined (v ∷ vs)) + behind) o) (λ on. items_say code (suc index) v on vs behind)) ≡ some_message next
      → ((on : Message) → Along code (suc index) on → result_ok (items_say code (suc index) v on vs behind) ≡ some_message next → (k : ℕ) × Along code k next) → (k : ℕ) × Along code k next
  by_item None is e ih = absurd (never_some next e)
  by_item (Some on) is e ih = ih on (item_along code index before v m on a is) e

-- ---- sections

-- in order; and before the properties there are no texts
record Stands (last : ℕ) (m : Message) : Type 0 where
  pub order : IsInOrder m
  pub clear : nat_lt last properties_code ≡ true → m.sys ≡ []

before_clear : (last code : ℕ) → may_follow last code ≡ true → nat_le code properties_code ≡ true → nat_lt last properties_code ≡ true
before_clear last code follows within = grind (arith, nat_tests, follows, within)

less_is_le : (n k : ℕ) → nat_lt n k ≡ true → nat_le n k ≡ true
less_is_le n k less = grind (arith, nat_tests, less)

same_is_le : (n k : ℕ) → (n == k) ≡ true → nat_le n k ≡ true
same_is_le n k is = grind (arith, nat_tests, is)

begins_along : (last code : ℕ) (m : Message) → may_follow last code ≡ true → Stands last m → Along code 0 m
begins_along last code m follows s = record {
  props = s.order.props;
  texts = λ is. (let none = s.clear (before_clear last code follows (same_is_le code properties_code is)) in record { rising = s.order.sys; set = s.order.set; up_to = subst (λ (sys : List SystemText). AreUpTo 0 sys) (sym none) refl });
  order = s.order.sys;
  set = s.order.set;
  clear = λ less. s.clear (before_clear last code follows (less_is_le code properties_code less));
}

ends_along : (code index : ℕ) (m : Message) → Along code index m → Stands code m
ends_along code index m a = record { order = record { props = a.props; sys = a.order; set = a.set }; clear = a.clear }

stands_same : (last code : ℕ) (m next : Message) → may_follow last code ≡ true → Stands last m → next.props ≡ m.props → next.sys ≡ m.sys → Stands code next
stands_same last code m next follows s props sys = record {
  order = record {
    props = subst (λ (ps : List Property). AreRising name_before ps) (sym props) s.order.props;
    sys = subst (λ (ts : List SystemText). AreRising code_before ts) (sym sys) s.order.sys;
    set = subst (λ (ts : List SystemText). list_all is_set ts ≡ true) (sym sys) s.order.set;
  };
  clear = λ less. sys ∙ s.clear (before_clear last code follows (less_is_le code properties_code less));
}

items_if_stands : (due : Bool) (last code : ℕ) (m : Message) (value : List ℕ) (items : List (List ℕ)) (behind : ℕ) (next : Message) → may_follow last code ≡ true → Stands last m
    → result_ok (items_if due code m value items behind) ≡ some_message next → Stands code next
items_if_stands false last code m value items behind next follows s e = absurd (never_some next e)
items_if_stands true last code m value items behind next follows s e = let a = items_along code 0 [] m items behind next (begins_along last code m follows s) e in ends_along code a.0 next a.1

body_stands : (last code : ℕ) (value : List ℕ) (m : Message) (left : ℕ) (next : Message) → may_follow last code ≡ true → Stands last m → result_ok (says.body_says code value m left) ≡ some_message next → Stands code next
body_stands last code value m left next follows s e = by_body (says.body_from code (kind_of value) (content_of value)) e where
  by_body : (o : Option (List ℕ)) → result_ok (or_left left (option_map (λ bytes. says.with_body bytes m) o)) ≡ some_message next → Stands code next
  by_body None e = absurd (never_some next e)
  by_body (Some bytes) e =
      let is = same_some (says.with_body bytes m) next e in
      stands_same last code m next follows s (ap (λ (n : Message). n.props) (sym is)) (ap (λ (n : Message). n.sys) (sym is))

chosen_stands : (code : ℕ) (next : Message) (t : Bool) (r q : Result Message ℕ) → (result_ok r ≡ some_message next → Stands code next) → (result_ok q ≡ some_message next → Stands code next) → result_ok (cond t r q) ≡ some_message next → Stands code next
chosen_stands code next true r q one two e = one e
chosen_stands code next false r q one two e = two e

section_stands : (last code : ℕ) (value : List ℕ) (items : List (List ℕ)) (m : Message) (behind : ℕ) (next : Message) → may_follow last code ≡ true → Stands last m
    → result_ok (section_says code value items m behind) ≡ some_message next → Stands code next
section_stands last code value items m behind next follows s e =
    chosen_stands code next (code == header_code || code == properties_code) _ _ (λ one. items_if_stands (is_list (kind_of value)) last code m value items behind next follows s one) (λ two.
    chosen_stands code next (code == annotations_code || code == application_code) _ _ (λ one. items_if_stands (is_map (kind_of value)) last code m value items behind next follows s one) (λ three.
    chosen_stands code next (code == data_code || code == value_code) _ _ (λ one. body_stands last code value m (length value + behind) next follows s one) (λ four.
    chosen_stands code next (code == sequence_code) (Err (length value + behind)) (Ok m) (λ one. absurd (never_some next one)) (λ five.
    (let is = same_some m next five in stands_same last code m next follows s (ap (λ (n : Message). n.props) (sym is)) (ap (λ (n : Message). n.sys) (sym is)))) four) three) two) e

-- ---- messages

next_follows : (last : ℕ) (bytes : List ℕ) (x : ℕ × (List ℕ × List ℕ)) → next_at last bytes ≡ Some x → may_follow last x.0 ≡ true
unfolding next_at
next_follows last bytes x e =
    let a = then_some (section_at bytes) (if_next last) x e in
    let g = when_some (may_follow last a.0.0) a.0 x a.2 in
    ap (λ (z : ℕ × (List ℕ × List ℕ)). may_follow last z.0) (sym g.1) ∙ g.0

end_stands : (last : ℕ) (t : Bool) (m r : Message) → Stands last m → cond t (Some m) None ≡ some_message r → IsInOrder r
end_stands last true m r s e = subst IsInOrder (same_some m r e) s.order
end_stands last false m r s e = absurd (never_some r e)

from_stands : (n last : ℕ) (bytes : List ℕ) (m r : Message) → Stands last m → message_from n last bytes m ≡ some_message r → IsInOrder r
unfolding message_from
from_stands zero last bytes m r s e = end_stands last _ m r s e
from_stands (suc n) last bytes m r s e = by_next (next_at last bytes) refl e (λ code rest next t f. from_stands n code rest next r t f) where
  by_next : (o : Option (ℕ × (List ℕ × List ℕ))) → next_at last bytes ≡ o → onwards o (at_end last bytes m) (λ x. option_and_then (λ next. message_from n x.0 x.1.1 next) (said_by x m)) ≡ some_message r
      → ((code : ℕ) (rest : List ℕ) (next : Message) → Stands code next → message_from n code rest next ≡ some_message r → IsInOrder r) → IsInOrder r
  by_next None is e ih = end_stands last _ m r s e
  by_next (Some x) is e ih =
      let a = then_some (said_by x m) (λ next. message_from n x.0 x.1.1 next) r e in
      ih x.0 x.1.1 a.0 (section_stands last x.0 x.1.0 (items_in (has_used_items x.0 (kind_of x.1.0)) x.1.0) m (length x.1.1) a.0 (next_follows last bytes x is) s a.1) a.2

pub read_in_order : (bytes : List ℕ) (m : Message) → message_in bytes ≡ Some m → IsInOrder m
unfolding message_in
read_in_order bytes m e = from_stands (length bytes) before_all bytes no_message m (record { order = record { props = tt; sys = tt; set = refl }; clear = λ _. refl }) e

pub found_in_order : (bytes : List ℕ) (answer : Result Message AmqpFault) → IsFound answer (message_in bytes) → IfOk answer IsInOrder
found_in_order bytes (Ok m) found = read_in_order bytes m found
found_in_order bytes (Err fault) found = tt
