-- The properties that are written are read back.
use Rattle.std.proofs.Common.{◌≡◌, ℕ, zero, suc, ◌+◌, ◌*◌, ◌<◌, ◌≤◌, ◌^◌, Bool, true, false, cond, List, [], ◌∷◌, length, Option, Some, None, Result, Ok, refl, sym, ap, subst, ◌∙◌, arith}
use Rattle.std.specs.Prelude.{◌&&◌, find, nat_lt, option_map}
use Rattle.std.specs.List.{list_all, sum_by}
use Rattle.std.specs.Str.{is_utf8}
use Rattle.std.proofs.lemmas.Bool.{eqb-true}
use Rattle.std.proofs.lemmas.List.Sums.{sum_by-cons}
use Rattle.std.proofs.lemmas.List.{length-append}
use Rattle.sb_model.specs.Effects.{with_text_more, text_size}
use Rattle.sb_model.specs.Orders.{AreRising, code_before, is_set}
use Rattle.sb_model.specs.declared.message.Message.{Message}
use Rattle.sb_model.specs.declared.message.SystemName.{SystemName}
use Rattle.sb_model.specs.declared.message.SystemName.TheVariants.{MessageId, Label, CorrelationId, SessionId, To, ReplyTo, ReplyToSessionId, ContentType}
use Rattle.sb_model.specs.declared.message.SystemText.{SystemText}
use Rattle.sb_amqp.specs.Fields.{field_number, field_name, is_symbol}
use Rattle.sb_amqp.specs.Laws.{AreTexts}
use Rattle.sb_amqp.specs.Meaning.{items_say, named_item, text_from, with_item, with_text}
use Rattle.sb_amqp.specs.Values.{AreValues, IsValue, joined, max_nesting, kind_of, content_of, extent_of}
use Rattle.sb_amqp.specs.Written.{field, fields, last_field, null, string, symbol, text_value}
use Rattle.sb_amqp.proofs.Texted.{below, below_same, has_name, no_name, no_text, none_found, none_named, number_of, one_code, placed_more, text_found}

abbrev bytes_found : List ℕ → Option (List ℕ)
bytes_found bytes = Some bytes

abbrev message_found : Message → Option Message
message_found m = Some m

abbrev written_text : SystemName → List ℕ → List ℕ
written_text name text = cond (is_symbol name) (symbol text) (string text)

text_back : (name : SystemName) (text : List ℕ) → is_utf8 text ≡ true → text_from name (kind_of (written_text name text)) (content_of (written_text name text)) ≡ bytes_found text
unfolding kind_of content_of extent_of
text_back MessageId text e = rw e refl
text_back Label text e = rw e refl
text_back CorrelationId text e = rw e refl
text_back SessionId text e = rw e refl
text_back To text e = rw e refl
text_back ReplyTo text e = rw e refl
text_back ReplyToSessionId text e = rw e refl
text_back ContentType text e = rw e refl

null_back : (name : SystemName) → text_from name (kind_of null) (content_of null) ≡ bytes_found []
unfolding kind_of content_of extent_of
null_back name = refl

set_text : (name : SystemName) (text : List ℕ) (sys : List SystemText) → nat_lt 0 (length text) ≡ true → with_text name text sys ≡ with_text_more (record { name = name; text = text }) sys
set_text name [] sys e = absurd cc
set_text name (b ∷ text) sys e = refl

both : (a b : Bool) → (a && b) ≡ true → (a ≡ true) × (b ≡ true)
both true b e = (refl, e)
both false b e = absurd cc

-- what holds of each text holds of the one that is found
record Good (name : SystemName) (s : SystemText) : Type 0 where
  pub named : s.name ≡ name
  pub set : is_set s ≡ true
  pub text : is_utf8 s.text ≡ true

good_found : (name : SystemName) (sys : List SystemText) (s : SystemText) → list_all is_set sys ≡ true → AreTexts sys → find (has_name name) sys ≡ text_found s → Good name s
good_found name [] s set texts e = absurd cc
good_found name (q ∷ sys) s set texts e = by_test (has_name name q) refl e (good_found name sys s (both (is_set q) (list_all is_set sys) set).1 texts.1) where
  same : (a b : SystemText) → text_found a ≡ text_found b → a ≡ b
  same a b e = cc

  by_test : (b : Bool) → has_name name q ≡ b → cond b (text_found q) (find (has_name name) sys) ≡ text_found s → (find (has_name name) sys ≡ text_found s → Good name s) → Good name s
  by_test true is e ih = subst (Good name) (same q s e) (record { named = one_code q.name name (eqb-true _ _ is); set = (both (is_set q) (list_all is_set sys) set).0; text = texts.0 })
  by_test false is e ih = ih e

abbrev Keeps : List SystemText → ℕ → Message → Option SystemName → Type 0
Keeps sys k m o = named_item o (field sys o) m ≡ message_found (record m { sys = below (suc k) sys })

kept_none : (sys : List SystemText) (k : ℕ) (m : Message) → m.sys ≡ below k sys → field_name k ≡ no_name → Keeps sys k m None
kept_none sys k m is e = ap (λ (xs : List SystemText). message_found (record m { sys = xs })) (is ∙ sym (below_same k sys (none_named k e sys)))

abbrev KeepsText : List SystemText → SystemName → Message → Option SystemText → Type 0
KeepsText sys name m o = named_item (Some name) (text_value name o) m ≡ message_found (record m { sys = below (suc (field_number name)) sys })

kept_null : (sys : List SystemText) (name : SystemName) (m : Message) → m.sys ≡ below (field_number name) sys → find (has_name name) sys ≡ no_text → KeepsText sys name m None
kept_null sys name m is e =
    ap (option_map (λ (text : List ℕ). record m { sys = with_text name text m.sys })) (null_back name)
    ∙ ap (λ (xs : List SystemText). message_found (record m { sys = xs })) (is ∙ sym (below_same (field_number name) sys (none_found name sys e)))

kept_text : (sys : List SystemText) (name : SystemName) (m : Message) (s : SystemText) → AreRising code_before sys → m.sys ≡ below (field_number name) sys → Good name s → find (has_name name) sys ≡ text_found s → KeepsText sys name m (Some s)
kept_text sys name m s rising is good e =
    let same : with_text_more (record { name = name; text = s.text }) (below (field_number name) sys) ≡ with_text_more s (below (field_number name) sys) =
    ap (λ (n : SystemName). with_text_more (record { name = n; text = s.text }) (below (field_number name) sys)) (sym good.named) in
    ap (option_map (λ (text : List ℕ). record m { sys = with_text name text m.sys })) (text_back name s.text good.text)
    ∙ ap (λ (xs : List SystemText). message_found (record m { sys = xs })) (set_text name s.text m.sys good.set ∙ ap (with_text_more (record { name = name; text = s.text })) is ∙ same ∙ placed_more sys name s rising e)

kept : (sys : List SystemText) (k : ℕ) (m : Message) → AreRising code_before sys → list_all is_set sys ≡ true → AreTexts sys → m.sys ≡ below k sys → Keeps sys k m (field_name k)
kept sys k m rising set texts is = by_name (field_name k) refl where
  by_text : (name : SystemName) → m.sys ≡ below (field_number name) sys → (o : Option SystemText) → find (has_name name) sys ≡ o → KeepsText sys name m o
  by_text name is None e = kept_null sys name m is e
  by_text name is (Some s) e = kept_text sys name m s rising is (good_found name sys s set texts e) e

  by_name : (o : Option SystemName) → field_name k ≡ o → Keeps sys k m o
  by_name None e = kept_none sys k m is e
  by_name (Some name) e =
      let at : field_number name ≡ k = number_of k name e in
      subst (λ n. named_item (Some name) (field sys (Some name)) m ≡ message_found (record m { sys = below (suc n) sys })) at (by_text name (is ∙ ap (λ n. below n sys) (sym at)) (find (has_name name) sys) refl)

abbrev said_ok : Message → Result Message ℕ
said_ok m = Ok m

field_item : (index : ℕ) (before value : List ℕ) (m : Message) → with_item 115 index before value m ≡ named_item (field_name (index + 1)) value m
unfolding with_item
field_item index before value m = refl

pub fields_say : (sys : List SystemText) (left index : ℕ) (before : List ℕ) (m : Message) (behind : ℕ) → AreRising code_before sys → list_all is_set sys ≡ true → AreTexts sys → m.sys ≡ below (index + 1) sys
    → items_say 115 index before m (fields sys (index + 1) left) behind ≡ said_ok (record m { sys = below (index + 1 + left) sys })
fields_say sys zero index before m behind rising set texts is = ap (λ (xs : List SystemText). said_ok (record m { sys = xs })) (is ∙ ap (λ n. below n sys) (omega arith))
fields_say sys (suc left) index before m behind rising set texts is =
    let value : List ℕ = field sys (field_name (index + 1)) in
    let next : Message = record m { sys = below (suc (index + 1)) sys } in
    let step : with_item 115 index before value m ≡ message_found next = field_item index before value m ∙ kept sys (index + 1) m rising set texts is in
    let on : suc (index + 1) ≡ suc index + 1 = omega arith in
    let end : suc index + 1 + left ≡ index + 1 + suc left = omega arith in
    rw step (ap (λ n. items_say 115 (suc index) value next (fields sys n left) behind) on)
    ∙ fields_say sys left (suc index) value next behind rising set texts (ap (λ n. below n sys) on)
    ∙ ap (λ n. said_ok (record m { sys = below n sys })) end

-- ---- sizes

pub record AreShort (most : ℕ) (sys : List SystemText) : Type 0 where
  pub short : (name : SystemName) (s : SystemText) → find (has_name name) sys ≡ text_found s → length s.text ≤ most

pub short_texts : (most : ℕ) (sys : List SystemText) → sum_by text_size sys ≤ most → AreShort most sys
short_texts most [] le = record { short = λ name s e. absurd (never s e) } where
  never : (s : SystemText) → no_text ≡ text_found s → ⊥
  never s e = absurd cc
short_texts most (q ∷ sys) le =
    let sum : sum_by text_size (q ∷ sys) ≡ length q.text + sum_by text_size sys = sum_by-cons text_size q sys in
    let all : length q.text + sum_by text_size sys ≤ most = omega (arith, le, sum) in
    let own : length q.text ≤ most = omega (arith, all) in
    record { short = λ name s e. by_test name s own (has_name name q) e ((short_texts most sys (omega (arith, all))).short name s) } where
      same : (a b : SystemText) → text_found a ≡ text_found b → a ≡ b
      same a b e = cc

      by_test : (name : SystemName) (s : SystemText) → length q.text ≤ most → (b : Bool) → cond b (text_found q) (find (has_name name) sys) ≡ text_found s → (find (has_name name) sys ≡ text_found s → length s.text ≤ most) → length s.text ≤ most
      by_test name s own true e ih = subst (λ (z : SystemText). length z.text ≤ most) (same q s e) own
      by_test name s own false e ih = ih e

record Fit (most : ℕ) (value : List ℕ) : Type 0 where
  pub is : IsValue max_nesting value
  pub len : length value ≤ 5 + most

text_fit : (most : ℕ) (name : SystemName) (text : List ℕ) → length text ≤ most → most < 2 ^ 31 → Fit most (written_text name text)
unfolding extent_of
text_fit most name text le lt = by_form (is_symbol name) where
  by_form : (b : Bool) → Fit most (cond b (symbol text) (string text))
  by_form true = record { is = (text, omega (arith, le, lt), refl); len = omega (arith, le) }
  by_form false = record { is = (text, omega (arith, le, lt), refl); len = omega (arith, le) }

null_fit : (most : ℕ) → Fit most null
unfolding extent_of
null_fit most = record { is = refl; len = omega arith }

field_fit : (most : ℕ) (sys : List SystemText) (o : Option SystemName) → AreShort most sys → most < 2 ^ 31 → Fit most (field sys o)
field_fit most sys None short lt = null_fit most
field_fit most sys (Some name) short lt = by_text (find (has_name name) sys) refl where
  by_text : (o : Option SystemText) → find (has_name name) sys ≡ o → Fit most (text_value name o)
  by_text None e = null_fit most
  by_text (Some s) e = text_fit most name s.text (short.short name s e) lt

pub record Fields (most count : ℕ) (values : List (List ℕ)) : Type 0 where
  pub are : AreValues values
  pub many : length values ≡ count
  pub len : length (joined values) ≤ count * (5 + most)

pub fields_fit : (most : ℕ) (sys : List SystemText) (number left : ℕ) → AreShort most sys → most < 2 ^ 31 → Fields most left (fields sys number left)
fields_fit most sys number zero short lt = record { are = tt; many = refl; len = omega arith }
fields_fit most sys number (suc left) short lt =
    let one = field_fit most sys (field_name number) short lt in
    let others = fields_fit most sys (suc number) left short lt in
    record {
      are = (one.is, others.are);
      many = ap suc others.many;
      len = omega (arith, one.len, others.len, length-append (field sys (field_name number)) (joined (fields sys (suc number) left)));
    }

pub last_within : (sys : List SystemText) → last_field sys ≤ 13
last_within [] = omega arith
last_within (s ∷ sys) = omega (arith, number_within s.name, last_within sys) where
  number_within : (name : SystemName) → field_number name ≤ 13
  number_within MessageId = omega arith
  number_within Label = omega arith
  number_within CorrelationId = omega arith
  number_within SessionId = omega arith
  number_within To = omega arith
  number_within ReplyTo = omega arith
  number_within ReplyToSessionId = omega arith
  number_within ContentType = omega arith
