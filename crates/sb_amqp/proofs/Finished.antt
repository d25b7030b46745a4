-- What is written is read back.
use Rattle.std.proofs.Common.{◌≡◌, ℕ, suc, ◌+◌, ◌*◌, ◌%◌, ◌<◌, ◌≤◌, ◌^◌, Bool, true, false, cond, List, [], ◌∷◌, ◌++◌, length, Option, Some, None, Result, Ok, refl, sym, ap, subst, ◌∙◌, append_assoc, arith}
use Rattle.std.specs.Prelude.{◌||◌, ◌==◌, IfSome, nat_le, nat_lt}
use Rattle.std.specs.List.{flat_map, list_all, sum_by}
use Rattle.std.proofs.lemmas.Bool.{eq-eqb, eqb-true, ltb-false, le-leb}
use Rattle.sb_model.specs.Effects.{property_bytes, property_size}
use Rattle.sb_model.specs.Orders.{AreRising, code_before, name_before, is_set}
use Rattle.sb_model.specs.declared.message.Message.{Message}
use Rattle.sb_model.specs.declared.message.Property.{Property}
use Rattle.sb_model.specs.declared.message.SystemText.{SystemText}
use Rattle.sb_amqp.specs.Laws.{AreTexts, AreFolded, ReadsBack}
use Rattle.sb_amqp.specs.Meaning.{items_say, no_message, section_says}
use Rattle.sb_amqp.specs.Reads.{Reads}
use Rattle.sb_amqp.specs.Sections.{Section, IsSection, HasItems, before_all}
use Rattle.sb_amqp.specs.Values.{joined, kind_of}
use Rattle.sb_amqp.specs.Written.{header, annotations, properties, application, data_section, section, written, entry, fields, last_field, list, map_of, max_header_ttl, null, uint}
use Rattle.sb_amqp.proofs.Entries.{props_say, entries_fit, Entries}
use Rattle.sb_amqp.proofs.FieldsBack.{AreShort, short_texts, fields_fit, Fields, fields_say, last_within}
use Rattle.sb_amqp.proofs.Parts.{annotation_part, annotation_makes, data_part, data_makes, header_part, header_makes, list_is, list_has, map_is, map_has}
use Rattle.sb_amqp.proofs.Tails.{Tail, TailBelow, Makes, tail_on, tail_end, tail_less}
use Rattle.sb_amqp.proofs.Texted.{below, below_first, below_last}

abbrev said_ok : Message → Result Message ℕ
said_ok m = Ok m

-- ---- the properties

abbrev fields_part : List SystemText → Section
fields_part sys = record { code = 115; is_small = true; value = list (last_field sys) (joined (fields sys 1 (last_field sys))); items = fields sys 1 (last_field sys) }

fields_has : (sys : List SystemText) → Fields 65536 (last_field sys) (fields sys 1 (last_field sys)) → HasItems (list (last_field sys) (joined (fields sys 1 (last_field sys)))) (fields sys 1 (last_field sys))
fields_has sys fit =
    let values : List (List ℕ) = fields sys 1 (last_field sys) in
    subst (λ n. HasItems (list n (joined values)) values) fit.many (list_has values fit.are (omega (arith, fit.many, last_within sys)))

fields_is : (sys : List SystemText) → Fields 65536 (last_field sys) (fields sys 1 (last_field sys)) → IsSection (fields_part sys)
unfolding kind_of
fields_is sys fit = record {
  code = omega arith;
  value = list_is (last_field sys) (joined (fields sys 1 (last_field sys))) (below_limit (last_field sys) (length (joined (fields sys 1 (last_field sys)))) (last_within sys) fit.len);
  items = (fields_has sys fit, refl);
} where
  below_limit : (count len : ℕ) → count ≤ 13 → len ≤ count * (5 + 65536) → 4 + len < 2 ^ 32
  below_limit count len le fits = omega (arith, le, fits)

fields_said : (sys : List SystemText) (m : Message) (behind : ℕ) → items_say 115 0 [] m (fields sys 1 (last_field sys)) behind ≡ said_ok (record m { sys = sys })
    → section_says 115 (list (last_field sys) (joined (fields sys 1 (last_field sys)))) (fields sys 1 (last_field sys)) m behind ≡ said_ok (record m { sys = sys })
unfolding kind_of
fields_said sys m behind says = says

fields_makes : (sys : List SystemText) (m : Message) → AreRising code_before sys → list_all is_set sys ≡ true → AreTexts sys → AreShort 65536 sys → m.sys ≡ [] → Makes (fields_part sys) m (record m { sys = sys })
fields_makes sys m rising set texts short none = record {
  is = fields_is sys (fields_fit 65536 sys 1 (last_field sys) short (omega arith));
  said = λ behind. said behind;
} where
  end : 0 + 1 + last_field sys ≡ suc (last_field sys)
  end = omega arith

  all : below (0 + 1 + last_field sys) sys ≡ sys
  all = ap (λ n. below n sys) end ∙ below_last (last_field sys) sys (omega arith)

  said : (behind : ℕ) → section_says 115 (list (last_field sys) (joined (fields sys 1 (last_field sys)))) (fields sys 1 (last_field sys)) m behind ≡ said_ok (record m { sys = sys })
  said behind = fields_said sys m behind (fields_say sys (last_field sys) 0 [] m behind rising set texts (none ∙ sym (below_first sys)) ∙ ap (λ (xs : List SystemText). said_ok (record m { sys = xs })) all)

properties_tail : (sys : List SystemText) (m final : Message) (bytes : List ℕ) → AreRising code_before sys → list_all is_set sys ≡ true → AreTexts sys → AreShort 65536 sys → m.sys ≡ []
    → TailBelow 116 (record m { sys = sys }) final bytes → TailBelow 115 m final (properties sys ++ bytes)
properties_tail sys m final bytes rising set texts short none tail = by_test (last_field sys == 0) refl where
  gone : last_field sys ≡ 0 → m.sys ≡ sys
  gone e = none ∙ sym (below_first sys) ∙ below_last 0 sys (omega (arith, e))

  by_test : (b : Bool) → (last_field sys == 0) ≡ b → TailBelow 115 m final (cond b [] (section 115 (list (last_field sys) (joined (fields sys 1 (last_field sys))))) ++ bytes)
  by_test true e = tail_less 115 116 m final bytes (omega arith) (subst (λ (xs : List SystemText). TailBelow 116 (record m { sys = xs }) final bytes) (sym (gone (eqb-true _ _ e))) tail)
  by_test false e = tail_on (fields_part sys) m (record m { sys = sys }) final bytes (fields_makes sys m rising set texts short none) (omega arith) (tail 115 (omega arith))

-- ---- application properties

abbrev entries_part : List Property → Section
entries_part ps = record { code = 116; is_small = true; value = map_of (length ps + length ps) (joined (flat_map entry ps)); items = flat_map entry ps }

entries_is : (ps : List Property) → Entries ps → sum_by property_size ps ≤ 65536 → length ps ≤ 256 → IsSection (entries_part ps)
unfolding kind_of
entries_is ps fit size few = record {
  code = omega arith;
  value = map_is (length ps + length ps) (joined (flat_map entry ps)) (omega (arith, fit.len, size, few));
  items = (
    subst (λ n. HasItems (map_of n (joined (flat_map entry ps))) (flat_map entry ps)) fit.count (map_has (flat_map entry ps) fit.are (omega (arith, fit.count, few))),
    eq-eqb _ _ (even (length (flat_map entry ps)) (length ps) fit.count),
  );
} where
  even : (n k : ℕ) → n ≡ k + k → n % 2 ≡ 0
  even n k e = omega (arith, e)

entries_said : (ps : List Property) (m : Message) (behind : ℕ) → items_say 116 0 [] m (flat_map entry ps) behind ≡ said_ok (record m { props = ps })
    → section_says 116 (map_of (length ps + length ps) (joined (flat_map entry ps))) (flat_map entry ps) m behind ≡ said_ok (record m { props = ps })
unfolding kind_of
entries_said ps m behind says = says

entries_makes : (ps : List Property) (m : Message) → AreRising name_before ps → AreFolded ps → sum_by property_size ps ≤ 65536 → length ps ≤ 256 → m.props ≡ [] → Makes (entries_part ps) m (record m { props = ps })
entries_makes ps m rising folded size few none = record {
  is = entries_is ps (entries_fit ps (omega (arith, size))) size few;
  said = λ behind. said behind;
} where
  said : (behind : ℕ) → section_says 116 (map_of (length ps + length ps) (joined (flat_map entry ps))) (flat_map entry ps) m behind ≡ said_ok (record m { props = ps })
  said behind = entries_said ps m behind (props_say [] ps 0 [] m behind refl none rising folded)

application_tail : (ps : List Property) (m final : Message) (bytes : List ℕ) → AreRising name_before ps → AreFolded ps → sum_by property_size ps ≤ 65536 → length ps ≤ 256 → m.props ≡ []
    → TailBelow 117 (record m { props = ps }) final bytes → TailBelow 116 m final (application ps ++ bytes)
application_tail ps m final bytes rising folded size few none tail = by_test (length ps == 0) refl where
  gone : (qs : List Property) → length qs ≡ 0 → [] ≡ qs
  gone [] e = refl
  gone (q ∷ qs) e = absurd (omega (arith, e))

  by_test : (b : Bool) → (length ps == 0) ≡ b → TailBelow 116 m final (cond b [] (section 116 (map_of (length ps + length ps) (joined (flat_map entry ps)))) ++ bytes)
  by_test true e = tail_less 116 117 m final bytes (omega arith) (subst (λ (xs : List Property). TailBelow 117 (record m { props = xs }) final bytes) (sym (none ∙ gone ps (eqb-true _ _ e))) tail)
  by_test false e = tail_on (entries_part ps) m (record m { props = ps }) final bytes (entries_makes ps m rising folded size few none) (omega arith) (tail 116 (omega arith))

-- ---- the schedule and the time to live

annotations_tail : (o : Option ℕ) (m final : Message) (bytes : List ℕ) → IfSome o (λ moment. moment < 2 ^ 63) → m.schedule ≡ None → TailBelow 115 (record m { schedule = o }) final bytes → TailBelow 114 m final (annotations o ++ bytes)
annotations_tail None m final bytes range none tail = tail_less 114 115 m final bytes (omega arith) (subst (λ (x : Option ℕ). TailBelow 115 (record m { schedule = x }) final bytes) (sym none) tail)
annotations_tail (Some moment) m final bytes range none tail = tail_on (annotation_part moment) m (record m { schedule = Some moment }) final bytes (annotation_makes moment m range) (omega arith) (tail 114 (omega arith))

header_tail : (o : Option ℕ) (m final : Message) (bytes : List ℕ) → IfSome o (λ ttl. (0 < ttl) × (ttl ≤ max_header_ttl)) → m.ttl ≡ None → TailBelow 114 (record m { ttl = o }) final bytes → TailBelow 112 m final (header o ++ bytes)
header_tail None m final bytes range none tail = tail_less 112 114 m final bytes (omega arith) (subst (λ (x : Option ℕ). TailBelow 114 (record m { ttl = x }) final bytes) (sym none) tail)
header_tail (Some ttl) m final bytes range none tail = said (nat_le ttl max_header_ttl) (le-leb _ _ range.1) where
  said : (b : Bool) → b ≡ true → TailBelow 112 m final (cond b (section 112 (list 3 (null ++ null ++ uint (ttl * 1000)))) [] ++ bytes)
  said true e = tail_on (header_part ttl) m (record m { ttl = Some ttl }) final bytes (header_makes ttl m range.0 range.1) (omega arith) (tail 112 (omega arith))
  said false e = absurd cc

-- ---- the whole

neither : (a b : Bool) → (a || b) ≡ false → (a ≡ false) × (b ≡ false)
neither true b e = absurd cc
neither false b e = (refl, e)

regroup : (a b c d e : List ℕ) → a ++ b ++ c ++ d ++ e ≡ a ++ (b ++ (c ++ (d ++ e)))
regroup a b c d e = append_assoc (a ++ b ++ c) d e ∙ append_assoc (a ++ b) c (d ++ e) ∙ append_assoc a b (c ++ (d ++ e))

all_of : (m : Message) → Tail before_all no_message m (header m.ttl ++ (annotations m.schedule ++ (properties m.sys ++ (application m.props ++ data_section m.body)))) → Reads (written m) m
unfolding written
all_of m tail = record { sections = tail.sections; spelled = record { text = regroup (header m.ttl) (annotations m.schedule) (properties m.sys) (application m.props) (data_section m.body) ∙ tail.text; order = tail.order; whole = tail.whole }; said = tail.said }

pub written_reads : ReadsBack
written_reads m w =
    let limits = neither (nat_lt 65536 (property_bytes m)) (nat_lt 256 (length m.props)) w.sizes in
    let bytes : property_bytes m ≤ 65536 = ltb-false _ _ limits.0 in
    let few : length m.props ≤ 256 = ltb-false _ _ limits.1 in
    let size : sum_by property_size m.props ≤ 65536 = omega (arith, bytes) in
    let short : AreShort 65536 m.sys = short_texts 65536 m.sys (omega (arith, bytes)) in
    let unbodied : Message = record m { body = [] } in
    let unlisted : Message = record unbodied { props = [] } in
    let untitled : Message = record unlisted { sys = [] } in
    let unscheduled : Message = record untitled { schedule = None } in
    let with_body : TailBelow 117 unbodied m (data_section m.body) = tail_end (data_part m.body) unbodied m (data_makes m.body unbodied w.body refl) refl in
    let with_props = application_tail m.props unlisted m (data_section m.body) w.order.props w.props size few refl with_body in
    let with_sys = properties_tail m.sys untitled m (application m.props ++ data_section m.body) w.order.sys w.order.set w.texts short refl with_props in
    let with_schedule = annotations_tail m.schedule unscheduled m (properties m.sys ++ (application m.props ++ data_section m.body)) w.schedule refl with_sys in
    let whole = header_tail m.ttl no_message m (annotations m.schedule ++ (properties m.sys ++ (application m.props ++ data_section m.body))) w.ttl refl with_schedule in
    all_of m (whole before_all (omega arith))
