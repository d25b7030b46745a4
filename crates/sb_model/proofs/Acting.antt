-- Actions change properties alone, and keep them in order.
use Rattle.std.proofs.Common.{◌≡◌, ℕ, Bool, true, false, List, [], ◌∷◌, Option, Some, None, refl, ◌∙◌, ap, subst, arith}
use Rattle.std.specs.Prelude.{not, ◌==◌, bytes_eq, Result, Ok, Err}
use Rattle.std.specs.List.{list_all}
use Rattle.std.specs.Ordering.{nat_cmp, is_lt, is_eq, ordering_reverse}
use Rattle.std.specs.declared.cmp.Ordering.{Ordering}
use Rattle.std.specs.declared.cmp.Ordering.TheVariants.{Less, Equal, Greater}
use Rattle.std.specs.Cmp.Lexicographic.{slice_cmp}
use Rattle.std.proofs.lemmas.Cmp.{nat_list_cmp_total}
use Rattle.std.proofs.lemmas.Map.Text.{is_eq-slice_cmp}
use Rattle.std.proofs.lemmas.Bool.Decides.{nat_tests}
use Rattle.sb_model.specs.declared.message.Message.{Message}
use Rattle.sb_model.specs.declared.message.Property.{Property}
use Rattle.sb_model.specs.declared.message.PropertyValue.{PropertyValue}
use Rattle.sb_model.specs.declared.message.SystemName.{SystemName}
use Rattle.sb_model.specs.declared.message.SystemText.{SystemText}
use Rattle.sb_model.specs.declared.expression.PropertyName.TheVariants.{User, System}
use Rattle.sb_model.specs.declared.evaluation.EvalFault.{EvalFault}
use Rattle.sb_model.specs.Expressions.{Term, Change, setting, removing}
use Rattle.sb_model.specs.SystemNames.{system_code, system_named}
use Rattle.sb_model.specs.Meaning.{and_then, value_of}
use Rattle.sb_model.specs.Effects.{without_user, with_user, without_system, with_system, text_set, system_set, after_change, after_changes, after_action, if_small_enough, is_too_large, on_known}
use Rattle.sb_model.specs.Orders.{AreRising, name_before, code_before, is_set, IsChanged}
use Rattle.sb_model.proofs.Orders.{all_filter, all_pass, rising_filter, all_placed, rising_placed}

-- names in byte order
less_is : (o : Ordering) → is_lt o ≡ true → o ≡ Less
less_is Less e = refl
less_is Equal e = absurd cc
less_is Greater e = absurd cc

names_later : (p q r : Property) → name_before p q ≡ true → name_before q r ≡ true → name_before p r ≡ true
names_later p q r a b = ap is_lt (nat_list_cmp_total.trans p.name q.name r.name (less_is (slice_cmp nat_cmp p.name q.name) a) (less_is (slice_cmp nat_cmp q.name r.name) b))

names_other : (p q : Property) → name_before q p ≡ false → bytes_eq q.name p.name ≡ false → name_before p q ≡ true
names_other p q after differs = at (slice_cmp nat_cmp q.name p.name) after (is_eq-slice_cmp q.name p.name ∙ differs) (nat_list_cmp_total.antisymm p.name q.name) where
  at : (o : Ordering) → is_lt o ≡ false → is_eq o ≡ false → slice_cmp nat_cmp p.name q.name ≡ ordering_reverse o → name_before p q ≡ true
  at Less after differs e = absurd cc
  at Equal after differs e = absurd cc
  at Greater after differs e = ap is_lt e

-- system texts by code
codes_later : (s t u : SystemText) → code_before s t ≡ true → code_before t u ≡ true → code_before s u ≡ true
codes_later s t u a b = grind (arith, nat_tests)

codes_other : (s t : SystemText) → code_before t s ≡ false → system_code t.name == system_code s.name ≡ false → code_before s t ≡ true
codes_other s t after differs = grind (arith, nat_tests)

-- one property set or removed
props_set : (name : List ℕ) (x : Option PropertyValue) (props : List Property) → AreRising name_before props → AreRising name_before (with_user name x props)
props_set name None props rising = rising_filter name_before (λ p. not (bytes_eq p.name name)) props rising
props_set name (Some v) props rising =
    let p : Property = record { name = name; value = v } in
    rising_placed name_before p (λ q r. bytes_eq q.name r.name) (λ q r. names_later p q r) (λ q. names_other p q) (without_user name props) (all_pass (λ q. not (bytes_eq q.name name)) props) (rising_filter name_before (λ q. not (bytes_eq q.name name)) props rising)

sys_set : (name : SystemName) (text : List ℕ) (sys : List SystemText) → AreRising code_before sys → AreRising code_before (with_system name text sys)
sys_set name [] sys rising = rising_filter code_before (λ s. not (system_code s.name == system_code name)) sys rising
sys_set name (b ∷ bs) sys rising =
    let s : SystemText = record { name = name; text = b ∷ bs } in
    rising_placed code_before s (λ t u. system_code t.name == system_code u.name) (λ t u. codes_later s t u) (λ t. codes_other s t) (without_system name sys) (all_pass (λ t. not (system_code t.name == system_code name)) sys) (rising_filter code_before (λ t. not (system_code t.name == system_code name)) sys rising)

texts_set : (name : SystemName) (text : List ℕ) (sys : List SystemText) → list_all is_set sys ≡ true → list_all is_set (with_system name text sys) ≡ true
texts_set name [] sys all = all_filter is_set (λ s. not (system_code s.name == system_code name)) sys all
texts_set name (b ∷ bs) sys all =
    let s : SystemText = record { name = name; text = b ∷ bs } in
    let here : is_set s ≡ true = grind (arith, nat_tests) in
    all_placed code_before s is_set (without_system name sys) here (all_filter is_set (λ t. not (system_code t.name == system_code name)) sys all)

-- a message with other properties
user_changed : (m : Message) (name : List ℕ) (x : Option PropertyValue) → IsChanged m (record m { props = with_user name x m.props })
user_changed m name x = record {
  order = λ o. record { props = props_set name x m.props o.props; sys = o.sys; set = o.set };
  body = refl;
  ttl = refl;
  schedule = refl;
}

system_changed : (m : Message) (name : SystemName) (text : List ℕ) → IsChanged m (record m { sys = with_system name text m.sys })
system_changed m name text = record {
  order = λ o. record { props = o.props; sys = sys_set name text m.sys o.sys; set = texts_set name text m.sys o.set };
  body = refl;
  ttl = refl;
  schedule = refl;
}

unchanged : (m : Message) → IsChanged m m
unchanged m = record { order = λ o. o; body = refl; ttl = refl; schedule = refl }

changed_twice : (a b c : Message) → IsChanged a b → IsChanged b c → IsChanged a c
changed_twice a b c p q = record { order = λ o. q.order (p.order o); body = q.body ∙ p.body; ttl = q.ttl ∙ p.ttl; schedule = q.schedule ∙ p.schedule }

abbrev leaves : Message → Result Message EvalFault
leaves m = Ok m

left_is : (m a n : Message) → IsChanged m a → leaves a ≡ leaves n → IsChanged m n
left_is m a n changed e = let same : a ≡ n = cc in subst (IsChanged m) same changed

-- statements
by_user : (m n : Message) (name : List ℕ) (r : Result (Option PropertyValue) EvalFault) → and_then r (λ x. Ok (record m { props = with_user name x m.props })) ≡ Ok n → IsChanged m n
by_user m n name (Err fault) e = absurd cc
by_user m n name (Ok x) e = left_is m (record m { props = with_user name x m.props }) n (user_changed m name x) e

by_text : (m n : Message) (name : SystemName) (r : Result (List ℕ) EvalFault) → and_then r (λ text. Ok (record m { sys = with_system name text m.sys })) ≡ Ok n → IsChanged m n
by_text m n name (Err fault) e = absurd cc
by_text m n name (Ok text) e = left_is m (record m { sys = with_system name text m.sys }) n (system_changed m name text) e

by_value : (m n : Message) (name : SystemName) (r : Result (Option PropertyValue) EvalFault) → and_then r (λ x. and_then (text_set name x) (λ text. Ok (record m { sys = with_system name text m.sys }))) ≡ Ok n → IsChanged m n
by_value m n name (Err fault) e = absurd cc
by_value m n name (Ok x) e = by_text m n name (text_set name x) e

by_system : (m n : Message) (t : Term) (o : Option SystemName) → on_known o (λ name. system_set m name t) ≡ Ok n → IsChanged m n
by_system m n t None e = absurd cc
by_system m n t (Some name) e = by_value m n name (value_of m t) e

by_removal : (m n : Message) (o : Option SystemName) → on_known o (λ name. Ok (record m { sys = without_system name m.sys })) ≡ Ok n → IsChanged m n
by_removal m n None e = absurd cc
by_removal m n (Some name) e = left_is m (record m { sys = without_system name m.sys }) n (system_changed m name []) e

by_change : (m n : Message) (c : Change) → after_change m c ≡ Ok n → IsChanged m n
by_change m n (setting (User name) t) e = by_user m n name (value_of m t) e
by_change m n (setting (System text) t) e = by_system m n t (system_named text) e
by_change m n (removing (User name)) e = left_is m (record m { props = without_user name m.props }) n (user_changed m name None) e
by_change m n (removing (System text)) e = by_removal m n (system_named text) e

by_changes : (m n : Message) (cs : List Change) → after_changes m cs ≡ Ok n → IsChanged m n
by_changes m n [] e = left_is m m n (unchanged m) e
by_changes m n (c ∷ cs) e = at (after_change m c) refl e (λ next. by_changes next n cs) where
  at : (r : Result Message EvalFault) → after_change m c ≡ r → and_then r (λ next. after_changes next cs) ≡ Ok n → ((next : Message) → after_changes next cs ≡ Ok n → IsChanged next n) → IsChanged m n
  at (Err fault) is e ih = absurd cc
  at (Ok next) is e ih = changed_twice m next n (by_change m next c is) (ih next e)

small : (m n : Message) (b : Bool) → is_too_large m ≡ b → if_small_enough m ≡ Ok n → (m ≡ n) × (is_too_large m ≡ false)
small m n true is e = let fault = rw is at e in absurd cc
small m n false is e = let same : leaves m ≡ leaves n = rw is at e in (cc, is)

pub keeps_messages : (m n : Message) (cs : List Change) → after_action m cs ≡ Ok n → IsChanged m n × (is_too_large n ≡ false)
keeps_messages m n cs e = at (after_changes m cs) refl e where
  at : (r : Result Message EvalFault) → after_changes m cs ≡ r → and_then r if_small_enough ≡ Ok n → IsChanged m n × (is_too_large n ≡ false)
  at (Err fault) is e = absurd cc
  at (Ok left) is e =
      let last = small left n (is_too_large left) refl e in
      (subst (IsChanged m) last.0 (by_changes m left cs is), subst (λ k. is_too_large k ≡ false) last.0 last.1)
