-- A rule's action leaves the texts of a message within their limits.
use Rattle.std.proofs.Common.{Bool, List, None, Ok, Err, Option, Some, [], false, length, refl, subst, true, ℕ, ◌==◌, ◌∷◌, ◌≡◌}
use Rattle.std.specs.Prelude.{Result, if◌then◌else◌, nat_lt, not}
use Rattle.std.specs.Str.{chars}
use Rattle.sb_laws.proofs.Consistency.{then_none}
use Rattle.sb_machine.specs.Each.{Each}
use Rattle.sb_machine.specs.Fields.{bad_in_texts}
use Rattle.sb_model.specs.Effects.{after_action, after_change, after_changes, if_small_enough, is_too_large, is_within, on_known, system_set, text_limit, text_set, with_system, with_user, without_system, without_user}
use Rattle.sb_model.specs.Expressions.{Change as Step, removing, setting}
use Rattle.sb_model.specs.Meaning.{and_then, value_of}
use Rattle.sb_model.specs.SystemNames.{system_code, system_name, system_named}
use Rattle.sb_model.specs.declared.evaluation.EvalFault.{EvalFault}
use Rattle.sb_model.specs.declared.evaluation.EvalFault.TheVariants.{BadSystemValue, TooLarge}
use Rattle.sb_model.specs.declared.expression.PropertyName.TheVariants.{User, System}
use Rattle.sb_model.specs.declared.message.Message.{Message}
use Rattle.sb_model.specs.declared.message.PropertyValue.{PropertyValue}
use Rattle.sb_model.specs.declared.message.PropertyValue.TheVariants.{Int, Text, Bool as Truth}
use Rattle.sb_model.specs.declared.message.SystemName.{SystemName}
use Rattle.sb_model.specs.declared.message.SystemName.TheVariants.{ContentType, CorrelationId, Label, MessageId, ReplyTo, ReplyToSessionId, SessionId, To}
use Rattle.sb_model.specs.declared.message.SystemText.{SystemText}
use Rattle.sb_laws.proofs.Eachs.{each_filter, each_inserted}

abbrev pub IsText : SystemText → Type 0
IsText s = is_within (text_limit s.name) (length (chars s.text)) ≡ true

pub texts_each : (xs : List SystemText) → bad_in_texts xs ≡ None → Each IsText xs
texts_each [] e = tt
texts_each (x ∷ xs) e = let parts = then_none (is_within (text_limit x.name) (length (chars x.text))) (system_name x.name) (bad_in_texts xs) e in (parts.0, texts_each xs parts.1)

pub each_texts : (xs : List SystemText) → Each IsText xs → bad_in_texts xs ≡ None
each_texts [] h = refl
each_texts (x ∷ xs) h = rw h.0 (each_texts xs h.1)

-- ---- actions

abbrev TextsFit : Message → Type 0
TextsFit m = Each IsText m.sys

set_fits : (name : SystemName) (text : List ℕ) (sys : List SystemText) → is_within (text_limit name) (length (chars text)) ≡ true → Each IsText sys → Each IsText (with_system name text sys)
set_fits name [] sys short h = each_filter IsText (λ s. not (system_code s.name == system_code name)) sys h
set_fits name (b ∷ bs) sys short h =
    each_inserted IsText (λ q. nat_lt (system_code q.name) (system_code name)) (record { name = name; text = b ∷ bs }) (without_system name sys) short (each_filter IsText (λ s. not (system_code s.name == system_code name)) sys h)

empty_within : (name : SystemName) → is_within (text_limit name) (length (chars [])) ≡ true
unfolding chars
empty_within MessageId = refl
empty_within SessionId = refl
empty_within ReplyToSessionId = refl
empty_within Label = refl
empty_within CorrelationId = refl
empty_within To = refl
empty_within ReplyTo = refl
empty_within ContentType = refl

text_set_fits : (name : SystemName) (x : Option PropertyValue) (text : List ℕ) → text_set name x ≡ Ok text → is_within (text_limit name) (length (chars text)) ≡ true
text_set_fits name None text e = subst (λ (t : List ℕ). is_within (text_limit name) (length (chars t)) ≡ true) (ok_is [] text e) (empty_within name) where
  ok_is : (a b : List ℕ) → ◌≡◌ {A = Result (List ℕ) EvalFault} (Ok a) (Ok b) → a ≡ b
  ok_is a b same = cc
text_set_fits name (Some (Text own)) text e = at (is_within (text_limit name) (length (chars own))) refl e where
  at : (b : Bool) → is_within (text_limit name) (length (chars own)) ≡ b → (if b then Ok own else Err BadSystemValue) ≡ Ok text → is_within (text_limit name) (length (chars text)) ≡ true
  at true is e = let same : own ≡ text = cc in subst (λ (t : List ℕ). is_within (text_limit name) (length (chars t)) ≡ true) same is
  at false is e = absurd cc
text_set_fits name (Some (Int n)) text e = absurd cc
text_set_fits name (Some (Truth b)) text e = absurd cc

system_set_fits : (m n : Message) (name : SystemName) (x : Result (Option PropertyValue) EvalFault) → and_then x (λ y. and_then (text_set name y) (λ text. Ok (record m { sys = with_system name text m.sys }))) ≡ Ok n → TextsFit m → TextsFit n
system_set_fits m n name (Err fault) e h = absurd cc
system_set_fits m n name (Ok y) e h = at (text_set name y) refl e where
  at : (r : Result (List ℕ) EvalFault) → text_set name y ≡ r → and_then r (λ text. Ok (record m { sys = with_system name text m.sys })) ≡ Ok n → TextsFit n
  at (Err fault) is e = absurd cc
  at (Ok text) is e = let same : record m { sys = with_system name text m.sys } ≡ n = cc in subst TextsFit same (set_fits name text m.sys (text_set_fits name y text is) h)

user_set_fits : (m n : Message) (name : List ℕ) (x : Result (Option PropertyValue) EvalFault) → and_then x (λ y. Ok (record m { props = with_user name y m.props })) ≡ Ok n → TextsFit m → TextsFit n
user_set_fits m n name (Err fault) e h = absurd cc
user_set_fits m n name (Ok y) e h = let same : record m { props = with_user name y m.props } ≡ n = cc in subst TextsFit same h

change_fits : (m n : Message) (c : Step) → after_change m c ≡ Ok n → TextsFit m → TextsFit n
change_fits m n (setting (User name) t) e h = user_set_fits m n name (value_of m t) e h
change_fits m n (setting (System text) t) e h = at (system_named text) e where
  at : (o : Option SystemName) → on_known o (λ name. system_set m name t) ≡ Ok n → TextsFit n
  at None e = absurd cc
  at (Some name) e = system_set_fits m n name (value_of m t) e h
change_fits m n (removing (User name)) e h = let same : record m { props = without_user name m.props } ≡ n = cc in subst TextsFit same h
change_fits m n (removing (System text)) e h = at (system_named text) e where
  at : (o : Option SystemName) → on_known o (λ name. Ok (record m { sys = without_system name m.sys })) ≡ Ok n → TextsFit n
  at None e = absurd cc
  at (Some name) e = let same : record m { sys = without_system name m.sys } ≡ n = cc in subst TextsFit same (each_filter IsText (λ s. not (system_code s.name == system_code name)) m.sys h)

changes_fit : (m n : Message) (cs : List Step) → after_changes m cs ≡ Ok n → TextsFit m → TextsFit n
changes_fit m n [] e h = let same : m ≡ n = cc in subst TextsFit same h
changes_fit m n (c ∷ cs) e h = at (after_change m c) refl e (λ next. changes_fit next n cs) where
  at : (r : Result Message EvalFault) → after_change m c ≡ r → and_then r (λ next. after_changes next cs) ≡ Ok n → ((next : Message) → after_changes next cs ≡ Ok n → TextsFit next → TextsFit n) → TextsFit n
  at (Err fault) is e rest = absurd cc
  at (Ok next) is e rest = rest next e (change_fits m next c is h)

pub action_texts : (m n : Message) (cs : List Step) → after_action m cs ≡ Ok n → TextsFit m → TextsFit n
action_texts m n cs e h = at (after_changes m cs) refl e where
  small : (b : Bool) (x : Message) → TextsFit x → (if b then Err TooLarge else Ok x) ≡ Ok n → TextsFit n
  small true x fits e = absurd cc
  small false x fits e = let same : x ≡ n = cc in subst TextsFit same fits

  at : (r : Result Message EvalFault) → after_changes m cs ≡ r → and_then r if_small_enough ≡ Ok n → TextsFit n
  at (Err fault) is e = absurd cc
  at (Ok next) is e = small (is_too_large next) next (changes_fit m next cs is h) e
