-- Messages stay as a state may hold them, whatever becomes of them on their way.
use Rattle.std.proofs.Common.{Bool, List, None, Ok, Err, Option, Some, [], ap, arith, cond, false, filter, length, nat_le, refl, subst, suc, sym, true, zero, ℕ, ◌&&◌, ◌*◌, ◌+◌, ◌-◌, ◌∙◌, ◌∷◌, ◌≡◌, ◌≤◌, one-add}
use Rattle.std.specs.Prelude.{Result, bytes_eq, codes, nat_lt, not, sum_by}
use Rattle.std.specs.Str.{chars, chars_after, continuation_len, lead_bits}
use Rattle.std.specs.List.{list_all}
use Rattle.std.proofs.lemmas.Bool.Decides.{nat_tests}
use Rattle.std.proofs.lemmas.List.Sums.{sum_by-cons}
use Rattle.std.proofs.lemmas.Slice.Eq.{bytes_eq-Decides}
use Rattle.std.specs.Bool.{Decides}
use Rattle.std.specs.Prelude.{min, ◌<◌, ◌||◌}
use Rattle.sb_machine.specs.Each.{Each, IfSome, IsSorted}
use Rattle.sb_machine.specs.Fields.{bad_in_texts, is_between, is_between_or_none, max_ttl}
use Rattle.sb_machine.specs.Fit.{IsMessage, is_set_aside, without_own}
use Rattle.sb_machine.specs.Keyed.{with_sorted}
use Rattle.sb_machine.specs.Messages.{max_body}
use Rattle.sb_machine.specs.Names.{is_before, is_name_byte, is_rule_name, is_short_name}
use Rattle.sb_machine.specs.Reasons.{description_text, for_reason, marked, reason_text, with_reason}
use Rattle.sb_machine.specs.Selection.{acted_on, after_steps, changed_by, on_read}
use Rattle.sb_machine.specs.Visits.{cut_to, shorter}
use Rattle.sb_machine.specs.declared.reason.DeadReason.{DeadReason}
use Rattle.sb_machine.specs.declared.reason.DeadReason.TheVariants.{Expired, TooOften, TooManyHops, NoSession, RuleFailed, NoDestination}
use Rattle.sb_machine.specs.declared.rule.Rule.{Rule}
use Rattle.sb_machine.specs.declared.state.Listed.{Listed}
use Rattle.sb_model.proofs.Acting.{keeps_messages}
use Rattle.sb_model.specs.Effects.{after_action, is_too_large, max_property_bytes, max_user_properties, property_bytes, property_size, value_size, with_user, without_user}
use Rattle.sb_model.specs.Expressions.{Change as Step}
use Rattle.sb_model.specs.Orders.{AreRising, IsInOrder, is_set}
use Rattle.sb_model.specs.SystemNames.{system_code}
use Rattle.sb_model.specs.Texts.{action_in}
use Rattle.sb_model.specs.declared.evaluation.EvalFault.{EvalFault}
use Rattle.sb_model.specs.declared.message.Message.{Message}
use Rattle.sb_model.specs.declared.message.Property.{Property}
use Rattle.sb_model.specs.declared.message.PropertyValue.{PropertyValue}
use Rattle.sb_model.specs.declared.message.PropertyValue.TheVariants.{Text}
use Rattle.sb_model.specs.declared.message.SystemText.{SystemText}
use Rattle.sb_laws.proofs.Eachs.{each_filter, each_implied, each_inserted, each_passed, pairs_filter}
use Rattle.sb_laws.proofs.Sorting.{before_later, before_other, sorted_placed}
use Rattle.sb_laws.proofs.ActionTexts.{action_texts, each_texts, texts_each}

-- ---- texts: at most four bytes a character

continuation_few : (b : ℕ) → continuation_len b ≤ 3
continuation_few b = at (nat_lt b 128) (nat_lt b 224) (nat_lt b 240) where
  at : (x y z : Bool) → cond x 0 (cond y 1 (cond z 2 3)) ≤ 3
  at true y z = omega arith
  at false true z = omega arith
  at false false true = omega arith
  at false false false = omega arith

after_few : (n c : ℕ) (bs : List ℕ) → length bs ≤ 4 * length (chars_after n c bs) + n
after_few zero c [] = omega arith
after_few zero c (b ∷ bs) = let rest = after_few (continuation_len b) (lead_bits b) bs in let few = continuation_few b in omega (arith, rest, few)
after_few (suc n) c [] = omega arith
after_few (suc n) c (b ∷ bs) = let rest = after_few n (c * 64 + (b - 128)) bs in omega (arith, rest)

pub bytes_few : (t : List ℕ) → length t ≤ 4 * length (chars t) + 4
unfolding chars
bytes_few [] = omega arith
bytes_few (b ∷ bs) = let rest = after_few (continuation_len b) (lead_bits b) bs in let few = continuation_few b in omega (arith, rest, few)

-- ---- filters of a list with one more

pub both : (a b : Bool) → (a && b) ≡ true → (a ≡ true) × (b ≡ true)
both true b e = (refl, e)
both false b e = absurd cc

clash : (b : Bool) → b ≡ true → b ≡ false → ⊥
clash b on off = cc

turned : (b : Bool) → b ≡ true → not b ≡ false
turned true e = refl
turned false e = absurd cc

off : (b : Bool) → not b ≡ true → b ≡ false
off true e = absurd cc
off false e = refl

module _ {X : Type 0} where
  filter_within : (q r : X → Bool) → ((x : X) → q x ≡ true → r x ≡ true) → (xs : List X) → filter q (filter r xs) ≡ filter q xs
  filter_within q r more [] = refl
  filter_within q r more (x ∷ xs) = at (r x) (q x) refl refl (filter_within q r more xs) where
    at : (b d : Bool) → r x ≡ b → q x ≡ d → filter q (filter r xs) ≡ filter q xs → filter q (filter r (x ∷ xs)) ≡ filter q (x ∷ xs)
    at true true e f ih = rw (e, f) (ap (λ (ys : List X). x ∷ ys) ih)
    at true false e f ih = rw (e, f) ih
    at false true e f ih = absurd (clash (r x) (more x f) e)
    at false false e f ih = rw (e, f) ih

  filter_placed : (q before : X → Bool) (x : X) → q x ≡ false → (xs : List X) → filter q (with_sorted before x xs) ≡ filter q xs
  filter_placed q before x none [] = rw none refl
  filter_placed q before x none (y ∷ ys) = at (before y) refl (filter_placed q before x none ys) where
    behind : (b : Bool) → q y ≡ b → filter q (with_sorted before x ys) ≡ filter q ys → filter q (y ∷ with_sorted before x ys) ≡ filter q (y ∷ ys)
    behind true e ih = rw e (ap (λ (zs : List X). y ∷ zs) ih)
    behind false e ih = rw e ih

    at : (b : Bool) → before y ≡ b → filter q (with_sorted before x ys) ≡ filter q ys → filter q (with_sorted before x (y ∷ ys)) ≡ filter q (y ∷ ys)
    at true is ih = rw (is, one-add) (behind (q y) refl ih)
    at false is ih = rw (is, none) refl

  filter_fewer : (q : X → Bool) (xs : List X) → length (filter q xs) ≤ length xs
  filter_fewer q [] = omega arith
  filter_fewer q (x ∷ xs) = at (q x) refl (filter_fewer q xs) where
    at : (b : Bool) → q x ≡ b → length (filter q xs) ≤ length xs → length (filter q (x ∷ xs)) ≤ length (x ∷ xs)
    at true e ih = rw e (omega (arith, ih))
    at false e ih = rw e (omega (arith, ih))

  filter_less : (f : X → ℕ) (q : X → Bool) (xs : List X) → sum_by f (filter q xs) ≤ sum_by f xs
  filter_less f q [] = omega arith
  filter_less f q (x ∷ xs) = at (q x) refl (filter_less f q xs) where
    at : (b : Bool) → q x ≡ b → sum_by f (filter q xs) ≤ sum_by f xs → sum_by f (filter q (x ∷ xs)) ≤ sum_by f (x ∷ xs)
    at true e ih = rw e (omega (arith, ih, sum_by-cons f x (filter q xs), sum_by-cons f x xs))
    at false e ih = rw e (omega (arith, ih, sum_by-cons f x xs))

  each_below : (f : X → ℕ) (most : ℕ) (xs : List X) → sum_by f xs ≤ most → Each (λ x. f x ≤ most) xs
  each_below f most [] h = tt
  each_below f most (x ∷ xs) h = (omega (arith, h, sum_by-cons f x xs), each_below f most xs (omega (arith, h, sum_by-cons f x xs)))

-- ---- the properties that the service sets

abbrev is_other : Property → Bool
is_other p = not (is_set_aside p)

others_same : (name : List ℕ) (value : PropertyValue) (props : List Property) → is_set_aside (record { name = name; value = value }) ≡ true → filter is_other (with_user name (Some value) props) ≡ filter is_other props
others_same name value props aside =
    filter_placed is_other (λ q. is_before q.name name) (record { name = name; value = value }) (turned (is_set_aside (record { name = name; value = value })) aside) (without_user name props)
    ∙ filter_within is_other (λ q. not (bytes_eq q.name name)) named props where
      named : (q : Property) → is_other q ≡ true → not (bytes_eq q.name name) ≡ true
      named q other = at (bytes_eq q.name name) (bytes_eq-Decides q.name name) where
        at : (b : Bool) → Decides b (q.name ≡ name) → not b ≡ true
        at true decides = absurd (clash (is_set_aside q) (subst (λ (n : List ℕ). is_set_aside (record { name = n; value = q.value }) ≡ true) (sym (decides.0 refl)) aside) (off (is_set_aside q) other))
        at false decides = refl

-- one of them set
pub marked_fits : (name text : List ℕ) (m : Message) → is_set_aside (record { name = name; value = Text text }) ≡ true → length text ≤ max_property_bytes → IsMessage m → IsMessage (record m { props = with_user name (Some (Text text)) m.props })
marked_fits name text m aside short h = record {
  sys = h.sys;
  texts = h.texts;
  props = sorted_placed (λ a b. is_before a.name b.name) (λ a b. bytes_eq a.name b.name) (record { name = name; value = Text text }) (λ y z a b. before_later name y.name z.name a b) (λ y a b. before_other y.name name a b) (without_user name m.props)
      (each_implied (λ q. not (bytes_eq q.name name) ≡ true) (λ q. bytes_eq q.name name ≡ false) (λ q. off (bytes_eq q.name name)) (without_user name m.props) (each_passed (λ q. not (bytes_eq q.name name)) m.props))
      (pairs_filter (λ a b. is_before a.name b.name ≡ true) (λ q. not (bytes_eq q.name name)) m.props h.props);
  own = each_inserted (λ q. is_set_aside q ≡ true → value_size q.value ≤ max_property_bytes) (λ q. is_before q.name name) (record { name = name; value = Text text }) (without_user name m.props) (λ is. short)
      (each_filter (λ q. is_set_aside q ≡ true → value_size q.value ≤ max_property_bytes) (λ q. not (bytes_eq q.name name)) m.props h.own);
  fields = h.fields;
  many = subst (λ (ps : List Property). length ps ≤ max_user_properties) (sym (others_same name (Text text) m.props aside)) h.many;
  size = subst (λ (ps : List Property). property_bytes (record m { props = ps }) ≤ max_property_bytes) (sym (others_same name (Text text) m.props aside)) h.size;
  body = h.body;
  ttl = h.ttl;
}

pub reasons_fit : (reason description : Option (List ℕ)) (m : Message) → IfSome reason (λ text. length text ≤ max_property_bytes) → IfSome description (λ text. length text ≤ max_property_bytes) → IsMessage m → IsMessage (with_reason reason description m)
reasons_fit reason description m short few h = second description (marked (codes "deadletterreason") reason m) few (first reason short) where
  first : (o : Option (List ℕ)) → IfSome o (λ text. length text ≤ max_property_bytes) → IsMessage (marked (codes "deadletterreason") o m)
  first None short = h
  first (Some text) short = marked_fits (codes "deadletterreason") text m refl short h

  second : (o : Option (List ℕ)) (n : Message) → IfSome o (λ text. length text ≤ max_property_bytes) → IsMessage n → IsMessage (marked (codes "deadlettererrordescription") o n)
  second None n short h = h
  second (Some text) n short h = marked_fits (codes "deadlettererrordescription") text n refl short h

reason_short : (reason : DeadReason) → length (reason_text reason) ≤ max_property_bytes
reason_short Expired = omega arith
reason_short TooOften = omega arith
reason_short TooManyHops = omega arith
reason_short NoSession = omega arith
reason_short RuleFailed = omega arith
reason_short NoDestination = omega arith

description_short : (reason : DeadReason) → length (description_text reason) ≤ max_property_bytes
description_short Expired = omega arith
description_short TooOften = omega arith
description_short TooManyHops = omega arith
description_short NoSession = omega arith
description_short RuleFailed = omega arith
description_short NoDestination = omega arith

pub for_reason_fits : (reason : DeadReason) (m : Message) → IsMessage m → IsMessage (for_reason reason m)
for_reason_fits reason m h = reasons_fit (Some (reason_text reason)) (Some (description_text reason)) m (reason_short reason) (description_short reason) h

-- ---- orders, in either word

all_each : {X : Type 0} (p : X → Bool) (xs : List X) → list_all p xs ≡ true → Each (λ x. p x ≡ true) xs
all_each p [] all = tt
all_each p (x ∷ xs) all = let parts = both (p x) (list_all p xs) all in (parts.0, all_each p xs parts.1)

each_all : {X : Type 0} (p : X → Bool) (xs : List X) → Each (λ x. p x ≡ true) xs → list_all p xs ≡ true
each_all p [] h = refl
each_all p (x ∷ xs) h = rw h.0 (each_all p xs h.1)

rising_sorted : {X : Type 0} (before : X → X → Bool) (xs : List X) → AreRising before xs → IsSorted before xs
rising_sorted before [] h = tt
rising_sorted before (x ∷ xs) h = (all_each (before x) xs h.0, rising_sorted before xs h.1)

sorted_rising : {X : Type 0} (before : X → X → Bool) (xs : List X) → IsSorted before xs → AreRising before xs
sorted_rising before [] h = tt
sorted_rising before (x ∷ xs) h = (each_all (before x) xs h.0, sorted_rising before xs h.1)

text_there : (s : SystemText) → is_set s ≡ true → 0 < length s.text
text_there s e = grind (arith, nat_tests)

text_set_so : (s : SystemText) → 0 < length s.text → is_set s ≡ true
text_set_so s h = grind (arith, nat_tests)

pub in_order : (m : Message) → IsMessage m → IsInOrder m
in_order m h = record {
  props = sorted_rising (λ a b. is_before a.name b.name) m.props h.props;
  sys = sorted_rising (λ a b. nat_lt (system_code a.name) (system_code b.name)) m.sys h.sys;
  set = each_all is_set m.sys (each_implied (λ s. 0 < length s.text) (λ s. is_set s ≡ true) text_set_so m.sys h.texts);
}

-- ---- actions

within_sizes : (m : Message) → is_too_large m ≡ false → (property_bytes m ≤ max_property_bytes) × (length m.props ≤ max_user_properties)
within_sizes m e = (grind (arith, nat_tests), grind (arith, nat_tests))

-- what is small enough as a whole is so without what the service sets
pub small_fits : (m : Message) → property_bytes m ≤ max_property_bytes → length m.props ≤ max_user_properties
    → (property_bytes (without_own m) ≤ max_property_bytes) × (length (without_own m).props ≤ max_user_properties) × Each (λ p. is_set_aside p ≡ true → value_size p.value ≤ max_property_bytes) m.props
small_fits m small few =
    let less = filter_less property_size is_other m.props in
    let fewer = filter_fewer is_other m.props in (
      omega (arith, small, less),
      omega (arith, few, fewer),
      each_implied (λ p. property_size p ≤ max_property_bytes) (λ p. is_set_aside p ≡ true → value_size p.value ≤ max_property_bytes) (λ p le is. omega (arith, le)) m.props (each_below property_size max_property_bytes m.props (omega (arith, small))),
    )

-- a message in order, within the limits
pub fits_in_order : (m : Message) → IsInOrder m → bad_in_texts m.sys ≡ None → property_bytes m ≤ max_property_bytes → length m.props ≤ max_user_properties → length m.body ≤ max_body → is_between_or_none 1 max_ttl m.ttl ≡ true → IsMessage m
fits_in_order m order texts bytes few body ttl = let small = small_fits m bytes few in record {
  sys = rising_sorted (λ a b. nat_lt (system_code a.name) (system_code b.name)) m.sys order.sys;
  texts = each_implied (λ s. is_set s ≡ true) (λ s. 0 < length s.text) text_there m.sys (all_each is_set m.sys order.set);
  props = rising_sorted (λ a b. is_before a.name b.name) m.props order.props;
  own = small.2;
  fields = texts;
  many = small.1;
  size = small.0;
  body = body;
  ttl = ttl;
}

pub action_fits : (m n : Message) (cs : List Step) → after_action m cs ≡ Ok n → IsMessage m → IsMessage n
action_fits m n cs e h =
    let kept = keeps_messages m n cs e in
    let sizes = within_sizes n kept.1 in
    fits_in_order n (kept.0.order (in_order m h)) (each_texts n.sys (action_texts m n cs e (texts_each m.sys h.fields))) sizes.0 sizes.1
    (subst (λ (b : List ℕ). length b ≤ max_body) (sym kept.0.body) h.body) (subst (λ (o : Option ℕ). is_between_or_none 1 max_ttl o ≡ true) (sym kept.0.ttl) h.ttl)

acted_fits : (m : Message) (action : Option (List ℕ)) → IsMessage m → IsMessage (acted_on m action)
acted_fits m None h = h
acted_fits m (Some text) h = at (action_in text) where
  at : (o : Result (List Step) ℕ) → IsMessage (on_read m (after_steps m) o)
  at (Err place) = h
  at (Ok steps) = on (after_action m steps) refl where
    on : (r : Result Message EvalFault) → after_action m steps ≡ r → IsMessage (elim r [ Ok new ↦ new | Err fault ↦ m ])
    on (Err fault) is = h
    on (Ok new) is = action_fits m new steps is h

rule_name_short : (name : List ℕ) → is_rule_name name ≡ true → length name ≤ max_property_bytes
rule_name_short name e = at (bytes_eq name (codes "$default")) (bytes_eq-Decides name (codes "$default")) e where
  at : (b : Bool) → Decides b (name ≡ codes "$default") → (b || is_short_name name) ≡ true → length name ≤ max_property_bytes
  at true decides e = subst (λ (n : List ℕ). length n ≤ max_property_bytes) (sym (decides.0 refl)) (omega arith)
  at false decides e = most (both (nat_le 1 (length name)) (nat_le (length name) 50) (both (nat_le 1 (length name) && nat_le (length name) 50) (list_all is_name_byte name) e).0).1 where
    most : nat_le (length name) 50 ≡ true → length name ≤ max_property_bytes
    most le = grind (arith, nat_tests)

pub changed_fits : (r : Rule) (m : Message) → is_rule_name r.name ≡ true → IsMessage m → IsMessage (changed_by m r)
changed_fits r m named h = marked_fits (codes "rulename") r.name (acted_on m r.action) refl (rule_name_short r.name named) (acted_fits m r.action h)

-- ---- times to live

between_min : (low high a b : ℕ) → is_between low high a ≡ true → is_between low high b ≡ true → is_between low high (min a b) ≡ true
between_min low high a b p q = grind (arith, nat_tests, p, q)

pub cut_fits : (e : Listed) (m : Message) → is_between_or_none 1 max_ttl e.description.ttl ≡ true → IsMessage m → IsMessage (cut_to e m)
cut_fits e m good h = record { sys = h.sys; texts = h.texts; props = h.props; own = h.own; fields = h.fields; many = h.many; size = h.size; body = h.body; ttl = at m.ttl e.description.ttl h.ttl good } where
  at : (a b : Option ℕ) → is_between_or_none 1 max_ttl a ≡ true → is_between_or_none 1 max_ttl b ≡ true → is_between_or_none 1 max_ttl (shorter a b) ≡ true
  at None b h k = k
  at (Some n) None h k = h
  at (Some n) (Some l) h k = between_min 1 max_ttl n l h k
