-- What the machine's tests ask of a call makes its event one that may be written.
use Rattle.std.proofs.Common.{◌≡◌, ◌≤◌, ◌<◌, ◌+◌, ◌^◌, ℕ, List, [], ◌∷◌, length, Bool, true, ◌||◌, nat_le, Option, Some, None, refl, ap, arith, ◌⊎◌, inl, inr}
use Rattle.std.specs.Prelude.{IfSome, is_none, ◌==◌, codes, bytes_eq, not}
use Rattle.std.specs.List.{list_all, sum_by}
use Rattle.std.proofs.lemmas.Bool.{leb-true, ltb-true, eqb-true}
use Rattle.std.proofs.lemmas.List.Sums.{sum_by-cons}
use Rattle.std.proofs.lemmas.Slice.Eq.{bytes_eq-Decides}
use Rattle.sb_machine.specs.Descriptions.{bad_in_description, has_copies, is_sent_to, has_rules, is_name_or_none, is_fit}
use Rattle.sb_machine.specs.Each.{Each}
use Rattle.sb_model.specs.Effects.{property_size, value_size, text_size, property_bytes}
use Rattle.sb_machine.specs.Fields.{first_some, unless, is_between, is_between_or_none, max_ttl, bad_in_message, bad_in_messages, bad_in_conditions, are_properties}
use Rattle.sb_machine.specs.Messages.{all_bytes, large_in, large_one}
use Rattle.sb_machine.specs.Names.{is_name_within, is_name, is_short_name, is_rule_name, is_address, is_subscription}
use Rattle.sb_model.specs.Orders.{AreRising, IsInOrder, name_before, code_before, is_set}
use Rattle.sb_model.specs.SystemNames.{system_code}
use Rattle.sb_machine.specs.declared.call.Description.{Description}
use Rattle.sb_machine.specs.declared.call.Path.{Path}
use Rattle.sb_model.specs.declared.message.Message.{Message}
use Rattle.sb_model.specs.declared.message.Property.{Property}
use Rattle.sb_model.specs.declared.message.PropertyValue.{PropertyValue}
use Rattle.sb_model.specs.declared.message.PropertyValue.TheVariants.{Int, Text, Bool as Truth}
use Rattle.sb_model.specs.declared.message.SystemName.{SystemName}
use Rattle.sb_model.specs.declared.message.SystemName.TheVariants.{MessageId, Label, CorrelationId, SessionId, To, ReplyTo, ReplyToSessionId, ContentType}
use Rattle.sb_model.specs.declared.message.SystemText.{SystemText}
use Rattle.sb_machine.specs.declared.state.EntityKind.{EntityKind}
use Rattle.sb_codec.specs.Forms.{Follow, text, number32, number64}
use Rattle.sb_codec.specs.Messages.{value, signed64, system, systems, is_next_system, property, properties, is_next_property, message, any_next}
use Rattle.sb_codec.specs.Pieces.{path, description}
use Rattle.sb_machine.proofs.Passed.{both, both_true, either, first_none, unless_none, first_size_none, above_none, between_most, fit}

-- ---- texts and numbers

pub short_text : (t : List ℕ) → length t ≤ 262144 → text.Asks t
short_text t le utf8 = omega (arith, le)

pub any_number : (o : Option ℕ) → IfSome o number64.Asks
any_number None = tt
any_number (Some n) = tt

-- ---- names

pub name_length : (most : ℕ) (name : List ℕ) → is_name_within most name ≡ true → length name ≤ most
name_length most name is = let sizes = both _ _ is in leb-true (length name) most (both (nat_le 1 (length name)) (nat_le (length name) most) sizes.0).1

pub rule_name_length : (name : List ℕ) → is_rule_name name ≡ true → length name ≤ 50
rule_name_length name is =
    elim (either (bytes_eq name (codes "$default")) (is_short_name name) is) [
      | inl same ↦ let e : length name ≡ 8 = ap (λ (l : List ℕ). length l) ((bytes_eq-Decides name (codes "$default")).0 same) in omega (arith, e)
      | inr short ↦ name_length 50 name short
    ]

name_asked : (most : ℕ) (name : List ℕ) → most ≤ 260 → is_name_within most name ≡ true → text.Asks name
name_asked most name few is = let short = name_length most name is in short_text name (omega (arith, few, short))

pub entity_name : (name : List ℕ) → is_name name ≡ true → text.Asks name
entity_name name is = name_asked 260 name (omega arith) is

pub short_name : (name : List ℕ) → is_short_name name ≡ true → text.Asks name
short_name name is = name_asked 50 name (omega arith) is

pub rule_name : (name : List ℕ) → is_rule_name name ≡ true → text.Asks name
rule_name name is = let short = rule_name_length name is in short_text name (omega (arith, short))

subscription_asked : (o : Option (List ℕ)) → is_subscription o ≡ true → IfSome o text.Asks
subscription_asked None is = tt
subscription_asked (Some name) is = short_name name is

pub path_asked : (p : Path) → is_address p ≡ true → path.Asks p
unfolding path
path_asked p is = let parts = both (is_name p.name) (is_subscription p.subscription) is in (entity_name p.name parts.0, (subscription_asked p.subscription parts.1, tt))

-- ---- descriptions

small : (high default n : ℕ) → high ≤ 4000 → default ≤ 4000 → (is_between 1 high n ≡ true) ⊎ ((n == default) ≡ true) → n < 2 ^ 32
small high default n le less (inl within) = let most = between_most 1 high n within in omega (arith, le, most)
small high default n le less (inr is) = let same : n ≡ default = eqb-true n default is in omega (arith, less, same)

window_asked : (o : Option ℕ) → (is_between_or_none 20 604800 o ≡ true) ⊎ (is_none o ≡ true) → IfSome o number32.Asks
window_asked None is = tt
window_asked (Some n) (inl within) = let most = between_most 20 604800 n within in omega (arith, most)
window_asked (Some n) (inr none) = absurd cc

target_asked : (o : Option (List ℕ)) → (is_name_or_none o ≡ true) ⊎ (is_none o ≡ true) → IfSome o text.Asks
target_asked None is = tt
target_asked (Some name) (inl named) = entity_name name named
target_asked (Some name) (inr none) = absurd cc

-- what a description says that has no bad field
pub record IsDescribed (k : EntityKind) (d : Description) : Type 0 where
  pub lock : (is_between 1 300 d.lock ≡ true) ⊎ ((d.lock == 60) ≡ true)
  pub max_delivery : (is_between 1 2000 d.max_delivery ≡ true) ⊎ ((d.max_delivery == 10) ≡ true)
  pub window : (is_between_or_none 20 604800 d.window ≡ true) ⊎ (is_none d.window ≡ true)
  pub forward_to : (is_name_or_none d.forward_to ≡ true) ⊎ (is_none d.forward_to ≡ true)
  pub forward_dead_to : (is_name_or_none d.forward_dead_to ≡ true) ⊎ (is_none d.forward_dead_to ≡ true)

pub described : (k : EntityKind) (d : Description) → bad_in_description k d ≡ None → IsDescribed k d
described k d good =
    let t1 = is_fit (has_copies k) (is_between 1 300 d.lock) (d.lock == 60) in
    let t2 = is_between_or_none 1 max_ttl d.ttl in
    let t3 = is_fit (has_copies k) (is_between 1 2000 d.max_delivery) (d.max_delivery == 10) in
    let t4 = is_fit (is_sent_to k) (is_between_or_none 20 604800 d.window) (is_none d.window) in
    let t5 = is_fit (has_copies k) (not d.requires_session || is_none d.forward_to) (not d.requires_session) in
    let t6 = has_copies k || not d.dead_on_expiry in
    let t7 = has_rules k || d.dead_on_fault in
    let t8 = is_fit (has_copies k) (is_name_or_none d.forward_to) (is_none d.forward_to) in
    let t9 = is_fit (has_copies k) (is_name_or_none d.forward_dead_to) (is_none d.forward_dead_to) in
    let k9 = unless t9 (codes "forward_dead_to") in
    let k8 = first_some (unless t8 (codes "forward_to")) k9 in
    let k7 = first_some (unless t7 (codes "dead_on_fault")) k8 in
    let k6 = first_some (unless t6 (codes "dead_on_expiry")) k7 in
    let k5 = first_some (unless t5 (codes "requires_session")) k6 in
    let k4 = first_some (unless t4 (codes "window")) k5 in
    let k3 = first_some (unless t3 (codes "max_delivery")) k4 in
    let k2 = first_some (unless t2 (codes "ttl")) k3 in
    let lock = first_none (unless t1 (codes "lock")) k2 good in
    let ttl = first_none (unless t2 (codes "ttl")) k3 lock.1 in
    let max_delivery = first_none (unless t3 (codes "max_delivery")) k4 ttl.1 in
    let window = first_none (unless t4 (codes "window")) k5 max_delivery.1 in
    let sessions = first_none (unless t5 (codes "requires_session")) k6 window.1 in
    let expiry = first_none (unless t6 (codes "dead_on_expiry")) k7 sessions.1 in
    let fault = first_none (unless t7 (codes "dead_on_fault")) k8 expiry.1 in
    let forwards = first_none (unless t8 (codes "forward_to")) k9 fault.1 in
    record {
      lock = fit (has_copies k) (is_between 1 300 d.lock) (d.lock == 60) (unless_none t1 (codes "lock") lock.0);
      max_delivery = fit (has_copies k) (is_between 1 2000 d.max_delivery) (d.max_delivery == 10) (unless_none t3 (codes "max_delivery") max_delivery.0);
      window = fit (is_sent_to k) (is_between_or_none 20 604800 d.window) (is_none d.window) (unless_none t4 (codes "window") window.0);
      forward_to = fit (has_copies k) (is_name_or_none d.forward_to) (is_none d.forward_to) (unless_none t8 (codes "forward_to") forwards.0);
      forward_dead_to = fit (has_copies k) (is_name_or_none d.forward_dead_to) (is_none d.forward_dead_to) (unless_none t9 (codes "forward_dead_to") forwards.1);
    }

pub description_asked : (k : EntityKind) (d : Description) → bad_in_description k d ≡ None → description.Asks d
unfolding description
description_asked k d good =
    let is = described k d good in
    let lock = small 300 60 d.lock (omega arith) (omega arith) is.lock in
    let most = small 2000 10 d.max_delivery (omega arith) (omega arith) is.max_delivery in
    (lock, (any_number d.ttl, (most, (window_asked d.window is.window, (tt, (tt, (tt, (target_asked d.forward_to is.forward_to, target_asked d.forward_dead_to is.forward_dead_to))))))))

-- ---- properties

-- each of these stands behind the last one
abbrev IsBehind : {X : Type 0} → (X → X → Bool) → Option X → List X → Type 0
IsBehind before None xs = Unit {0}
IsBehind before (Some last) xs = list_all (before last) xs ≡ true

value_asked : (v : PropertyValue) → value_size v ≤ 262144 → value.Asks v
unfolding value signed64
value_asked (Int z) le = tt
value_asked (Text t) le = short_text t le
value_asked (Truth b) le = tt

next_property : (last : Option Property) (p : Property) (ps : List Property) → IsBehind name_before last (p ∷ ps) → is_next_property last p ≡ true
next_property None p ps behind = refl
next_property (Some last) p ps behind = (both (name_before last p) (list_all (name_before last) ps) behind).0

properties_follow : (last : Option Property) (ps : List Property) → IsBehind name_before last ps → AreRising name_before ps → sum_by property_size ps ≤ 262144
    → Follow (λ last p. property.Asks p × (is_next_property last p ≡ true)) last ps
unfolding property
properties_follow last [] behind rising le = tt
properties_follow last (p ∷ ps) behind rising le =
    let sum = sum_by-cons property_size p ps in
    let name : length p.name ≤ 262144 = omega (arith, sum, le) in
    let size : value_size p.value ≤ 262144 = omega (arith, sum, le) in
    let others : sum_by property_size ps ≤ 262144 = omega (arith, sum, le) in
    (((short_text p.name name, value_asked p.value size), next_property last p ps behind), properties_follow (Some p) ps rising.0 rising.1 others)

next_system : (last : Option SystemText) (s : SystemText) (ss : List SystemText) → IsBehind code_before last (s ∷ ss) → is_set s ≡ true → is_next_system last s ≡ true
next_system None s ss behind filled = filled
next_system (Some last) s ss behind filled = both_true _ _ (both (code_before last s) (list_all (code_before last) ss) behind).0 filled

systems_follow : (last : Option SystemText) (ss : List SystemText) → IsBehind code_before last ss → AreRising code_before ss → list_all is_set ss ≡ true → sum_by text_size ss ≤ 262144
    → Follow (λ last s. system.Asks s × (is_next_system last s ≡ true)) last ss
unfolding system
systems_follow last [] behind rising filled le = tt
systems_follow last (s ∷ ss) behind rising filled le =
    let sum = sum_by-cons text_size s ss in
    let one : length s.text ≤ 262144 = omega (arith, sum, le) in
    let others : sum_by text_size ss ≤ 262144 = omega (arith, sum, le) in
    let sets = both (is_set s) (list_all is_set ss) filled in
    (((tt, short_text s.text one), next_system last s ss behind sets.0), systems_follow (Some s) ss rising.0 rising.1 sets.1 others)

code_most : (n : SystemName) → (1 ≤ system_code n) × (system_code n ≤ 8)
code_most MessageId = (omega arith, omega arith)
code_most Label = (omega arith, omega arith)
code_most CorrelationId = (omega arith, omega arith)
code_most SessionId = (omega arith, omega arith)
code_most To = (omega arith, omega arith)
code_most ReplyTo = (omega arith, omega arith)
code_most ReplyToSessionId = (omega arith, omega arith)
code_most ContentType = (omega arith, omega arith)

few_behind : (last : SystemText) (ss : List SystemText) → list_all (code_before last) ss ≡ true → AreRising code_before ss → length ss + system_code last.name ≤ 8
few_behind last [] behind rising = let most = (code_most last.name).1 in omega (arith, most)
few_behind last (s ∷ ss) behind rising =
    let above : system_code last.name < system_code s.name = ltb-true _ _ (both (code_before last s) (list_all (code_before last) ss) behind).0 in
    let others = few_behind s ss rising.0 rising.1 in
    omega (arith, above, others)

-- at most one for each of the eight
pub few_systems : (ss : List SystemText) → AreRising code_before ss → length ss ≤ 8
few_systems [] rising = omega arith
few_systems (s ∷ ss) rising = let others = few_behind s ss rising.0 rising.1 in let least = (code_most s.name).0 in omega (arith, others, least)

pub few_properties : (sys : List SystemText) (ps : List Property) → bad_in_conditions sys ps ≡ None → length ps ≤ 256
few_properties sys ps good =
    let fine : are_properties ps ≡ true = unless_none _ _ (first_none _ _ good).1 in
    leb-true (length ps) 256 (both (list_all _ ps) (nat_le (length ps) 256) fine).1

pub conditions_asked : (m : Message) → IsInOrder m → bad_in_conditions m.sys m.props ≡ None → property_bytes m ≤ 262144 → systems.Asks m.sys × properties.Asks m.props
conditions_asked m order good le =
    let few = few_systems m.sys order.sys in
    let less = few_properties m.sys m.props good in
    let sys_size : sum_by text_size m.sys ≤ 262144 = omega (arith, le) in
    let props_size : sum_by property_size m.props ≤ 262144 = omega (arith, le) in
    ((omega (arith, few), systems_follow None m.sys tt order.sys order.set sys_size), (omega (arith, less), properties_follow None m.props tt order.props props_size))

-- ---- messages

pub sizes_of : (m : Message) → large_in m ≡ None → (length m.body ≤ 262144) × (property_bytes m ≤ 65536)
sizes_of m fits = let sizes = first_size_none _ _ fits in (above_none 262144 (length m.body) sizes.0, above_none 65536 (property_bytes m) sizes.1)

-- the body, and the properties
abbrev pub IsSmall : Message → Type 0
IsSmall m = (length m.body ≤ 262144) × (property_bytes m ≤ 262144)

-- each by its own sizes
pub small_each : (ms : List Message) → large_one ms ≡ None → Each IsSmall ms
small_each [] fits = tt
small_each (m ∷ ms) fits =
    let parts = first_size_none _ _ fits in
    let sizes = sizes_of m parts.0 in
    let body = sizes.0 in
    let properties = sizes.1 in
    ((body, omega (arith, properties)), small_each ms parts.1)

-- each by the size of all together
pub small_together : (ms : List Message) → all_bytes ms ≤ 262144 → Each IsSmall ms
small_together [] le = tt
small_together (m ∷ ms) le =
    let sum = sum_by-cons (λ (x : Message). length x.body + property_bytes x) m ms in
    ((omega (arith, sum, le), omega (arith, sum, le)), small_together ms (omega (arith, sum, le)))

pub message_asked : (is_via : Bool) (m : Message) → IsInOrder m → bad_in_message is_via m ≡ None → IsSmall m → message.Asks m
unfolding message
message_asked is_via m order good sizes =
    let asked = conditions_asked m order (first_none _ _ good).0 sizes.1 in
    let body = sizes.0 in
    (omega (arith, body), (asked.0, (asked.1, (any_number m.ttl, any_number m.schedule))))

pub messages_asked : (is_via : Bool) (last : Option Message) (ms : List Message) → Each IsInOrder ms → bad_in_messages is_via ms ≡ None → Each IsSmall ms
    → Follow (λ last m. message.Asks m × (any_next last m ≡ true)) last ms
messages_asked is_via last [] order good fits = tt
messages_asked is_via last (m ∷ ms) order good fits =
    let goods = first_none _ _ good in
    ((message_asked is_via m order.0 goods.0 fits.0, refl), messages_asked is_via (Some m) ms order.1 goods.1 fits.1)
