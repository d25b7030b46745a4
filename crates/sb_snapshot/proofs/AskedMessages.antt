-- Messages that a state may hold may be written.
use Rattle.std.proofs.Common.{◌≡◌, ◌≤◌, ◌<◌, ◌+◌, ℕ, List, [], ◌∷◌, length, Bool, true, false, not, refl, ap, subst, ◌∙◌, filter, arith}
use Rattle.std.specs.Prelude.{bytes_eq, codes, nat_lt}
use Rattle.std.specs.List.{list_all, sum_by}
use Rattle.std.proofs.lemmas.Bool.{lt-ltb, and_from}
use Rattle.std.proofs.lemmas.List.Sums.{sum_by-cons}
use Rattle.std.proofs.lemmas.Slice.Eq.{bytes_eq-Decides}
use Rattle.sb_model.specs.Effects.{property_size, value_size, text_size, property_bytes}
use Rattle.sb_model.specs.Orders as orders
use Rattle.sb_model.specs.SystemNames.{system_code}
use Rattle.sb_model.specs.declared.message.Message.{Message}
use Rattle.sb_model.specs.declared.message.Property.{Property}
use Rattle.sb_model.specs.declared.message.PropertyValue.{PropertyValue}
use Rattle.sb_model.specs.declared.message.PropertyValue.TheVariants.{Int, Text, Bool as Truth}
use Rattle.sb_model.specs.declared.message.SystemText.{SystemText}
use Rattle.sb_machine.specs.Each.{Each, Pairs}
use Rattle.sb_machine.specs.Fit.{is_set_aside, without_own, IsMessage}
use Rattle.sb_machine.specs.Names.{is_before}
use Rattle.sb_codec.specs.Messages.{system, systems, is_next_system, value, signed64, property, properties, is_next_property, message}
use Rattle.sb_codec.proofs.Asked.{short_text, any_number, few_systems}
use Rattle.sb_snapshot.proofs.Ordered.{each_both, follow_sorted}

-- ---- system texts

all_of : {X : Type 0} (p : X → Bool) (xs : List X) → Each (λ x. p x ≡ true) xs → list_all p xs ≡ true
all_of p [] h = refl
all_of p (x ∷ xs) h = and_from (p x) (list_all p xs) h.0 (all_of p xs h.1)

rising_of : {X : Type 0} (before : X → X → Bool) (xs : List X) → Pairs (λ x y. before x y ≡ true) xs → orders.AreRising before xs
rising_of before [] p = tt
rising_of before (x ∷ xs) p = (all_of (before x) xs p.0, rising_of before xs p.1)

each_text : (ss : List SystemText) → sum_by text_size ss ≤ 65536 → Each (λ s. length s.text ≤ 65536) ss
each_text [] le = tt
each_text (s ∷ ss) le = let sum = sum_by-cons text_size s ss in (omega (arith, sum, le), each_text ss (omega (arith, sum, le)))

system_asked : (s : SystemText) → length s.text ≤ 65536 → system.Asks s
unfolding system
system_asked s le = (tt, short_text s.text (omega (arith, le)))

pub systems_asked : (m : Message) → IsMessage m → sum_by text_size m.sys ≤ 65536 → systems.Asks m.sys
systems_asked m is le =
    let few = few_systems m.sys (rising_of (λ a b. nat_lt (system_code a.name) (system_code b.name)) m.sys is.sys) in (
      omega (arith, few),
      follow_sorted (λ s. (0 < length s.text) × (length s.text ≤ 65536)) system.Asks is_next_system (λ s h. system_asked s h.1) (λ s h. lt-ltb 0 (length s.text) h.0) (λ a b. nat_lt (system_code a.name) (system_code b.name)) (λ a b h before. and_from _ _ before (lt-ltb 0 (length b.text) h.0)) m.sys
          (each_both (λ s. 0 < length s.text) (λ s. length s.text ≤ 65536) m.sys is.texts (each_text m.sys le))
          is.sys,
    )

-- ---- filters

module _ {X : Type 0} (q : X → Bool) where
  skipped : (x : X) (xs : List X) → q x ≡ false → filter q (x ∷ xs) ≡ filter q xs
  skipped x xs e = rw e refl

  counted : (x : X) (xs : List X) → q x ≡ true → length (filter q (x ∷ xs)) ≡ 1 + length (filter q xs)
  counted x xs e = rw e (omega arith)

  grows : (x : X) (xs : List X) → length (filter q xs) ≤ length (filter q (x ∷ xs))
  grows x xs = by_test (q x) refl where
    by_test : (b : Bool) → q x ≡ b → length (filter q xs) ≤ length (filter q (x ∷ xs))
    by_test true e = omega (arith, counted x xs e)
    by_test false e = omega (arith, ap (λ (l : List X). length l) (skipped x xs e))

-- ---- properties that the broker writes

abbrev named : List ℕ → Property → Bool
named c p = bytes_eq p.name c

abbrev Sorted : List Property → Type 0
Sorted ps = Pairs (λ a b. is_before a.name b.name ≡ true) ps

name_is : (c : List ℕ) (p : Property) → named c p ≡ true → p.name ≡ c
name_is c p e = (bytes_eq-Decides p.name c).0 e

none_named : (c : List ℕ) → is_before c c ≡ false → (last : Property) → last.name ≡ c → (ps : List Property) → Each (λ y. is_before last.name y.name ≡ true) ps → length (filter (named c) ps) ≡ 0
none_named c irreflexive last is [] h = refl
none_named c irreflexive last is (p ∷ ps) h = by_test (named c p) refl (none_named c irreflexive last is ps h.1) where
  by_test : (b : Bool) → named c p ≡ b → length (filter (named c) ps) ≡ 0 → length (filter (named c) (p ∷ ps)) ≡ 0
  by_test true e ih = let same : is_before c c ≡ true = subst (λ (v : List ℕ). is_before c v ≡ true) (name_is c p e) (subst (λ (v : List ℕ). is_before v p.name ≡ true) is h.0) in absurd cc
  by_test false e ih = ap (λ (l : List Property). length l) (skipped (named c) p ps e) ∙ ih

one_named : (c : List ℕ) → is_before c c ≡ false → (ps : List Property) → Sorted ps → length (filter (named c) ps) ≤ 1
one_named c irreflexive [] h = omega arith
one_named c irreflexive (p ∷ ps) h = by_test (named c p) refl (one_named c irreflexive ps h.1) where
  by_test : (b : Bool) → named c p ≡ b → length (filter (named c) ps) ≤ 1 → length (filter (named c) (p ∷ ps)) ≤ 1
  by_test true e ih = omega (arith, counted (named c) p ps e, none_named c irreflexive p (name_is c p e) ps h.0)
  by_test false e ih = omega (arith, ap (λ (l : List Property). length l) (skipped (named c) p ps e), ih)

abbrev own1 : List ℕ
own1 = codes "rulename"

abbrev own2 : List ℕ
own2 = codes "deadletterreason"

abbrev own3 : List ℕ
own3 = codes "deadlettererrordescription"

abbrev not_own : Property → Bool
not_own p = not (is_set_aside p)

abbrev Sum : List Property → ℕ
Sum xs = length (filter not_own xs) + (length (filter (named own1) xs) + (length (filter (named own2) xs) + length (filter (named own3) xs)))

count_parts : (ps : List Property) → length ps ≤ length (filter not_own ps) + (length (filter (named own1) ps) + (length (filter (named own2) ps) + length (filter (named own3) ps)))
count_parts [] = omega arith
count_parts (p ∷ ps) =
    let ih = count_parts ps in
    let g0 = grows not_own p ps in
    let g1 = grows (named own1) p ps in
    let g2 = grows (named own2) p ps in
    let g3 = grows (named own3) p ps in
    by_test (named own1 p) (named own2 p) (named own3 p) refl refl refl ih g0 g1 g2 g3 where
      by_test : (a b c : Bool) → named own1 p ≡ a → named own2 p ≡ b → named own3 p ≡ c → length ps ≤ Sum ps → length (filter not_own ps) ≤ length (filter not_own (p ∷ ps)) → length (filter (named own1) ps) ≤ length (filter (named own1) (p ∷ ps))
          → length (filter (named own2) ps) ≤ length (filter (named own2) (p ∷ ps)) → length (filter (named own3) ps) ≤ length (filter (named own3) (p ∷ ps)) → length (p ∷ ps) ≤ Sum (p ∷ ps)
      by_test true b c e f g ih g0 g1 g2 g3 = omega (arith, ih, g0, g2, g3, counted (named own1) p ps e)
      by_test false true c e f g ih g0 g1 g2 g3 = omega (arith, ih, g0, g1, g3, counted (named own2) p ps f)
      by_test false false true e f g ih g0 g1 g2 g3 = omega (arith, ih, g0, g1, g2, counted (named own3) p ps g)
      by_test false false false e f g ih g0 g1 g2 g3 = let other : not_own p ≡ true = rw (e, f, g) refl in omega (arith, ih, g1, g2, g3, counted not_own p ps other)

few_properties : (ps : List Property) → Sorted ps → length (filter not_own ps) ≤ 256 → length ps ≤ 259
few_properties ps h many =
    let one = one_named own1 refl ps h in
    let two = one_named own2 refl ps h in
    let three = one_named own3 refl ps h in
    omega (arith, count_parts ps, one, two, three, many)

-- ---- properties

abbrev IsSmall : Property → Type 0
IsSmall p = (length p.name ≤ 65536) × (value_size p.value ≤ 65536)

own_name : (p : Property) → is_set_aside p ≡ true → length p.name ≤ 65536
own_name p e = by_test (named own1 p) (named own2 p) (named own3 p) refl refl refl e where
  of_name : (c : List ℕ) → length c ≤ 65536 → named c p ≡ true → length p.name ≤ 65536
  of_name c le same = omega (arith, le, ap (λ (l : List ℕ). length l) (name_is c p same))

  by_test : (a b c : Bool) → named own1 p ≡ a → named own2 p ≡ b → named own3 p ≡ c → is_set_aside p ≡ true → length p.name ≤ 65536
  by_test true b c e f g own = of_name own1 (omega arith) e
  by_test false true c e f g own = of_name own2 (omega arith) f
  by_test false false true e f g own = of_name own3 (omega arith) g
  by_test false false false e f g own = let other : is_set_aside p ≡ false = rw (e, f, g) refl in absurd cc

each_small : (ps : List Property) → Each (λ p. is_set_aside p ≡ true → value_size p.value ≤ 65536) ps → sum_by property_size (filter not_own ps) ≤ 65536 → Each IsSmall ps
each_small [] own le = tt
each_small (p ∷ ps) own le = by_test (is_set_aside p) refl (each_small ps own.1) where
  by_test : (b : Bool) → is_set_aside p ≡ b → (sum_by property_size (filter not_own ps) ≤ 65536 → Each IsSmall ps) → Each IsSmall (p ∷ ps)
  by_test true e ih =
      let skip : not_own p ≡ false = rw e refl in
      let same = ap (λ (l : List Property). sum_by property_size l) (skipped not_own p ps skip) in
      ((own_name p e, own.0 e), ih (omega (arith, le, same)))
  by_test false e ih =
      let take : not_own p ≡ true = rw e refl in
      let same : filter not_own (p ∷ ps) ≡ p ∷ filter not_own ps = rw take refl in
      let sum = ap (λ (l : List Property). sum_by property_size l) same in
      let parts = sum_by-cons property_size p (filter not_own ps) in
      ((omega (arith, le, sum, parts), omega (arith, le, sum, parts)), ih (omega (arith, le, sum, parts)))

value_asked : (v : PropertyValue) → value_size v ≤ 65536 → value.Asks v
unfolding value signed64
value_asked (Int z) le = tt
value_asked (Text t) le = short_text t (omega (arith, le))
value_asked (Truth b) le = tt

property_asked : (p : Property) → IsSmall p → property.Asks p
unfolding property
property_asked p small = let name = small.0 in (short_text p.name (omega (arith, name)), value_asked p.value small.1)

pub properties_asked : (m : Message) → IsMessage m → sum_by property_size (without_own m).props ≤ 65536 → properties.Asks m.props
properties_asked m is le =
    let few = few_properties m.props is.props is.many in (
      omega (arith, few),
      follow_sorted IsSmall property.Asks is_next_property (λ p h. property_asked p h) (λ p h. refl) (λ a b. is_before a.name b.name) (λ a b h before. before) m.props (each_small m.props is.own le) is.props,
    )

-- ---- messages

sizes_of : (m : Message) → IsMessage m → (sum_by text_size m.sys ≤ 65536) × (sum_by property_size (without_own m).props ≤ 65536)
sizes_of m is = let size : property_bytes (without_own m) ≤ 65536 = is.size in (omega (arith, size), omega (arith, size))

pub lists_asked : (m : Message) → IsMessage m → systems.Asks m.sys × properties.Asks m.props
lists_asked m is = let sizes = sizes_of m is in (systems_asked m is sizes.0, properties_asked m is sizes.1)

pub message_asked : (m : Message) → IsMessage m → message.Asks m
unfolding message
message_asked m is = let body : length m.body ≤ 262144 = is.body in let lists = lists_asked m is in (omega (arith, body), (lists.0, (lists.1, (any_number m.ttl, any_number m.schedule))))
