-- Sections at the front of bytes: what is taken is one, and one that stands there is taken, whatever follows.
use Rattle.std.proofs.Common.{◌≡◌, ℕ, zero, suc, ◌^◌, ◌<◌, ◌≤◌, Bool, true, false, cond, ltb, List, [], ◌∷◌, ◌++◌, length, Option, Some, None, refl, sym, ap, subst, ◌∙◌, append_assoc, arith, inl, inr, ◌⊎◌}
use Rattle.std.specs.Prelude.{◌&&◌, ◌==◌, option_and_then}
use Rattle.std.specs.Int.{w32, w64, to_be_bytes}
use Rattle.std.proofs.lemmas.Bool.{eqb-true, ltb-false, le-ltb}
use Rattle.sb_amqp.specs.declared.values.Extent.{Extent}
use Rattle.sb_amqp.specs.declared.values.Extent.TheVariants.{Described, Fixed, Short, Long, Unknown}
use Rattle.sb_amqp.specs.Reading.{number_at, value_at, counted, are_values, is_filled, is_filled_if, code_at, if_small, small_at, descriptor_at, if_filled, section_at, if_next, next_at}
use Rattle.sb_amqp.specs.Sections.{Section, spelled, descriptor, count_bytes, FitsCount, HasItems, HasUsedItems, has_used_items, pairs_up, IsSection, may_follow}
use Rattle.sb_amqp.specs.Values.{joined, extent_of, extent_at, behind_length, content_of, kind_of}
use Rattle.sb_amqp.proofs.Fronts.{then_some, filled_by, cut_gives, cut_again, values_give, values_again}
use Rattle.sb_amqp.proofs.Widths.{IsBytes, IsBytes-drop, IsBytes-rest, IsBytes-front, unless_some, when_some, wide32, wide64, number_takes, number_again}

and_both : (a b : Bool) → (a && b) ≡ true → (a ≡ true) × (b ≡ true)
and_both true b e = (refl, e)
and_both false b e = absurd cc

chosen : {A : Type 0} (b : Bool) (x y z : A) → cond b x y ≡ z → ((b ≡ true) × (x ≡ z)) ⊎ ((b ≡ false) × (y ≡ z))
chosen true x y z e = inl (refl, e)
chosen false x y z e = inr (refl, e)

-- ---- items

counted_gives : (e : Extent) (content : List ℕ) (x : ℕ × List ℕ) → IsBytes content → counted e content ≡ Some x → (content ≡ count_bytes e x.0 ++ x.1) × FitsCount e x.0 × IsBytes x.1
unfolding counted
counted_gives (Fixed n) content x bounds e = subst (λ (z : ℕ × List ℕ). (content ≡ z.1) × (z.0 ≡ 0) × IsBytes z.1) (some_pair (0, content) x e) (refl, refl, bounds) where
  some_pair : (a b : ℕ × List ℕ) → Some a ≡ Some b → a ≡ b
  some_pair a b e = cc
counted_gives Short [] x bounds e = absurd cc
counted_gives Short (count ∷ items) x bounds e =
    subst (λ (z : ℕ × List ℕ). (count ∷ items ≡ z.0 ∷ z.1) × (z.0 < 2 ^ 8) × IsBytes z.1) (some_pair (count, items) x e) (refl, bounds 0, IsBytes-rest count items bounds) where
      some_pair : (a b : ℕ × List ℕ) → Some a ≡ Some b → a ≡ b
      some_pair a b e = cc
counted_gives Long content x bounds e = let t = number_takes w32 (2 ^ 32) wide32 content x bounds e in (t.parts, t.below, t.rest)
counted_gives Described content x bounds e = absurd cc
counted_gives Unknown content x bounds e = absurd cc

pub counted_again : (e : Extent) (n : ℕ) (items : List ℕ) → FitsCount e n → counted e (count_bytes e n ++ items) ≡ Some (n, items)
unfolding counted
counted_again (Fixed k) n items fits = rw fits refl
counted_again Short n items fits = refl
counted_again Long n items fits = number_again w32 (2 ^ 32) wide32 n items fits
counted_again Described n items fits = absurd fits
counted_again Unknown n items fits = absurd fits

bytes_behind : (e : Extent) (bytes : List ℕ) → IsBytes bytes → IsBytes (behind_length e bytes)
bytes_behind (Fixed n) bytes h = h
bytes_behind Short bytes h = IsBytes-drop 1 bytes h
bytes_behind Long bytes h = IsBytes-drop 4 bytes h
bytes_behind Described bytes h = h
bytes_behind Unknown bytes h = h

bytes_in : (value : List ℕ) → IsBytes value → IsBytes (content_of value)
unfolding content_of
bytes_in [] h = h
bytes_in (code ∷ rest) h = bytes_behind (extent_of code) rest (IsBytes-rest code rest h)

record Filled (value : List ℕ) : Type 0 where
  pub items : List (List ℕ)
  pub has : HasItems value items
  pub pairs : pairs_up (kind_of value) (length items) ≡ true

filled_gives : (value : List ℕ) → IsBytes value → is_filled value ≡ true → Filled value
unfolding is_filled
filled_gives value bounds e =
    let a = filled_by (counted (extent_at value) (content_of value)) (λ x. pairs_up (kind_of value) x.0 && are_values x.0 x.1) e in
    let n = a.0 in
    let t = counted_gives (extent_at value) (content_of value) n (bytes_in value bounds) a.1 in
    let both = and_both (pairs_up (kind_of value) n.0) (are_values n.0 n.1) a.2 in
    let vs = values_give n.0 n.1 t.2 both.1 in
    record {
      items = vs.values;
      has = record {
        content = t.0 ∙ ap (λ (tail : List ℕ). count_bytes (extent_at value) n.0 ++ tail) vs.text ∙ ap (λ k. count_bytes (extent_at value) k ++ joined vs.values) (sym vs.count);
        each = vs.are;
        count = subst (FitsCount (extent_at value)) (sym vs.count) t.1;
      };
      pairs = subst (λ k. pairs_up (kind_of value) k ≡ true) (sym vs.count) both.0;
    }

filled_again : (value : List ℕ) (items : List (List ℕ)) → HasItems value items → pairs_up (kind_of value) (length items) ≡ true → is_filled value ≡ true
unfolding is_filled
filled_again value items has pairs =
    rw (has.content, counted_again (extent_at value) (length items) (joined items) has.count, pairs) (values_again items has.each)

used_gives : (due : Bool) (value : List ℕ) → IsBytes value → is_filled_if due value ≡ true → (items : List (List ℕ)) × HasUsedItems due value items
used_gives false value bounds e = ([], refl)
used_gives true value bounds e = let f = filled_gives value bounds e in (f.items, (f.has, f.pairs))

used_again : (due : Bool) (value : List ℕ) (items : List (List ℕ)) → HasUsedItems due value items → is_filled_if due value ≡ true
used_again false value items has = refl
used_again true value items has = filled_again value items has.0 has.1

-- ---- descriptors

record Named (bytes : List ℕ) (x : ℕ × List ℕ) : Type 0 where
  pub is_small : Bool
  pub text : bytes ≡ descriptor is_small x.0 ++ x.1
  pub code : x.0 < 2 ^ 8
  pub rest : IsBytes x.1

code_gives : (rest : List ℕ) (x : ℕ × List ℕ) → code_at rest ≡ Some x → rest ≡ x.0 ∷ x.1
code_gives [] x e = absurd cc
code_gives (code ∷ rest) x e = cc

small_text : (form code : ℕ) (rest more : List ℕ) → form ≡ 83 → rest ≡ code ∷ more → (0 ∷ form ∷ rest) ≡ 0 ∷ 83 ∷ code ∷ more
small_text form code rest more f r = cc

wide_text : (form : ℕ) (rest more : List ℕ) → form ≡ 128 → rest ≡ more → (0 ∷ form ∷ rest) ≡ 0 ∷ 128 ∷ more
wide_text form rest more f r = cc

small_named : (form : ℕ) (rest : List ℕ) (x : ℕ × List ℕ) → IsBytes rest → form ≡ 83 → code_at rest ≡ Some x → Named (0 ∷ form ∷ rest) x
small_named form rest x bounds is e =
    let r = code_gives rest x e in
    let inside : IsBytes (x.0 ∷ x.1) = subst IsBytes r bounds in
    record { is_small = true; text = small_text form x.0 rest x.1 is r; code = inside 0; rest = IsBytes-rest x.0 x.1 inside }

wide_named : (form : ℕ) (rest : List ℕ) (x : ℕ × List ℕ) → IsBytes rest → form ≡ 128 → small_at rest ≡ Some x → Named (0 ∷ form ∷ rest) x
unfolding small_at
wide_named form rest x bounds is e =
    let a = then_some (number_at w64 rest) if_small x e in
    let g = unless_some (ltb 255 a.0.0) a.0 x a.2 in
    let t = number_takes w64 (2 ^ 64) wide64 rest a.0 bounds a.1 in
    let below : a.0.0 ≤ 255 = ltb-false _ _ g.0 in
    subst (Named (0 ∷ form ∷ rest)) g.1 (record {
      is_small = false;
      text = wide_text form rest (to_be_bytes w64 a.0.0 ++ a.0.1) is t.parts;
      code = omega (arith, below);
      rest = t.rest;
    })

named_gives : (bytes : List ℕ) (x : ℕ × List ℕ) → IsBytes bytes → descriptor_at bytes ≡ Some x → Named bytes x
unfolding descriptor_at
named_gives [] x bounds e = absurd cc
named_gives (b ∷ []) x bounds e = absurd cc
named_gives (zero ∷ form ∷ rest) x bounds e =
    let inside = IsBytes-rest form rest (IsBytes-rest 0 (form ∷ rest) bounds) in
    elim (chosen (form == 83) (code_at rest) (cond (form == 128) (small_at rest) None) (Some x) e) [
      | inl small ↦ small_named form rest x inside (eqb-true form 83 small.0) small.1
      | inr other ↦ (let w = when_small (form == 128) (small_at rest) x other.1 in wide_named form rest x inside (eqb-true form 128 w.0) w.1)
    ] where
      when_small : (b : Bool) (o : Option (ℕ × List ℕ)) (x : ℕ × List ℕ) → cond b o None ≡ Some x → (b ≡ true) × (o ≡ Some x)
      when_small true o x e = (refl, e)
      when_small false o x e = absurd cc
named_gives (suc b ∷ form ∷ rest) x bounds e = absurd cc

small_again : (code : ℕ) (more : List ℕ) → code < 2 ^ 8 → small_at (to_be_bytes w64 code ++ more) ≡ Some (code, more)
unfolding small_at
small_again code more fits =
    let below : ltb 255 code ≡ false = le-ltb _ _ (omega (arith, fits)) in
    rw (number_again w64 (2 ^ 64) wide64 code more (omega (arith, fits)), below) refl

named_again : (is_small : Bool) (code : ℕ) (more : List ℕ) → code < 2 ^ 8 → descriptor_at (descriptor is_small code ++ more) ≡ Some (code, more)
unfolding descriptor_at
named_again true code more fits = refl
named_again false code more fits = small_again code more fits

-- ---- sections

pub record Begins (bytes : List ℕ) (x : ℕ × (List ℕ × List ℕ)) : Type 0 where
  pub section : Section
  pub is : IsSection section
  pub code : section.code ≡ x.0
  pub value : section.value ≡ x.1.0
  pub text : bytes ≡ spelled section ++ x.1.1

pub section_gives : (bytes : List ℕ) (x : ℕ × (List ℕ × List ℕ)) → IsBytes bytes → section_at bytes ≡ Some x → Begins bytes x
unfolding section_at
section_gives bytes x bounds e =
    let a = then_some (descriptor_at bytes) (λ d. option_and_then (λ z. if_filled d.0 z) (value_at d.1)) x e in
    let d = a.0 in
    let n = named_gives bytes d bounds a.1 in
    let b = then_some (value_at d.1) (λ z. if_filled d.0 z) x a.2 in
    let v = b.0 in
    let g = cut_gives d.1 v n.rest b.1 in
    let f = when_some (is_filled_if (has_used_items d.0 (kind_of v.0)) v.0) (d.0, v) x b.2 in
    let used = used_gives (has_used_items d.0 (kind_of v.0)) v.0 (IsBytes-front v.0 v.1 d.1 g.1 n.rest) f.0 in
    let s : Section = record { code = d.0; is_small = n.is_small; value = v.0; items = used.0 } in
    subst (Begins bytes) f.1 (record {
      section = s;
      is = record { code = n.code; value = g.0; items = used.1 };
      code = refl;
      value = refl;
      text = n.text ∙ ap (λ (tail : List ℕ). descriptor n.is_small d.0 ++ tail) g.1 ∙ sym (append_assoc (descriptor n.is_small d.0) v.0 v.1);
    })

pub section_again : (s : Section) (rest : List ℕ) → IsSection s → section_at (spelled s ++ rest) ≡ Some (s.code, (s.value, rest))
unfolding section_at
section_again s rest is =
    rw (append_assoc (descriptor s.is_small s.code) s.value rest, named_again s.is_small s.code (s.value ++ rest) is.code, cut_again s.value rest is.value, used_again (has_used_items s.code (kind_of s.value)) s.value s.items is.items) refl

pub next_gives : (last : ℕ) (bytes : List ℕ) (x : ℕ × (List ℕ × List ℕ)) → IsBytes bytes → next_at last bytes ≡ Some x → (may_follow last x.0 ≡ true) × Begins bytes x
unfolding next_at
next_gives last bytes x bounds e =
    let a = then_some (section_at bytes) (if_next last) x e in
    let g = when_some (may_follow last a.0.0) a.0 x a.2 in
    subst (λ (z : ℕ × (List ℕ × List ℕ)). (may_follow last z.0 ≡ true) × Begins bytes z) g.1 (g.0, section_gives bytes a.0 bounds a.1)

pub next_again : (last : ℕ) (s : Section) (rest : List ℕ) → IsSection s → may_follow last s.code ≡ true → next_at last (spelled s ++ rest) ≡ Some (s.code, (s.value, rest))
unfolding next_at
next_again last s rest is follows = rw (section_again s rest is, follows) refl
