-- Values at the front of bytes: what is taken is one, and one that stands there is taken, whatever follows.
use Rattle.std.proofs.Common.{◌≡◌, ℕ, zero, suc, ◌^◌, ◌-◌, Bool, true, List, [], ◌∷◌, ◌++◌, length, take, Option, Some, None, refl, sym, ap, subst, ◌∙◌, append_assoc, arith}
use Rattle.std.specs.Prelude.{option_and_then}
use Rattle.std.specs.Int.{w32, to_be_bytes}
use Rattle.std.proofs.lemmas.List.{take_at, length-append}
use Rattle.std.proofs.lemmas.Bool.{eqb-true}
use Rattle.sb_amqp.specs.declared.values.Extent.{Extent}
use Rattle.sb_amqp.specs.declared.values.Extent.TheVariants.{Described, Fixed, Short, Long, Unknown}
use Rattle.sb_amqp.specs.Reading.{behind, number_at, after_plain, after_value, value_at, cut, are_values, is_some_and}
use Rattle.sb_amqp.specs.Values.{joined, extent_of, HasExtent, IsValue, AreValues, max_nesting}
use Rattle.sb_amqp.proofs.Widths.{IsBytes, IsBytes-rest, IsBytes-behind, behind_gives, behind_again, wide32, number_takes, number_again}

abbrev there : {A : Type 0} → A → Option A
there x = Some x

pub some_is : {A : Type 0} (x y : A) → there x ≡ there y → x ≡ y
some_is x y e = cc

-- the value of a step that found one
pub then_some : {A B : Type 0} (r : Option A) (f : A → Option B) (y : B) → option_and_then f r ≡ Some y → (x : A) × (r ≡ Some x) × (f x ≡ Some y)
then_some (Some x) f y e = (x, refl, e)
then_some None f y e = absurd cc

-- a front of this kind, and the rest
pub record Front (Is : List ℕ → Type 0) (bytes rest : List ℕ) : Type 0 where
  pub front : List ℕ
  pub is : Is front
  pub text : bytes ≡ front ++ rest

-- ---- behind a constructor

pub plain_gives : (e : Extent) (bytes rest : List ℕ) → IsBytes bytes → after_plain e bytes ≡ Some rest → Front (HasExtent e) bytes rest
unfolding after_plain
plain_gives (Fixed n) bytes rest bounds e = let g = behind_gives n bytes rest e in record { front = take n bytes; is = g.0; text = g.1 }
plain_gives Short [] rest bounds e = absurd cc
plain_gives Short (n ∷ bytes) rest bounds e =
    let g = behind_gives n bytes rest e in
    record {
      front = n ∷ take n bytes;
      is = (take n bytes, omega (arith, g.0, bounds 0), ap (λ k. k ∷ take n bytes) (sym g.0));
      text = ap (λ (tail : List ℕ). n ∷ tail) g.1;
    }
plain_gives Long bytes rest bounds e =
    let a = then_some (number_at w32 bytes) (λ x. behind x.0 x.1) rest e in
    let n = a.0 in
    let t = number_takes w32 (2 ^ 32) wide32 bytes n bounds a.1 in
    let g = behind_gives n.0 n.1 rest a.2 in
    record {
      front = to_be_bytes w32 n.0 ++ take n.0 n.1;
      is = (take n.0 n.1, omega (arith, g.0, t.below), ap (λ k. to_be_bytes w32 k ++ take n.0 n.1) (sym g.0));
      text = t.parts ∙ ap (λ (tail : List ℕ). to_be_bytes w32 n.0 ++ tail) g.1 ∙ sym (append_assoc (to_be_bytes w32 n.0) (take n.0 n.1) rest);
    }
plain_gives Described bytes rest bounds e = absurd cc
plain_gives Unknown bytes rest bounds e = absurd cc

pub plain_again : (e : Extent) (front rest : List ℕ) → HasExtent e front → after_plain e (front ++ rest) ≡ Some rest
unfolding after_plain
plain_again (Fixed n) front rest is = behind_again n front rest is
plain_again Short front rest (content, fits, text) = rw text (behind_again (length content) content rest refl)
plain_again Long front rest (content, fits, text) =
    rw (text, append_assoc (to_be_bytes w32 (length content)) content rest, number_again w32 (2 ^ 32) wide32 (length content) (content ++ rest) fits) (behind_again (length content) content rest refl)
plain_again Described front rest is = absurd is
plain_again Unknown front rest is = absurd is

-- ---- values

pub value_gives : (n : ℕ) (bytes rest : List ℕ) → IsBytes bytes → after_value n bytes ≡ Some rest → Front (IsValue n) bytes rest
unfolding after_value
value_gives n [] rest bounds e = absurd cc
value_gives zero (code ∷ bytes) rest bounds e =
    let g = plain_gives (extent_of code) bytes rest (IsBytes-rest code bytes bounds) e in
    record { front = code ∷ g.front; is = g.is; text = ap (λ (tail : List ℕ). code ∷ tail) g.text }
value_gives (suc n) (zero ∷ bytes) rest bounds e =
    let a = then_some (after_value n bytes) (λ value. after_value n value) rest e in
    let inside = IsBytes-rest 0 bytes bounds in
    let d = value_gives n bytes a.0 inside a.1 in
    let v = value_gives n a.0 rest (IsBytes-behind d.front a.0 bytes d.text inside) a.2 in
    record {
      front = 0 ∷ d.front ++ v.front;
      is = (d.front, v.front, d.is, v.is, refl);
      text = ap (λ (tail : List ℕ). 0 ∷ tail) (d.text ∙ ap (λ (tail : List ℕ). d.front ++ tail) v.text ∙ sym (append_assoc d.front v.front rest));
    }
value_gives (suc n) (suc code ∷ bytes) rest bounds e =
    let g = plain_gives (extent_of (suc code)) bytes rest (IsBytes-rest (suc code) bytes bounds) e in
    record { front = suc code ∷ g.front; is = g.is; text = ap (λ (tail : List ℕ). suc code ∷ tail) g.text }

pub value_again : (n : ℕ) (v rest : List ℕ) → IsValue n v → after_value n (v ++ rest) ≡ Some rest
unfolding after_value
value_again n [] rest is = absurd is
value_again zero (code ∷ v) rest is = plain_again (extent_of code) v rest is
value_again (suc n) (zero ∷ v) rest (descriptor, value, d, w, text) =
    rw (text, append_assoc descriptor value rest, value_again n descriptor (value ++ rest) d) (value_again n value rest w)
value_again (suc n) (suc code ∷ v) rest is = plain_again (extent_of (suc code)) v rest is

cut_is : (front rest : List ℕ) → cut (front ++ rest) rest ≡ (front, rest)
cut_is front rest =
    let n : length (front ++ rest) - length rest ≡ length front = omega (arith, length-append front rest) in
    rw (n, take_at front rest (length front) refl) refl

pub cut_gives : (bytes : List ℕ) (x : List ℕ × List ℕ) → IsBytes bytes → value_at bytes ≡ Some x → IsValue max_nesting x.0 × (bytes ≡ x.0 ++ x.1)
unfolding value_at
cut_gives bytes x bounds e =
    let a = then_some (after_value max_nesting bytes) (λ rest. Some (cut bytes rest)) x e in
    let g = value_gives max_nesting bytes a.0 bounds a.1 in
    let is : x ≡ (g.front, a.0) = sym (some_is (cut bytes a.0) x a.2) ∙ ap (λ (b : List ℕ). cut b a.0) g.text ∙ cut_is g.front a.0 in
    subst (λ (z : List ℕ × List ℕ). IsValue max_nesting z.0 × (bytes ≡ z.0 ++ z.1)) (sym is) (g.is, g.text)

pub cut_again : (v rest : List ℕ) → IsValue max_nesting v → value_at (v ++ rest) ≡ Some (v, rest)
unfolding value_at
cut_again v rest is = rw (value_again max_nesting v rest is) (ap there (cut_is v rest))

-- ---- so many values

pub record Values (n : ℕ) (bytes : List ℕ) : Type 0 where
  pub values : List (List ℕ)
  pub are : AreValues values
  pub count : length values ≡ n
  pub text : bytes ≡ joined values

pub all_gone : (bytes : List ℕ) → (length bytes ≡ 0) → bytes ≡ []
all_gone [] e = refl
all_gone (b ∷ bytes) e = absurd (omega (arith, e))

pub filled_by : {A : Type 0} (o : Option A) (test : A → Bool) → is_some_and test o ≡ true → (x : A) × (o ≡ Some x) × (test x ≡ true)
filled_by (Some x) test e = (x, refl, e)
filled_by None test e = absurd cc

pub values_give : (n : ℕ) (bytes : List ℕ) → IsBytes bytes → are_values n bytes ≡ true → Values n bytes
unfolding are_values
values_give zero bytes bounds e = record { values = []; are = tt; count = refl; text = all_gone bytes (eqb-true _ _ e) }
values_give (suc n) bytes bounds e =
    let a = filled_by (value_at bytes) (λ x. are_values n x.1) e in
    let g = cut_gives bytes a.0 bounds a.1 in
    let others = values_give n a.0.1 (IsBytes-behind a.0.0 a.0.1 bytes g.1 bounds) a.2 in
    record { values = a.0.0 ∷ others.values; are = (g.0, others.are); count = ap suc others.count; text = g.1 ∙ ap (λ (tail : List ℕ). a.0.0 ++ tail) others.text }

pub values_again : (vs : List (List ℕ)) → AreValues vs → are_values (length vs) (joined vs) ≡ true
unfolding are_values
values_again [] are = refl
values_again (v ∷ vs) are = rw (cut_again v (joined vs) are.0) (values_again vs are.1)
