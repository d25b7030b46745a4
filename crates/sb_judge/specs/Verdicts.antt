-- Tests that carry the proof of what they test, and how they are put together.
use Rattle.std.specs.Prelude.{◌≡◌, ◌≢◌, ℕ, ◌≤◌, ◌<◌, ◌==◌, nat_le, nat_lt, length, ◌&&◌, ◌||◌, not, Bool, true, false, List, [], ◌∷◌, Option, Some, None, is_none, unwrap_or, Decides, refl}
use Rattle.std.specs.List.{list_all}
use Rattle.std.proofs.Common.{sym, subst, ap}
use Rattle.std.proofs.lemmas.Bool.{true≢false, leb-true, le-leb, eqb-true}
use Rattle.std.proofs.lemmas.Bool.Decides.{Decides-and, Decides-like, Decides-not, Decides-ltb, Decides-eqb}
use Rattle.std.proofs.lemmas.List.{nil_from_length}
use Rattle.sb_machine.specs.Each.{Each, Pairs, IfSome}
use Rattle.sb_machine.specs.Keyed.{AreRising}

-- a test, and that it is true exactly where P holds
abbrev pub Verdict : Type 0 → Type 0
Verdict P = (b : Bool) × Decides b P

-- ---- single tests

-- the test of what always holds
abbrev pub always : Verdict (Unit {0})
always = (true, (λ _. tt, λ _. refl))

-- the test of what never does
abbrev pub never : Verdict ⊥
never = (false, (λ e. true≢false (sym e), λ bad. absurd bad))

-- the test that a test passes
abbrev pub passes : (b : Bool) → Verdict (b ≡ true)
passes b = (b, (λ e. e, λ e. e))

pub not_decided : (b : Bool) → Decides (not b) (b ≡ false)
not_decided true = (λ e. sym e, λ e. sym e)
not_decided false = (λ _. refl, λ _. refl)

-- the test that a test fails
abbrev pub fails : (b : Bool) → Verdict (b ≡ false)
fails b = (not b, not_decided b)

-- the test that a number is at most another
abbrev pub at_most : (m n : ℕ) → Verdict (m ≤ n)
at_most m n = (nat_le m n, (leb-true m n, le-leb m n))

-- the test that a number is below another
abbrev pub below : (m n : ℕ) → Verdict (m < n)
below m n = (nat_lt m n, Decides-ltb m n)

-- the test that two numbers are equal
abbrev pub equal : (m n : ℕ) → Verdict (m ≡ n)
equal m n = (m == n, Decides-eqb m n)

-- the test that two numbers differ
abbrev pub differ : (m n : ℕ) → Verdict (m ≢ n)
differ m n = (not (m == n), Decides-not (m == n) (Decides-eqb m n))

pub absent_decided : {X : Type 0} → (o : Option X) → Decides (is_none o) (o ≡ None)
absent_decided None = (λ _. refl, λ _. refl)
absent_decided (Some x) = (λ e. absurd (true≢false (sym e)), λ e. ap is_none e)

-- the test that there is no value
abbrev pub absent : {X : Type 0} → (o : Option X) → Verdict (o ≡ None)
absent o = (is_none o, absent_decided o)

-- the test that a list is empty
abbrev pub vacant : {X : Type 0} → (xs : List X) → Verdict (xs ≡ [])
vacant xs = (length xs == 0, (λ e. nil_from_length xs (eqb-true (length xs) 0 e), λ e. ap (λ ys. length ys == 0) e))

-- ---- tests of several things

-- the same test of something that says the same
abbrev pub said_as : {P Q : Type 0} → Verdict P → (P → Q) → (Q → P) → Verdict Q
said_as v to from = (v.0, Decides-like v.0 to from v.1)

infixr 20 ◌&◌
-- the test of one and the other
abbrev pub ◌&◌ : {P Q : Type 0} → Verdict P → Verdict Q → Verdict (P × Q)
v & w = (v.0 && w.0, Decides-and v.0 w.0 v.1 w.1)

pub passes_decided : {P : Type 0} → (b : Bool) → (v : Verdict P) → Decides (not b || v.0) (b ≡ true → P)
passes_decided true v = (λ e _. v.1.0 e, λ f. v.1.1 (f refl))
passes_decided false v = (λ _ e. absurd (true≢false (sym e)), λ _. refl)

-- the test of what is asked where a test passes
abbrev pub where_passes : {P : Type 0} → (b : Bool) → Verdict P → Verdict (b ≡ true → P)
where_passes b v = (not b || v.0, passes_decided b v)

pub fails_decided : {P : Type 0} → (b : Bool) → (v : Verdict P) → Decides (b || v.0) (b ≡ false → P)
fails_decided true v = (λ _ e. absurd (true≢false e), λ _. refl)
fails_decided false v = (λ e _. v.1.0 e, λ f. v.1.1 (f refl))

-- the test of what is asked where a test fails
abbrev pub where_fails : {P : Type 0} → (b : Bool) → Verdict P → Verdict (b ≡ false → P)
where_fails b v = (b || v.0, fails_decided b v)

-- the test of a value, if there is one
abbrev pub if_some : {X : Type 0} → {P : X → Type 0} → (o : Option X) → ((x : X) → Verdict (P x)) → Verdict (IfSome o P)
if_some None test = always
if_some (Some x) test = test x

-- the test that there is a value of which it holds
abbrev pub with_some : {X : Type 0} → {P : X → Type 0} → (o : Option X) → ((x : X) → Verdict (P x)) → Verdict ((x : X) × (o ≡ Some x) × P x)
with_some None test = (false, (λ e. absurd (true≢false (sym e)), λ found. sym (ap is_none found.1)))
with_some {P = P} (Some x) test = said_as (test x) (λ p. (x, refl, p)) (λ found. subst P (sym (ap (λ o. unwrap_or o x) found.1)) found.2)

-- ---- tests of lists

pub each_decided : {X : Type 0} → {P : X → Type 0} → (test : (x : X) → Verdict (P x)) → (xs : List X) → Decides (list_all (λ x. (test x).0) xs) (Each P xs)
each_decided test [] = (λ _. tt, λ _. refl)
each_decided test (x ∷ xs) = Decides-and (test x).0 (list_all (λ y. (test y).0) xs) (test x).1 (each_decided test xs)

-- the test of each element
abbrev pub each : {X : Type 0} → {P : X → Type 0} → (xs : List X) → ((x : X) → Verdict (P x)) → Verdict (Each P xs)
each xs test = (list_all (λ x. (test x).0) xs, each_decided test xs)

-- the test of each with those behind it
abbrev pub pairs : {X : Type 0} → {R : X → X → Type 0} → (xs : List X) → ((x y : X) → Verdict (R x y)) → Verdict (Pairs R xs)
pairs [] test = always
pairs (x ∷ xs) test = each xs (test x) & pairs xs test

-- the test that keys rise, above the one and up to the other
abbrev pub rising : {X : Type 0} → (key : X → ℕ) → (above last : ℕ) → (xs : List X) → Verdict (AreRising key above last xs)
rising key above last [] = at_most above last
rising key above last (x ∷ xs) = below above (key x) & rising key (key x) last xs
