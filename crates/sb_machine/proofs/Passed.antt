-- What a test that was passed says.
use Rattle.std.proofs.Common.{◌≡◌, ◌≤◌, ℕ, List, Bool, true, false, ◌&&◌, ◌||◌, nat_le, cond, Option, Some, None, refl, ◌⊎◌, inl, inr}
use Rattle.std.specs.Prelude.{is_none}
use Rattle.std.proofs.lemmas.Bool.{leb-true}
use Rattle.sb_machine.specs.Descriptions.{is_fit}
use Rattle.sb_machine.specs.Fields.{first_some, unless, is_between}
use Rattle.sb_machine.specs.Messages.{above, first_size}

pub both : (a b : Bool) → (a && b) ≡ true → (a ≡ true) × (b ≡ true)
both true true e = (refl, refl)
both true false e = absurd cc
both false b e = absurd cc

pub both_true : (a b : Bool) → a ≡ true → b ≡ true → (a && b) ≡ true
both_true true true e f = refl
both_true true false e f = absurd cc
both_true false b e f = absurd cc

pub not_both : (a b : Bool) → (a ≡ true → b ≡ true → ⊥) → (a && b) ≡ false
not_both true true never = absurd (never refl refl)
not_both true false never = refl
not_both false b never = refl

pub either : (a b : Bool) → (a || b) ≡ true → (a ≡ true) ⊎ (b ≡ true)
either true b e = inl refl
either false b e = inr e

pub first_none : (a b : Option (List ℕ)) → first_some a b ≡ None → (a ≡ None) × (b ≡ None)
first_none None b none = (refl, none)
first_none (Some key) b none = absurd cc

pub unless_none : (passes : Bool) (key : List ℕ) → unless passes key ≡ None → passes ≡ true
unless_none true key none = refl
unless_none false key none = absurd cc

pub first_size_none : (a b : Option ℕ) → first_size a b ≡ None → (a ≡ None) × (b ≡ None)
first_size_none None b none = (refl, none)
first_size_none (Some size) b none = absurd cc

pub above_none : (most size : ℕ) → above most size ≡ None → size ≤ most
above_none most size none = by_test (nat_le size most) refl none where
  by_test : (t : Bool) → nat_le size most ≡ t → cond t None (Some size) ≡ None → size ≤ most
  by_test true is e = leb-true size most is
  by_test false is e = absurd cc

pub none_is : {A : Type 0} (o : Option A) → is_none o ≡ true → o ≡ None
none_is None e = refl
none_is (Some a) e = absurd cc

pub between_most : (low high n : ℕ) → is_between low high n ≡ true → n ≤ high
between_most low high n is = leb-true n high (both (nat_le low n) (nat_le n high) is).1

pub fit : (has good default : Bool) → is_fit has good default ≡ true → (good ≡ true) ⊎ (default ≡ true)
fit true good default e = inl e
fit false good default e = inr e
