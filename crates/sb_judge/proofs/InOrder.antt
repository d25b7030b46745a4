-- Where each stands before the next, each stands before all that follow it.
use Rattle.std.proofs.Common.{◌≡◌, ℕ, refl, ap, ◌∙◌, Bool, true, false, ◌&&◌, ◌||◌, ◌==◌, nat_lt, List, [], ◌∷◌, arith}
use Rattle.std.proofs.lemmas.Bool.Decides.{nat_tests}
use Rattle.std.proofs.lemmas.Cmp.{nat_list_cmp_total}
use Rattle.std.specs.Cmp.Lexicographic.{slice_cmp}
use Rattle.std.specs.List.{list_all}
use Rattle.std.specs.Ordering.{nat_cmp, is_lt}
use Rattle.std.specs.declared.cmp.Ordering.{Ordering}
use Rattle.std.specs.declared.cmp.Ordering.TheVariants.{Less, Equal, Greater}
use Rattle.sb_machine.specs.Changes.{is_earlier}
use Rattle.sb_machine.specs.Names.{is_before}
use Rattle.sb_machine.specs.declared.rule.Rule.{Rule}
use Rattle.sb_machine.specs.declared.state.AcceptedId.{AcceptedId}
use Rattle.sb_machine.specs.declared.state.Kept.{Kept}
use Rattle.sb_machine.specs.declared.state.Session.{Session}
use Rattle.sb_model.specs.SystemNames.{system_code}
use Rattle.sb_model.specs.declared.message.Property.{Property}
use Rattle.sb_model.specs.declared.message.SystemText.{SystemText}
use Rattle.sb_judge.specs.Orders.{is_on, is_on_from, IsOnward}
use Rattle.sb_judge.specs.Verdicts.{pairs, passes}

and_none : (a : Bool) → false ≡ (a && false)
and_none true = refl
and_none false = refl

joined : (b y x p : Bool) → (b ≡ true → y ≡ true → x ≡ true) → (b && (y && p)) ≡ ((b && x) && (y && p))
joined false y x p all = refl
joined true false x p all = and_none x
joined true true true p all = refl
joined true true false p all = let bad : false ≡ true = all refl refl in absurd cc

module _ {X : Type 0} (before : X → X → Bool) (onward : IsOnward before) where
  all_behind : (x y : X) (xs : List X) → before x y ≡ true → list_all (before y) xs ≡ true → list_all (before x) xs ≡ true
  all_behind x y [] e all = refl
  all_behind x y (z ∷ zs) e all = at (before y z) refl (all_behind x y zs e) where
    at : (b : Bool) → before y z ≡ b → (list_all (before y) zs ≡ true → list_all (before x) zs ≡ true) → (before x z && list_all (before x) zs) ≡ true
    at true is ih = let rest : list_all (before y) zs ≡ true = rw is at all in rw (onward x y z e is) (ih rest)
    at false is ih = let bad : false ≡ true = rw is at all in absurd cc

  on_from : (x : X) (xs : List X) → is_on_from before x xs ≡ (list_all (before x) xs && (pairs xs (λ a b. passes (before a b))).0)
  on_from x [] = refl
  on_from x (y ∷ ys) =
      ap (λ t. before x y && t) (on_from y ys)
      ∙ joined (before x y) (list_all (before y) ys) (list_all (before x) ys) (pairs ys (λ a b. passes (before a b))).0 (all_behind x y ys)

  on_all : (xs : List X) → is_on before xs ≡ (pairs xs (λ a b. passes (before a b))).0
  on_all [] = refl
  on_all (x ∷ xs) = on_from x xs

-- ---- orders

pub less_is : (o : Ordering) → is_lt o ≡ true → o ≡ Less
less_is Less e = refl
less_is Equal e = absurd cc
less_is Greater e = absurd cc

pub text_later : IsOnward is_before
text_later a b c p q = ap is_lt (nat_list_cmp_total.trans a b c (less_is (slice_cmp nat_cmp a b) p) (less_is (slice_cmp nat_cmp b c) q))

number_later : (a b c : ℕ) → nat_lt a b ≡ true → nat_lt b c ≡ true → nat_lt a c ≡ true
number_later a b c p q = grind (arith, nat_tests)

pub texts : (xs : List SystemText) → is_on (λ a b. nat_lt (system_code a.name) (system_code b.name)) xs ≡ (pairs xs (λ a b. passes (nat_lt (system_code a.name) (system_code b.name)))).0
texts xs = on_all (λ a b. nat_lt (system_code a.name) (system_code b.name)) (λ a b c p q. number_later (system_code a.name) (system_code b.name) (system_code c.name) p q) xs

pub properties : (xs : List Property) → is_on (λ a b. is_before a.name b.name) xs ≡ (pairs xs (λ a b. passes (is_before a.name b.name))).0
properties xs = on_all (λ a b. is_before a.name b.name) (λ a b c p q. text_later a.name b.name c.name p q) xs

pub sessions : (xs : List Session) → is_on (λ a b. is_before a.id b.id) xs ≡ (pairs xs (λ a b. passes (is_before a.id b.id))).0
sessions xs = on_all (λ a b. is_before a.id b.id) (λ a b c p q. text_later a.id b.id c.id p q) xs

pub rules_by_name : (xs : List Rule) → is_on (λ a b. is_before a.name b.name) xs ≡ (pairs xs (λ a b. passes (is_before a.name b.name))).0
rules_by_name xs = on_all (λ a b. is_before a.name b.name) (λ a b c p q. text_later a.name b.name c.name p q) xs

pub clients : (xs : List Kept) → is_on (λ a b. is_before a.client b.client) xs ≡ (pairs xs (λ a b. passes (is_before a.client b.client))).0
clients xs = on_all (λ a b. is_before a.client b.client) (λ a b c p q. text_later a.client b.client c.client p q) xs

-- by moment, then id
lower : (s t u : ℕ) (e d f : Bool) → (e ≡ true → d ≡ true → f ≡ true) → (nat_lt s t || ((s == t) && e)) ≡ true → (nat_lt t u || ((t == u) && d)) ≡ true → (nat_lt s u || ((s == u) && f)) ≡ true
lower s t u true true true all p q = grind (arith, nat_tests)
lower s t u true true false all p q = let bad : false ≡ true = all refl refl in absurd cc
lower s t u true false f all p q = grind (arith, nat_tests)
lower s t u false d f all p q = grind (arith, nat_tests)

pub ids : (xs : List AcceptedId) → is_on (λ a b. is_earlier b.moment b.id a) xs ≡ (pairs xs (λ a b. passes (is_earlier b.moment b.id a))).0
ids xs = on_all (λ a b. is_earlier b.moment b.id a) (λ a b c p q. lower a.moment b.moment c.moment (is_before a.id b.id) (is_before b.id c.id) (is_before a.id c.id) (text_later a.id b.id c.id) p q) xs
