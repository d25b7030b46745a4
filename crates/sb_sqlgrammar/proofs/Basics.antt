-- The readers of properties and basic parts are exact.
use Rattle.std.proofs.Common.{◌≡◌, ℕ, ◌≤◌, Bool, true, false, List, [], ◌∷◌, ◌++◌, Option, Some, Err, refl, ap, sym, append-nil, subst, inl, inr, arith}
use Rattle.std.specs.Prelude.{nat_le, pos}
use Rattle.std.specs.Str.{str_to_ascii_lowercase}
use Rattle.std.proofs.lemmas.Bool.Decides.{nat_tests}
use Rattle.sb_model.specs.declared.message.PropertyValue.TheVariants as property_value
use Rattle.sb_model.specs.declared.expression.PropertyName.{PropertyName}
use Rattle.sb_model.specs.declared.expression.PropertyName.TheVariants.{User, System}
use Rattle.sb_model.specs.declared.expression.UnaryOperator.{UnaryOperator}
use Rattle.sb_model.specs.declared.expression.UnaryOperator.TheVariants as unary_operator
use Rattle.sb_model.specs.declared.expression.BinaryOperator.{BinaryOperator}
use Rattle.sb_model.specs.Expressions.{Term, constant, property, existing, unary}
use Rattle.sb_model.specs.declared.token.Kind.{Kind}
use Rattle.sb_model.specs.declared.token.Kind.TheVariants.{Constant, Name, Open, Close, Dot, Binary, Not, In, Like, Escape, Is, Exists}
use Rattle.sb_model.specs.declared.token.Role.{Role}
use Rattle.sb_model.specs.declared.token.Role.TheVariants.{Plain, Function, SystemScope, UserScope}
use Rattle.sb_model.specs.Readers.{Reader, Grammar, pure, one, next, either, Nothing, One, Next, Either}
use Rattle.sb_sqlgrammar.specs.Exact.{Stops, Exact, Example}
use Rattle.sb_model.specs.Language.{Part, or_part, not_part, sum_part, sign_part, binding, sign_of, Property, alone, of_user, of_system, Basic, value, exists, named as named_case, of_message, group, Sign, unsigned, signed}
use Rattle.sb_model.specs.Reading.{when, is_open, closing, is_dot, named, user_named, system_named, after_name, name, Lead, leaf, naming, calling, asking, grouping, lead, after_lead, basic, is_sign, sign}
use Rattle.sb_sqlgrammar.proofs.Readers.{exact_pure, exact_one, exact_next, exact_either, exact_as, apart_from, apart_pure, stops_in}

-- how tight a token holds to the operand before it
abbrev pub tight : Kind → ℕ
tight Open = 6
tight Dot = 6
tight (Binary op) = binding op
tight In = 3
tight Like = 3
tight Is = 3
tight Not = 3
tight Escape = 3
tight _ = 0

abbrev pub from : ℕ → Kind → Bool
from n k = nat_le n (tight k)

pub looser : (m n : ℕ) → m ≤ n → (k : Kind) → from m k ≡ false → from n k ≡ false
looser m n le k e = nat_falls m n (tight k) le e where
  nat_falls : (m n x : ℕ) → m ≤ n → nat_le m x ≡ false → nat_le n x ≡ false
  nat_falls m n x le e = grind (arith, nat_tests)

abbrev pub goes : Part → Kind → Bool
goes or_part = from 1
goes not_part = from 3
goes sum_part = from 4
goes sign_part = from 6

-- what may stand in nested places is read exactly, and there is some
pub record Nested (low : Part → Reader Kind Term) (glow : Part → Grammar Kind Term) : Type 0 where
  pub reads : (p : Part) → Exact (low p) (glow p) (goes p)
  pub example : (p : Part) → Example (glow p)

pub stops_none : {K : Type 0} (u : List K) → Stops (λ k. false) u
stops_none [] = tt
stops_none (k ∷ u) = refl

pub then_pure : {A T : Type 0} (R : Reader Kind A) (S : Grammar Kind A) (g h : Kind → Bool) (F : A → T) → ((k : Kind) → h k ≡ false → g k ≡ false) → Exact R S g
    → Exact (next R (λ a. pure (F a))) (Next S (λ a. Nothing (F a))) h
then_pure R S g h F sub r =
    exact_next R S g (λ a. pure (F a)) (λ a. Nothing (F a)) h r (λ a. exact_pure (F a) h) (λ a. record { tokens = []; tree = F a; spelled = record { no_token = refl; tree = refl } })
    (λ a u t rest s stops. rw s.no_token (stops_in h g sub rest stops))

pub closing_is : {T : Type 0} (x t : T) (k : Kind) → closing x k ≡ Some t → (k ≡ Close) × (t ≡ x)
closing_is x t Close e = (refl, cc)
closing_is x t _ e = absurd cc

pub then_close : {A T : Type 0} (R : Reader Kind A) (S : Grammar Kind A) (g h : Kind → Bool) (F : A → T) → g Close ≡ false → Exact R S g
    → Exact (next R (λ a. one (closing (F a)))) (Next S (λ a. One (closing (F a)))) h
then_close R S g h F free r =
    exact_next R S g (λ a. one (closing (F a))) (λ a. One (closing (F a))) h r (λ a. exact_one (closing (F a)) Close (F a) refl h)
    (λ a. record { tokens = Close ∷ []; tree = F a; spelled = record { token = Close; alone = refl; tree = refl } })
    (λ a u t rest s stops. rw (s.alone, (closing_is (F a) t s.token s.tree).0) free)

-- an example with a parenthesis behind it
pub example_closed : {A T : Type 0} (S : Grammar Kind A) (F : A → T) → Example S → Example (Next S (λ a. One (closing (F a))))
example_closed S F x = record { tokens = x.tokens ++ Close ∷ []; tree = F x.tree; spelled = record { front = x.tokens; first = x.tree; back = Close ∷ []; split = refl; begins = x.spelled; follows = record { token = Close; alone = refl; tree = refl } } }

pub when_is : {A : Type 0} (b : Bool) (o : Option A) (x : A) → when b o ≡ Some x → (b ≡ true) × (o ≡ Some x)
when_is true o x e = (refl, e)
when_is false o x e = absurd cc

pub open_is : (k : Kind) (o : Unit {0}) → is_open k ≡ Some o → k ≡ Open
open_is Open o e = refl
open_is _ o e = absurd cc

dot_is : (k : Kind) (o : Unit {0}) → is_dot k ≡ Some o → k ≡ Dot
dot_is Dot o e = refl
dot_is _ o e = absurd cc

named_is : (k : Kind) (x : Role × List ℕ) → named k ≡ Some x → k ≡ Name x.0 x.1
named_is (Name r s) x e = let same : (r, s) ≡ x = cc in ap (λ (y : Role × List ℕ). Name y.0 y.1) same
named_is _ x e = absurd cc

user_is : (w : List ℕ) (k : Kind) (n : PropertyName) → user_named k ≡ Some n → Property (Name UserScope w ∷ Dot ∷ k ∷ []) n
user_is w (Name r s) n e = let same : User (str_to_ascii_lowercase s) ≡ n = cc in rw (← same) of_user
user_is w _ n e = absurd cc

system_is : (w : List ℕ) (k : Kind) (n : PropertyName) → system_named k ≡ Some n → Property (Name SystemScope w ∷ Dot ∷ k ∷ []) n
system_is w (Name r s) n e = let same : System s ≡ n = cc in rw (← same) of_system
system_is w _ n e = absurd cc

-- property
AfterName : Role → List ℕ → Grammar Kind PropertyName
AfterName UserScope s = Either is_dot (λ o. One user_named) (Nothing (User (str_to_ascii_lowercase s)))
AfterName SystemScope s = Either is_dot (λ o. One system_named) (Nothing (User (str_to_ascii_lowercase s)))
AfterName _ s = Nothing (User (str_to_ascii_lowercase s))

dot_goes : (k : Kind) (o : Unit {0}) → is_dot k ≡ Some o → from 6 k ≡ true
dot_goes k o e = rw (dot_is k o e) refl

exact_after_name : (r : Role) (s : List ℕ) → Exact (after_name r s) (AfterName r s) (from 6)
unfolding AfterName
exact_after_name Plain s = exact_pure (User (str_to_ascii_lowercase s)) (from 6)
exact_after_name Function s = exact_pure (User (str_to_ascii_lowercase s)) (from 6)
exact_after_name UserScope s = exact_either is_dot (λ o. one user_named) (λ o. One user_named) (pure (User (str_to_ascii_lowercase s))) (Nothing (User (str_to_ascii_lowercase s))) (from 6)
    (λ o. exact_one user_named (Name Plain []) (User (str_to_ascii_lowercase [])) refl (from 6))
    (exact_pure (User (str_to_ascii_lowercase s)) (from 6))
    (apart_pure is_dot (User (str_to_ascii_lowercase s)) (from 6) dot_goes)
exact_after_name SystemScope s = exact_either is_dot (λ o. one system_named) (λ o. One system_named) (pure (User (str_to_ascii_lowercase s))) (Nothing (User (str_to_ascii_lowercase s))) (from 6)
    (λ o. exact_one system_named (Name Plain []) (System []) refl (from 6))
    (exact_pure (User (str_to_ascii_lowercase s)) (from 6))
    (apart_pure is_dot (User (str_to_ascii_lowercase s)) (from 6) dot_goes)

name_alone : (r : Role) (s : List ℕ) → AfterName r s [] (User (str_to_ascii_lowercase s))
unfolding AfterName
name_alone Plain s = record { no_token = refl; tree = refl }
name_alone Function s = record { no_token = refl; tree = refl }
name_alone UserScope s = inl (record { no_token = refl; tree = refl })
name_alone SystemScope s = inl (record { no_token = refl; tree = refl })

to_name : (r : Role) (s : List ℕ) (back : List Kind) (n : PropertyName) → AfterName r s back n → Property (Name r s ∷ back) n
unfolding AfterName
to_name Plain s back n a = rw (a.no_token, a.tree) alone
to_name Function s back n a = rw (a.no_token, a.tree) alone
to_name UserScope s back n (inl a) = rw (a.no_token, a.tree) alone
to_name UserScope s back n (inr a) =
    rw (a.split, dot_is a.token a.class a.is, a.follows.alone) (user_is s a.follows.token n a.follows.tree)
to_name SystemScope s back n (inl a) = rw (a.no_token, a.tree) alone
to_name SystemScope s back n (inr a) =
    rw (a.split, dot_is a.token a.class a.is, a.follows.alone) (system_is s a.follows.token n a.follows.tree)

abbrev Named : Grammar Kind PropertyName
Named = Next (One named) (λ x. AfterName x.0 x.1)

from_name : (u : List Kind) (n : PropertyName) → Property u n → Named u n
unfolding AfterName
from_name _ _ (alone {r = r} {s = s}) = record { front = Name r s ∷ []; first = (r, s); back = []; split = refl; begins = record { token = Name r s; alone = refl; tree = refl }; follows = name_alone r s }
from_name _ _ (of_user {r = r} {w = w} {s = s}) = record { front = Name UserScope w ∷ []; first = (UserScope, w); back = Dot ∷ Name r s ∷ []; split = refl; begins = record { token = Name UserScope w; alone = refl; tree = refl }; follows = inr (record { token = Dot; class = tt; back = Name r s ∷ []; split = refl; is = refl; follows = record { token = Name r s; alone = refl; tree = refl } }) }
from_name _ _ (of_system {r = r} {w = w} {s = s}) = record { front = Name SystemScope w ∷ []; first = (SystemScope, w); back = Dot ∷ Name r s ∷ []; split = refl; begins = record { token = Name SystemScope w; alone = refl; tree = refl }; follows = inr (record { token = Dot; class = tt; back = Name r s ∷ []; split = refl; is = refl; follows = record { token = Name r s; alone = refl; tree = refl } }) }

pub exact_name : Exact name Property (from 6)
unfolding name
exact_name =
    exact_as (next (one named) (λ x. after_name x.0 x.1)) Named Property (from 6)
    (exact_next (one named) (One named) (λ k. false) (λ x. after_name x.0 x.1) (λ x. AfterName x.0 x.1) (from 6)
    (exact_one named (Name Plain []) (Plain, []) refl (λ k. false))
    (λ x. exact_after_name x.0 x.1)
    (λ x. record { tokens = []; tree = User (str_to_ascii_lowercase x.1); spelled = name_alone x.0 x.1 })
    (λ a u t rest s stops. stops_none (u ++ rest)))
    (λ u n s. rw (s.split, s.begins.alone, named_is s.begins.token s.first s.begins.tree) (to_name s.first.0 s.first.1 s.back n s.follows))
    from_name

pub example_name : Example Property
example_name = record { tokens = Name Plain [] ∷ []; tree = User (str_to_ascii_lowercase []); spelled = alone }

-- basic
AfterLead : Bool → (Part → Grammar Kind Term) → Lead → Grammar Kind Term
AfterLead deep low (leaf t) = Nothing t
AfterLead deep low (naming r s) = Next (AfterName r s) (λ n. Nothing (property n))
AfterLead deep low (calling s) = Either (λ k. when deep (is_open k)) (λ o. Next (low sum_part) (λ t. One (closing (unary unary_operator.PropertyNamed t)))) (Nothing (property (User (str_to_ascii_lowercase s))))
AfterLead deep low asking = Next (One is_open) (λ o. Next Property (λ n. One (closing (existing n))))
AfterLead deep low grouping = Next (low or_part) (λ t. One (closing t))

opens : (deep : Bool) (k : Kind) (o : Unit {0}) → when deep (is_open k) ≡ Some o → (k ≡ Open) × (deep ≡ true)
opens deep k o e = let w = when_is deep (is_open k) o e in (open_is k o w.1, w.0)

to_naming : (deep : Bool) (low : Part → Grammar Kind Term) (r : Role) (s : List ℕ) (back : List Kind) (t : Term) → Next (AfterName r s) (λ n. Nothing (property n)) back t → Basic deep low (Name r s ∷ back) t
to_naming deep low r s back t x =
    let p : Property (Name r s ∷ x.front) x.first = to_name r s x.front x.first x.begins in
    rw (x.split, x.follows.no_token, x.follows.tree, append-nil x.front) (of_message p)

to_calling : (deep : Bool) (low : Part → Grammar Kind Term) (s : List ℕ) (back : List Kind) (t : Term) → AfterLead deep low (calling s) back t → Basic deep low (Name Function s ∷ back) t
unfolding AfterLead
to_calling deep low s back t (inl x) = rw (x.no_token, x.tree) (of_message alone)
to_calling deep low s back t (inr x) =
    let o = opens deep x.token x.class x.is in
    let c = closing_is (unary unary_operator.PropertyNamed x.follows.first) t x.follows.follows.token x.follows.follows.tree in
    rw (x.split, o.0, x.follows.split, x.follows.follows.alone, c.0, c.1) (named_case o.1 x.follows.begins)

to_asking : (low : Part → Grammar Kind Term) (back : List Kind) (t : Term) → AfterLead true low asking back t → Basic true low (Exists ∷ back) t
unfolding AfterLead
to_asking low back t x =
    let c = closing_is (existing x.follows.first) t x.follows.follows.token x.follows.follows.tree in
    rw (x.split, x.begins.alone, open_is x.begins.token x.first x.begins.tree, x.follows.split, x.follows.follows.alone, c.0, c.1) (exists refl x.follows.begins)

to_grouping : (low : Part → Grammar Kind Term) (back : List Kind) (t : Term) → AfterLead true low grouping back t → Basic true low (Open ∷ back) t
unfolding AfterLead
to_grouping low back t x =
    let c = closing_is x.first t x.follows.token x.follows.tree in
    rw (x.split, x.follows.alone, c.0, c.1) (group refl x.begins)

to_basic : (deep : Bool) (low : Part → Grammar Kind Term) (k : Kind) (l : Lead) (back : List Kind) (t : Term) → lead deep k ≡ Some l → AfterLead deep low l back t → Basic deep low (k ∷ back) t
unfolding AfterLead
to_basic deep low (Constant v) l back t e s = let same : leaf (constant v) ≡ l = cc in leaf_case (subst (λ (x : Lead). AfterLead deep low x back t) (sym same) s) where
  leaf_case : Nothing (constant v) back t → Basic deep low (Constant v ∷ back) t
  leaf_case n = rw (n.no_token, n.tree) value
to_basic deep low (Name Function w) l back t e s = let same : calling w ≡ l = cc in to_calling deep low w back t (subst (λ (x : Lead). AfterLead deep low x back t) (sym same) s)
to_basic deep low (Name Plain w) l back t e s = let same : naming Plain w ≡ l = cc in to_naming deep low Plain w back t (subst (λ (x : Lead). AfterLead deep low x back t) (sym same) s)
to_basic deep low (Name UserScope w) l back t e s = let same : naming UserScope w ≡ l = cc in to_naming deep low UserScope w back t (subst (λ (x : Lead). AfterLead deep low x back t) (sym same) s)
to_basic deep low (Name SystemScope w) l back t e s = let same : naming SystemScope w ≡ l = cc in to_naming deep low SystemScope w back t (subst (λ (x : Lead). AfterLead deep low x back t) (sym same) s)
to_basic true low Exists l back t e s = let same : asking ≡ l = cc in to_asking low back t (subst (λ (x : Lead). AfterLead true low x back t) (sym same) s)
to_basic true low Open l back t e s = let same : grouping ≡ l = cc in to_grouping low back t (subst (λ (x : Lead). AfterLead true low x back t) (sym same) s)
to_basic false low Exists l back t e s = absurd cc
to_basic false low Open l back t e s = absurd cc
to_basic deep low _ l back t e s = absurd cc

user_dotted : (w : List ℕ) (r : Role) (s : List ℕ) → AfterName UserScope w (Dot ∷ Name r s ∷ []) (User (str_to_ascii_lowercase s))
unfolding AfterName
user_dotted w r s = inr (record { token = Dot; class = tt; back = Name r s ∷ []; split = refl; is = refl; follows = record { token = Name r s; alone = refl; tree = refl } })

system_dotted : (w : List ℕ) (r : Role) (s : List ℕ) → AfterName SystemScope w (Dot ∷ Name r s ∷ []) (System s)
unfolding AfterName
system_dotted w r s = inr (record { token = Dot; class = tt; back = Name r s ∷ []; split = refl; is = refl; follows = record { token = Name r s; alone = refl; tree = refl } })

from_property : (deep : Bool) (low : Part → Grammar Kind Term) (u : List Kind) (n : PropertyName) → Property u n → Next (One (lead deep)) (AfterLead deep low) u (property n)
unfolding AfterLead
from_property deep low _ _ (alone {r = r} {s = s}) = at r where
  plainly : (r : Role) → lead deep (Name r s) ≡ Some (naming r s) → Next (One (lead deep)) (AfterLead deep low) (Name r s ∷ []) (property (User (str_to_ascii_lowercase s)))
  plainly r is = record { front = Name r s ∷ []; first = naming r s; back = []; split = refl; begins = record { token = Name r s; alone = refl; tree = is }; follows = record { front = []; first = User (str_to_ascii_lowercase s); back = []; split = refl; begins = name_alone r s; follows = record { no_token = refl; tree = refl } } }

  at : (r : Role) → Next (One (lead deep)) (AfterLead deep low) (Name r s ∷ []) (property (User (str_to_ascii_lowercase s)))
  at Function = record { front = Name Function s ∷ []; first = calling s; back = []; split = refl; begins = record { token = Name Function s; alone = refl; tree = refl }; follows = inl (record { no_token = refl; tree = refl }) }
  at Plain = plainly Plain refl
  at UserScope = plainly UserScope refl
  at SystemScope = plainly SystemScope refl
from_property deep low _ _ (of_user {r = r} {w = w} {s = s}) =
    record { front = Name UserScope w ∷ []; first = naming UserScope w; back = Dot ∷ Name r s ∷ []; split = refl; begins = record { token = Name UserScope w; alone = refl; tree = refl }; follows = record { front = Dot ∷ Name r s ∷ []; first = User (str_to_ascii_lowercase s); back = []; split = refl; begins = user_dotted w r s; follows = record { no_token = refl; tree = refl } } }
from_property deep low _ _ (of_system {r = r} {w = w} {s = s}) =
    record { front = Name SystemScope w ∷ []; first = naming SystemScope w; back = Dot ∷ Name r s ∷ []; split = refl; begins = record { token = Name SystemScope w; alone = refl; tree = refl }; follows = record { front = Dot ∷ Name r s ∷ []; first = System s; back = []; split = refl; begins = system_dotted w r s; follows = record { no_token = refl; tree = refl } } }

from_basic : (deep : Bool) (low : Part → Grammar Kind Term) (u : List Kind) (t : Term) → Basic deep low u t → Next (One (lead deep)) (AfterLead deep low) u t
unfolding AfterLead
from_basic deep low _ _ (value {v = v}) = record { front = Constant v ∷ []; first = leaf (constant v); back = []; split = refl; begins = record { token = Constant v; alone = refl; tree = refl }; follows = record { no_token = refl; tree = refl } }
from_basic deep low _ _ (exists {u = u} {n = n} on s) = record {
  front = Exists ∷ [];
  first = asking;
  back = Open ∷ (u ++ Close ∷ []);
  split = refl;
  begins = record { token = Exists; alone = refl; tree = rw on refl };
  follows = record { front = Open ∷ []; first = tt; back = u ++ Close ∷ []; split = refl; begins = record { token = Open; alone = refl; tree = refl }; follows = record { front = u; first = n; back = Close ∷ []; split = refl; begins = s; follows = record { token = Close; alone = refl; tree = refl } } };
}
from_basic deep low _ _ (named_case {s = w} {u = u} {t = t} on s) = record {
  front = Name Function w ∷ [];
  first = calling w;
  back = Open ∷ (u ++ Close ∷ []);
  split = refl;
  begins = record { token = Name Function w; alone = refl; tree = refl };
  follows = inr (record { token = Open; class = tt; back = u ++ Close ∷ []; split = refl; is = rw on refl; follows = record { front = u; first = t; back = Close ∷ []; split = refl; begins = s; follows = record { token = Close; alone = refl; tree = refl } } });
}
from_basic deep low _ _ (of_message {u = u} {n = n} s) = from_property deep low u n s
from_basic deep low _ _ (group {u = u} {t = t} on s) = record { front = Open ∷ []; first = grouping; back = u ++ Close ∷ []; split = refl; begins = record { token = Open; alone = refl; tree = rw on refl }; follows = record { front = u; first = t; back = Close ∷ []; split = refl; begins = s; follows = record { token = Close; alone = refl; tree = refl } } }

exact_basic : (deep : Bool) (low : Part → Reader Kind Term) (glow : Part → Grammar Kind Term) → Nested low glow → Exact (basic deep low) (Basic deep glow) (from 6)
unfolding basic AfterLead
exact_basic deep low glow l =
    exact_as (next (one (lead deep)) (after_lead deep low)) (Next (One (lead deep)) (AfterLead deep glow)) (Basic deep glow) (from 6)
    (exact_next (one (lead deep)) (One (lead deep)) (λ k. false) (after_lead deep low) (AfterLead deep glow) (from 6)
    (exact_one (lead deep) (Constant (property_value.Int (pos 0))) (leaf (constant (property_value.Int (pos 0)))) refl (λ k. false)) after example (λ a u t rest s stops. stops_none (u ++ rest)))
    (λ u t s. rw (s.split, s.begins.alone) (to_basic deep glow s.begins.token s.first s.back t s.begins.tree s.follows))
    (λ u t s. from_basic deep glow u t s) where
      asked : Exact (next name (λ n. one (closing (existing n)))) (Next Property (λ n. One (closing (existing n)))) (from 6)
      asked = then_close name Property (from 6) (from 6) existing refl exact_name

      after : (a : Lead) → Exact (after_lead deep low a) (AfterLead deep glow a) (from 6)
      after (leaf t) = exact_pure t (from 6)
      after (naming r s) = then_pure (after_name r s) (AfterName r s) (from 6) (from 6) property (λ k e. e) (exact_after_name r s)
      after (calling s) = exact_either (λ k. when deep (is_open k)) (λ o. next (low sum_part) (λ t. one (closing (unary unary_operator.PropertyNamed t)))) (λ o. Next (glow sum_part) (λ t. One (closing (unary unary_operator.PropertyNamed t)))) (pure (property (User (str_to_ascii_lowercase s)))) (Nothing (property (User (str_to_ascii_lowercase s)))) (from 6)
          (λ o. then_close (low sum_part) (glow sum_part) (from 4) (from 6) (unary unary_operator.PropertyNamed) refl (l.reads sum_part))
          (exact_pure (property (User (str_to_ascii_lowercase s))) (from 6))
          (apart_pure (λ k. when deep (is_open k)) (property (User (str_to_ascii_lowercase s))) (from 6) (λ k o e. rw ((opens deep k o e).0) refl))
      after asking = exact_next (one is_open) (One is_open) (λ k. false) (λ o. next name (λ n. one (closing (existing n)))) (λ o. Next Property (λ n. One (closing (existing n)))) (from 6)
          (exact_one is_open Open tt refl (λ k. false)) (λ o. asked) (λ o. example_closed Property existing example_name) (λ a u t rest s stops. stops_none (u ++ rest))
      after grouping = then_close (low or_part) (glow or_part) (from 1) (from 6) (λ t. t) refl (l.reads or_part)

      example : (a : Lead) → Example (AfterLead deep glow a)
      example (leaf t) = record { tokens = []; tree = t; spelled = record { no_token = refl; tree = refl } }
      example (naming r s) = record { tokens = []; tree = property (User (str_to_ascii_lowercase s)); spelled = record { front = []; first = User (str_to_ascii_lowercase s); back = []; split = refl; begins = name_alone r s; follows = record { no_token = refl; tree = refl } } }
      example (calling s) = record { tokens = []; tree = property (User (str_to_ascii_lowercase s)); spelled = inl (record { no_token = refl; tree = refl }) }
      example asking =
          let x = example_closed Property existing example_name in
          record { tokens = Open ∷ x.tokens; tree = x.tree; spelled = record { front = Open ∷ []; first = tt; back = x.tokens; split = refl; begins = record { token = Open; alone = refl; tree = refl }; follows = x.spelled } }
      example grouping = example_closed (glow or_part) (λ t. t) (l.example or_part)

-- sign
sign_is : (deep : Bool) (k : Kind) (x : UnaryOperator) → is_sign deep k ≡ Some x → (op : BinaryOperator) × (k ≡ Binary op) × (sign_of op ≡ Some x) × (deep ≡ true)
sign_is deep (Binary op) x e = let w = when_is deep (sign_of op) x e in (op, refl, w.1, w.0)
sign_is deep _ x e = absurd cc

pub exact_sign : (deep : Bool) (low : Part → Reader Kind Term) (glow : Part → Grammar Kind Term) → Nested low glow → Exact (sign deep low) (Sign deep glow) (from 6)
unfolding sign basic
exact_sign deep low glow l =
    exact_as (either (is_sign deep) (λ op. next (low sign_part) (λ t. pure (unary op t))) (basic deep low)) (Either (is_sign deep) (λ op. Next (glow sign_part) (λ t. Nothing (unary op t))) (Basic deep glow)) (Sign deep glow) (from 6)
    (exact_either (is_sign deep) (λ op. next (low sign_part) (λ t. pure (unary op t))) (λ op. Next (glow sign_part) (λ t. Nothing (unary op t))) (basic deep low) (Basic deep glow) (from 6)
    (λ op. then_pure (low sign_part) (glow sign_part) (from 6) (from 6) (unary op) (λ k e. e) (l.reads sign_part))
    (exact_basic deep low glow l)
    (apart_from (is_sign deep) (basic deep low) (Basic deep glow) (from 6) (from 6) (exact_basic deep low glow l) none refuses))
    to from_sign where
      none : basic deep low [] ≡ Err []
      none = refl

      refuses : (k : Kind) (x : UnaryOperator) (ts : List Kind) → is_sign deep k ≡ Some x → basic deep low (k ∷ ts) ≡ Err (k ∷ ts)
      refuses (Binary op) x ts e = refl
      refuses _ x ts e = absurd cc

      to : (u : List Kind) (t : Term) → Either (is_sign deep) (λ op. Next (glow sign_part) (λ t. Nothing (unary op t))) (Basic deep glow) u t → Sign deep glow u t
      to u t (inl s) = unsigned s
      to u t (inr s) =
          let p = sign_is deep s.token s.class s.is in
          rw (s.split, p.1, s.follows.split, s.follows.follows.no_token, s.follows.follows.tree, append-nil s.follows.front) (signed p.3 p.2 s.follows.begins)

      from_sign : (u : List Kind) (t : Term) → Sign deep glow u t → Either (is_sign deep) (λ op. Next (glow sign_part) (λ t. Nothing (unary op t))) (Basic deep glow) u t
      from_sign _ _ (unsigned s) = inl s
      from_sign _ _ (signed {op = op} {sign = x} {u = u} {t = t} on is s) = inr (record { token = Binary op; class = x; back = u; split = refl; is = rw (on, is) refl; follows = record { front = u; first = t; back = []; split = sym (append-nil u); begins = s; follows = record { no_token = refl; tree = refl } } })
