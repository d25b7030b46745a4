-- The readers of levels, lists, tests and filters are exact.
use Rattle.std.proofs.Common.{◌≡◌, ℕ, zero, suc, ◌<◌, Bool, true, false, List, [], ◌∷◌, ◌++◌, Some, None, Err, refl, ap, sym, append-nil, subst, inl, inr, arith}
use Rattle.std.specs.Prelude.{nat_le, nat_lt, ◌==◌, if◌then◌else◌, pos}
use Rattle.std.proofs.lemmas.Bool.Decides.{nat_tests}
use Rattle.sb_model.specs.declared.message.PropertyValue.TheVariants as property_value
use Rattle.sb_model.specs.declared.expression.UnaryOperator.TheVariants as unary_operator
use Rattle.sb_model.specs.declared.expression.BinaryOperator.{BinaryOperator}
use Rattle.sb_model.specs.Expressions.{Term, constant, unary, binary, within, like, like_escape, first, later}
use Rattle.sb_model.specs.declared.token.Kind.{Kind}
use Rattle.sb_model.specs.declared.token.Kind.TheVariants.{Constant, Open, Close, Comma, Binary, Not, In, Like, Escape, Is, Null}
use Rattle.sb_model.specs.Readers.{Reader, Grammar, pure, one, next, either, Nothing, One, Next, Behind, Either, stop}
use Rattle.sb_sqlgrammar.specs.Exact.{Stops, Exact, Example}
use Rattle.sb_model.specs.Language.{Part, or_part, not_part, sum_part, sign_part, binding, operator_at, is_comma, a_constant, Level, value, Sign, unsigned, Product, Sum, Listed, Choice, is_in, is_like, escaped, Question, compared, is_null, is_not_null, chosen, not_chosen, Test, plain, tested, Negation, affirmed, negated, Conjunction, Disjunction, Each, Lower, SpellsFilter}
use Rattle.sb_model.specs.Reading.{when, is_open, closing, is_not, is_escape, null_as, basic, sign, level, product, sum, listed, Choosing, in_items, like_pattern, Asked, compares, nulls, denies, chooses, choosing, asked, after_choosing, after_asked, condition, negation, conjunction, disjunction, each, lower}
use Rattle.sb_sqlgrammar.proofs.Readers.{exact_pure, exact_one, exact_next, exact_either, exact_chain, exact_as, apart_from, apart_pure, stops_in}
use Rattle.sb_sqlgrammar.proofs.Basics.{from, looser, goes, Nested, stops_none, then_pure, closing_is, then_close, example_closed, when_is, open_is, exact_sign}

-- one level of operators
operator_is : (n : ℕ) (k : Kind) (op : BinaryOperator) → operator_at n k ≡ Some op → (k ≡ Binary op) × (binding op == n ≡ true)
operator_is n (Binary x) op e = at (binding x == n) refl e where
  at : (b : Bool) → binding x == n ≡ b → (if b then Some x else None) ≡ Some op → (Binary x ≡ Binary op) × (binding op == n ≡ true)
  at true is e = let same : x ≡ op = cc in (ap Binary same, rw same at is)
  at false is e = absurd cc
operator_is n _ op e = absurd cc

operator_stops : (m n : ℕ) → n < m → (k : Kind) (op : BinaryOperator) → operator_at n k ≡ Some op → from m k ≡ false
operator_stops m n less k op e = let x = operator_is n k op e in rw x.0 (above m n (binding op) less x.1) where
  above : (m n b : ℕ) → n < m → b == n ≡ true → nat_le m b ≡ false
  above m n b less is = grind (arith, nat_tests)

operator_free : (n : ℕ) (k : Kind) → from n k ≡ false → operator_at n k ≡ None
operator_free n (Binary op) e = rw (below n (binding op) e) refl where
  below : (n b : ℕ) → nat_le n b ≡ false → b == n ≡ false
  below n b e = grind (arith, nat_tests)
operator_free n _ e = refl

pub exact_level : (m n : ℕ) → n < m → (item : Reader Kind Term) (S : Grammar Kind Term) → Exact item S (from m) → Exact (level n item) (Level n S) (from n)
exact_level m n less item S r =
    exact_chain (operator_at n) item S (λ a. a) (λ b op c. binary op b c) (from m) (from n) (record { operand = r; op_stops = operator_stops m n less; stops = λ k e. looser n m (omega arith) k e; no_op = operator_free n })

pub exact_product : (deep : Bool) (low : Part → Reader Kind Term) (glow : Part → Grammar Kind Term) → Nested low glow → Exact (product deep low) (Product deep glow) (from 5)
unfolding product
exact_product deep low glow l = exact_level 6 5 (omega arith) (sign deep low) (Sign deep glow) (exact_sign deep low glow l)

pub exact_sum : (deep : Bool) (low : Part → Reader Kind Term) (glow : Part → Grammar Kind Term) → Nested low glow → Exact (sum deep low) (Sum deep glow) (from 4)
unfolding sum
exact_sum deep low glow l = exact_level 5 4 (omega arith) (product deep low) (Product deep glow) (exact_product deep low glow l)

-- a comma binds no operand, so a list stops at the tokens that a sum stops at, and at commas
abbrev in_list : Kind → Bool
in_list Comma = true
in_list k = from 4 k

exact_listed : (low : Part → Reader Kind Term) (glow : Part → Grammar Kind Term) → Nested low glow → Exact (listed low) (Listed glow) in_list
unfolding listed
exact_listed low glow l = exact_chain is_comma (low sum_part) (glow sum_part) first (λ b o c. later b c) (from 4) in_list (record { operand = l.reads sum_part; op_stops = stops; stops = sub; no_op = free }) where
  stops : (k : Kind) (o : Unit {0}) → is_comma k ≡ Some o → from 4 k ≡ false
  stops Comma o e = refl
  stops _ o e = absurd cc

  sub : (k : Kind) → in_list k ≡ false → from 4 k ≡ false
  sub Comma e = refl
  sub _ e = e

  free : (k : Kind) → in_list k ≡ false → is_comma k ≡ None
  free Comma e = absurd cc
  free _ e = refl

example_listed : (low : Part → Reader Kind Term) (glow : Part → Grammar Kind Term) → Nested low glow → Example (Listed glow)
example_listed low glow l = let x = l.example sum_part in record { tokens = x.tokens ++ []; tree = first x.tree; spelled = record { front = x.tokens; first = x.tree; back = []; split = refl; begins = x.spelled; follows = stop } }

-- a constant alone is one of each
zero_kind : Kind
zero_kind = Constant (property_value.Int (pos 0))

zero_term : Term
zero_term = constant (property_value.Int (pos 0))

zero_sign : (deep : Bool) (low : Part → Grammar Kind Term) → Sign deep low (zero_kind ∷ []) zero_term
unfolding zero_kind zero_term
zero_sign deep low = unsigned value

zero_level : (n : ℕ) (S : Grammar Kind Term) → S (zero_kind ∷ []) zero_term → Level n S (zero_kind ∷ []) zero_term
zero_level n S s = record { front = zero_kind ∷ []; first = zero_term; back = []; split = refl; begins = s; follows = stop }

zero_sum : (deep : Bool) (low : Part → Grammar Kind Term) → Sum deep low (zero_kind ∷ []) zero_term
zero_sum deep low = zero_level 4 (Product deep low) (zero_level 5 (Sign deep low) (zero_sign deep low))

-- what stands behind IN and LIKE
AfterChoosing : Bool → (Part → Grammar Kind Term) → Bool → Term → Choosing → Grammar Kind Term
AfterChoosing deep low is t in_items = Next (One is_open) (λ o. Next (Listed low) (λ xs. One (closing (within is t xs))))
AfterChoosing deep low is t like_pattern = Next (Sum deep low) (λ s. Either is_escape (λ o. Next (Sum deep low) (λ e. Nothing (like_escape is t s e))) (Nothing (like is t s)))

escape_is : (k : Kind) (o : Unit {0}) → is_escape k ≡ Some o → k ≡ Escape
escape_is Escape o e = refl
escape_is _ o e = absurd cc

exact_pattern : (deep : Bool) (low : Part → Reader Kind Term) (glow : Part → Grammar Kind Term) → Nested low glow → (is : Bool) (t : Term) → Exact (after_choosing deep low is t like_pattern) (AfterChoosing deep glow is t like_pattern) (from 3)
unfolding AfterChoosing
exact_pattern deep low glow l is t =
    exact_next (sum deep low) (Sum deep glow) (from 4) (λ s. either is_escape (λ o. next (sum deep low) (λ e. pure (like_escape is t s e))) (pure (like is t s))) (λ s. Either is_escape (λ o. Next (Sum deep glow) (λ e. Nothing (like_escape is t s e))) (Nothing (like is t s))) (from 3)
    (exact_sum deep low glow l)
    (λ s. exact_either is_escape (λ o. next (sum deep low) (λ e. pure (like_escape is t s e))) (λ o. Next (Sum deep glow) (λ e. Nothing (like_escape is t s e))) (pure (like is t s)) (Nothing (like is t s)) (from 3)
    (λ o. then_pure (sum deep low) (Sum deep glow) (from 4) (from 3) (like_escape is t s) (λ k e. looser 3 4 (omega arith) k e) (exact_sum deep low glow l))
    (exact_pure (like is t s) (from 3))
    (apart_pure is_escape (like is t s) (from 3) (λ k o e. rw (escape_is k o e) refl)))
    (λ s. record { tokens = []; tree = like is t s; spelled = inl (record { no_token = refl; tree = refl }) })
    fits where
      fits : (s : Term) (u : List Kind) (x : Term) (rest : List Kind) → Either is_escape (λ o. Next (Sum deep glow) (λ e. Nothing (like_escape is t s e))) (Nothing (like is t s)) u x → Stops (from 3) rest → Stops (from 4) (u ++ rest)
      fits s u x rest (inl n) stops = rw n.no_token (stops_in (from 3) (from 4) (λ k e. looser 3 4 (omega arith) k e) rest stops)
      fits s u x rest (inr b) stops = rw (b.split, escape_is b.token b.class b.is) refl

exact_choosing : (deep : Bool) (low : Part → Reader Kind Term) (glow : Part → Grammar Kind Term) → Nested low glow → (is : Bool) (t : Term) (c : Choosing) → Exact (after_choosing deep low is t c) (AfterChoosing deep glow is t c) (from 3)
unfolding AfterChoosing
exact_choosing deep low glow l is t in_items =
    exact_next (one is_open) (One is_open) (λ k. false) (λ o. next (listed low) (λ xs. one (closing (within is t xs)))) (λ o. Next (Listed glow) (λ xs. One (closing (within is t xs)))) (from 3)
    (exact_one is_open Open tt refl (λ k. false))
    (λ o. then_close (listed low) (Listed glow) in_list (from 3) (within is t) refl (exact_listed low glow l))
    (λ o. example_closed (Listed glow) (within is t) (example_listed low glow l))
    (λ a u t rest s stops. stops_none (u ++ rest))
exact_choosing deep low glow l is t like_pattern = exact_pattern deep low glow l is t

example_choosing : (deep : Bool) (low : Part → Reader Kind Term) (glow : Part → Grammar Kind Term) → Nested low glow → (is : Bool) (t : Term) (c : Choosing) → Example (AfterChoosing deep glow is t c)
unfolding AfterChoosing
example_choosing deep low glow l is t in_items =
    let x = example_closed (Listed glow) (within is t) (example_listed low glow l) in
    record { tokens = Open ∷ x.tokens; tree = x.tree; spelled = record { front = Open ∷ []; first = tt; back = x.tokens; split = refl; begins = record { token = Open; alone = refl; tree = refl }; follows = x.spelled } }
example_choosing deep low glow l is t like_pattern = record { tokens = zero_kind ∷ []; tree = like is t zero_term; spelled = record { front = zero_kind ∷ []; first = zero_term; back = []; split = refl; begins = zero_sum deep glow; follows = inl (record { no_token = refl; tree = refl }) } }

to_in : (deep : Bool) (low : Part → Grammar Kind Term) (is : Bool) (t : Term) (back : List Kind) (x : Term) → deep ≡ true → AfterChoosing deep low is t in_items back x → Choice deep low is t (In ∷ back) x
unfolding AfterChoosing
to_in deep low is t back x on s =
    let c = closing_is (within is t s.follows.first) x s.follows.follows.token s.follows.follows.tree in
    rw (s.split, s.begins.alone, open_is s.begins.token s.first s.begins.tree, s.follows.split, s.follows.follows.alone, c.0, c.1) (is_in on s.follows.begins)

to_like : (deep : Bool) (low : Part → Grammar Kind Term) (is : Bool) (t : Term) (back : List Kind) (x : Term) → AfterChoosing deep low is t like_pattern back x → Choice deep low is t (Like ∷ back) x
unfolding AfterChoosing
to_like deep low is t back x s = at s.follows where
  at : Either is_escape (λ o. Next (Sum deep low) (λ e. Nothing (like_escape is t s.first e))) (Nothing (like is t s.first)) s.back x → Choice deep low is t (Like ∷ back) x
  at (inl n) = rw (s.split, n.no_token, n.tree, append-nil s.front) (is_like s.begins)
  at (inr b) = rw (s.split, b.split, escape_is b.token b.class b.is, b.follows.split, b.follows.follows.no_token, b.follows.follows.tree, append-nil b.follows.front) (escaped s.begins b.follows.begins)

to_choice : (deep : Bool) (low : Part → Grammar Kind Term) (is : Bool) (t : Term) (k : Kind) (c : Choosing) (back : List Kind) (x : Term) → choosing deep k ≡ Some c → AfterChoosing deep low is t c back x → Choice deep low is t (k ∷ back) x
to_choice deep low is t In in_items back x e s = to_in deep low is t back x (when_is deep (Some in_items) in_items e).0 s
to_choice deep low is t In like_pattern back x e s = let w = when_is deep (Some in_items) like_pattern e in absurd cc
to_choice deep low is t Like like_pattern back x e s = to_like deep low is t back x s
to_choice deep low is t _ c back x e s = absurd cc

from_choice : (deep : Bool) (low : Part → Grammar Kind Term) (is : Bool) (t : Term) (u : List Kind) (x : Term) → Choice deep low is t u x → Behind (choosing deep) (AfterChoosing deep low is t) u x
unfolding AfterChoosing
from_choice deep low is t _ _ (is_in {v = v} {xs = xs} on s) = record { token = In; class = in_items; back = Open ∷ (v ++ Close ∷ []); split = refl; is = rw on refl; follows = record { front = Open ∷ []; first = tt; back = v ++ Close ∷ []; split = refl; begins = record { token = Open; alone = refl; tree = refl }; follows = record { front = v; first = xs; back = Close ∷ []; split = refl; begins = s; follows = record { token = Close; alone = refl; tree = refl } } } }
from_choice deep low is t _ _ (is_like {v = v} {s = p} s) = record { token = Like; class = like_pattern; back = v; split = refl; is = refl; follows = record { front = v; first = p; back = []; split = sym (append-nil v); begins = s; follows = inl (record { no_token = refl; tree = refl }) } }
from_choice deep low is t _ _ (escaped {v = v} {w = w} {s = p} {e = q} s r) = record { token = Like; class = like_pattern; back = v ++ Escape ∷ w; split = refl; is = refl; follows = record { front = v; first = p; back = Escape ∷ w; split = refl; begins = s; follows = inr (record { token = Escape; class = tt; back = w; split = refl; is = refl; follows = record { front = w; first = q; back = []; split = sym (append-nil w); begins = r; follows = record { no_token = refl; tree = refl } } }) } }

-- what a condition asks
AfterAsked : Bool → (Part → Grammar Kind Term) → Term → Asked → Grammar Kind Term
AfterAsked deep low t (compares op) = Next (Sum deep low) (λ s. Nothing (binary op t s))
AfterAsked deep low t nulls = Either is_not (λ o. One (null_as (unary unary_operator.IsNotNull t))) (One (null_as (unary unary_operator.IsNull t)))
AfterAsked deep low t denies = Next (One (choosing deep)) (AfterChoosing deep low false t)
AfterAsked deep low t (chooses c) = AfterChoosing deep low true t c

null_is : {T : Type 0} (x t : T) (k : Kind) → null_as x k ≡ Some t → (k ≡ Null) × (t ≡ x)
null_is x t Null e = (refl, cc)
null_is x t _ e = absurd cc

not_is : (k : Kind) (o : Unit {0}) → is_not k ≡ Some o → k ≡ Not
not_is Not o e = refl
not_is _ o e = absurd cc

exact_nulls : (deep : Bool) (low : Part → Reader Kind Term) (glow : Part → Grammar Kind Term) (t : Term) → Exact (after_asked deep low t nulls) (AfterAsked deep glow t nulls) (from 3)
unfolding AfterAsked
exact_nulls deep low glow t =
    exact_either is_not (λ o. one (null_as (unary unary_operator.IsNotNull t))) (λ o. One (null_as (unary unary_operator.IsNotNull t))) (one (null_as (unary unary_operator.IsNull t))) (One (null_as (unary unary_operator.IsNull t))) (from 3)
    (λ o. exact_one (null_as (unary unary_operator.IsNotNull t)) Null (unary unary_operator.IsNotNull t) refl (from 3)) null
    (apart_from is_not (one (null_as (unary unary_operator.IsNull t))) (One (null_as (unary unary_operator.IsNull t))) (from 3) (from 3) null refl refuses) where
      null : Exact (one (null_as (unary unary_operator.IsNull t))) (One (null_as (unary unary_operator.IsNull t))) (from 3)
      null = exact_one (null_as (unary unary_operator.IsNull t)) Null (unary unary_operator.IsNull t) refl (from 3)

      refuses : (k : Kind) (o : Unit {0}) (ts : List Kind) → is_not k ≡ Some o → one (null_as (unary unary_operator.IsNull t)) (k ∷ ts) ≡ Err (k ∷ ts)
      refuses Not o ts e = refl
      refuses _ o ts e = absurd cc

exact_asked : (deep : Bool) (low : Part → Reader Kind Term) (glow : Part → Grammar Kind Term) → Nested low glow → (t : Term) (a : Asked) → Exact (after_asked deep low t a) (AfterAsked deep glow t a) (from 3)
unfolding AfterAsked
exact_asked deep low glow l t (compares op) = then_pure (sum deep low) (Sum deep glow) (from 4) (from 3) (binary op t) (λ k e. looser 3 4 (omega arith) k e) (exact_sum deep low glow l)
exact_asked deep low glow l t nulls = exact_nulls deep low glow t
exact_asked deep low glow l t denies =
    exact_next (one (choosing deep)) (One (choosing deep)) (λ k. false) (after_choosing deep low false t) (AfterChoosing deep glow false t) (from 3)
    (exact_one (choosing deep) Like like_pattern refl (λ k. false)) (exact_choosing deep low glow l false t) (example_choosing deep low glow l false t) (λ a u t rest s stops. stops_none (u ++ rest))
exact_asked deep low glow l t (chooses c) = exact_choosing deep low glow l true t c

compares_is : (deep : Bool) (op : BinaryOperator) (a : Asked) → asked deep (Binary op) ≡ Some a → (binding op == 3 ≡ true) × (a ≡ compares op)
compares_is deep op a e = at (binding op == 3) refl e where
  at : (b : Bool) → binding op == 3 ≡ b → (if b then Some (compares op) else None) ≡ Some a → (binding op == 3 ≡ true) × (a ≡ compares op)
  at true is e = (is, cc)
  at false is e = absurd cc

to_compared : (deep : Bool) (low : Part → Grammar Kind Term) (t : Term) (op : BinaryOperator) (back : List Kind) (x : Term) → binding op == 3 ≡ true → AfterAsked deep low t (compares op) back x → Question deep low t (Binary op ∷ back) x
unfolding AfterAsked
to_compared deep low t op back x is s = rw (s.split, s.follows.no_token, s.follows.tree, append-nil s.front) (compared is s.begins)

to_null : (deep : Bool) (low : Part → Grammar Kind Term) (t : Term) (back : List Kind) (x : Term) → AfterAsked deep low t nulls back x → Question deep low t (Is ∷ back) x
unfolding AfterAsked
to_null deep low t back x (inl s) = let c = null_is (unary unary_operator.IsNull t) x s.token s.tree in rw (s.alone, c.0, c.1) is_null
to_null deep low t back x (inr s) = let c = null_is (unary unary_operator.IsNotNull t) x s.follows.token s.follows.tree in rw (s.split, not_is s.token s.class s.is, s.follows.alone, c.0, c.1) is_not_null

to_denied : (deep : Bool) (low : Part → Grammar Kind Term) (t : Term) (back : List Kind) (x : Term) → AfterAsked deep low t denies back x → Question deep low t (Not ∷ back) x
unfolding AfterAsked
to_denied deep low t back x s = rw (s.split, s.begins.alone) (not_chosen (to_choice deep low false t s.begins.token s.first s.back x s.begins.tree s.follows))

to_question : (deep : Bool) (low : Part → Grammar Kind Term) (t : Term) (k : Kind) (a : Asked) (back : List Kind) (x : Term) → asked deep k ≡ Some a → AfterAsked deep low t a back x → Question deep low t (k ∷ back) x
unfolding AfterAsked
to_question deep low t (Binary op) a back x e s = let c = compares_is deep op a e in to_compared deep low t op back x c.0 (subst (λ (b : Asked). AfterAsked deep low t b back x) c.1 s)
to_question deep low t Is a back x e s = let same : nulls ≡ a = cc in to_null deep low t back x (subst (λ (b : Asked). AfterAsked deep low t b back x) (sym same) s)
to_question deep low t Not a back x e s = let same : denies ≡ a = cc in to_denied deep low t back x (subst (λ (b : Asked). AfterAsked deep low t b back x) (sym same) s)
to_question true low t In a back x e s = let same : chooses in_items ≡ a = cc in chosen (to_in true low true t back x refl (subst (λ (b : Asked). AfterAsked true low t b back x) (sym same) s))
to_question false low t In a back x e s = absurd cc
to_question deep low t Like a back x e s = let same : chooses like_pattern ≡ a = cc in chosen (to_like deep low true t back x (subst (λ (b : Asked). AfterAsked deep low t b back x) (sym same) s))
to_question deep low t _ a back x e s = absurd cc

asked_chosen : (deep : Bool) (k : Kind) (c : Choosing) → choosing deep k ≡ Some c → asked deep k ≡ Some (chooses c)
asked_chosen true In c e = let same : in_items ≡ c = cc in rw same refl
asked_chosen false In c e = absurd cc
asked_chosen deep Like c e = let same : like_pattern ≡ c = cc in rw same refl
asked_chosen deep _ c e = absurd cc

from_question : (deep : Bool) (low : Part → Grammar Kind Term) (t : Term) (u : List Kind) (x : Term) → Question deep low t u x → Behind (asked deep) (AfterAsked deep low t) u x
unfolding AfterAsked
from_question deep low t _ _ (compared {op = op} {v = v} {s = p} is s) = record { token = Binary op; class = compares op; back = v; split = refl; is = rw is refl; follows = record { front = v; first = p; back = []; split = sym (append-nil v); begins = s; follows = record { no_token = refl; tree = refl } } }
from_question deep low t _ _ is_null = record { token = Is; class = nulls; back = Null ∷ []; split = refl; is = refl; follows = inl (record { token = Null; alone = refl; tree = refl }) }
from_question deep low t _ _ is_not_null = record { token = Is; class = nulls; back = Not ∷ Null ∷ []; split = refl; is = refl; follows = inr (record { token = Not; class = tt; back = Null ∷ []; split = refl; is = refl; follows = record { token = Null; alone = refl; tree = refl } }) }
from_question deep low t u x (chosen s) =
    let b = from_choice deep low true t u x s in
    record { token = b.token; class = chooses b.class; back = b.back; split = b.split; is = asked_chosen deep b.token b.class b.is; follows = b.follows }
from_question deep low t _ x (not_chosen {v = v} s) =
    let b = from_choice deep low false t v x s in
    record { token = Not; class = denies; back = v; split = refl; is = refl; follows = record { front = b.token ∷ []; first = b.class; back = b.back; split = b.split; begins = record { token = b.token; alone = refl; tree = b.is }; follows = b.follows } }

asked_stops : (deep : Bool) (k : Kind) (a : Asked) → asked deep k ≡ Some a → (from 4 k ≡ false) × (from 3 k ≡ true)
asked_stops deep (Binary op) a e = three (binding op) (compares_is deep op a e).0 where
  three : (b : ℕ) → b == 3 ≡ true → (nat_le 4 b ≡ false) × (nat_le 3 b ≡ true)
  three b is = (grind (arith, nat_tests), grind (arith, nat_tests))
asked_stops deep Is a e = (refl, refl)
asked_stops deep Not a e = (refl, refl)
asked_stops deep In a e = (refl, refl)
asked_stops deep Like a e = (refl, refl)
asked_stops deep _ a e = absurd cc

-- condition
Asking : Bool → (Part → Grammar Kind Term) → Grammar Kind Term
Asking deep glow = Next (Sum deep glow) (λ t. Either (asked deep) (AfterAsked deep glow t) (Nothing t))

exact_test : (deep : Bool) (low : Part → Reader Kind Term) (glow : Part → Grammar Kind Term) → Nested low glow → Exact (condition deep low) (Test deep glow) (from 3)
unfolding condition Asking
exact_test deep low glow l =
    exact_as (next (sum deep low) (λ t. either (asked deep) (after_asked deep low t) (pure t))) (Asking deep glow) (Test deep glow) (from 3)
    (exact_next (sum deep low) (Sum deep glow) (from 4) (λ t. either (asked deep) (after_asked deep low t) (pure t)) (λ t. Either (asked deep) (AfterAsked deep glow t) (Nothing t)) (from 3)
    (exact_sum deep low glow l)
    (λ t. exact_either (asked deep) (after_asked deep low t) (AfterAsked deep glow t) (pure t) (Nothing t) (from 3) (exact_asked deep low glow l t) (exact_pure t (from 3)) (apart_pure (asked deep) t (from 3) (λ k a e. (asked_stops deep k a e).1)))
    (λ t. record { tokens = []; tree = t; spelled = inl (record { no_token = refl; tree = refl }) })
    fits)
    to from_test where
      fits : (t : Term) (u : List Kind) (x : Term) (rest : List Kind) → Either (asked deep) (AfterAsked deep glow t) (Nothing t) u x → Stops (from 3) rest → Stops (from 4) (u ++ rest)
      fits t u x rest (inl s) stops = rw s.no_token (stops_in (from 3) (from 4) (λ k e. looser 3 4 (omega arith) k e) rest stops)
      fits t u x rest (inr s) stops = rw s.split ((asked_stops deep s.token s.class s.is).0)

      to : (u : List Kind) (t : Term) → Asking deep glow u t → Test deep glow u t
      to u t s = to_at s.follows where
        to_at : Either (asked deep) (AfterAsked deep glow s.first) (Nothing s.first) s.back t → Test deep glow u t
        to_at (inl n) = rw (s.split, n.no_token, n.tree, append-nil s.front) (plain s.begins)
        to_at (inr b) = rw (s.split, b.split) (tested s.begins (to_question deep glow s.first b.token b.class b.back t b.is b.follows))

      from_test : (u : List Kind) (t : Term) → Test deep glow u t → Asking deep glow u t
      from_test _ _ (plain {u = u} {t = t} s) = record { front = u; first = t; back = []; split = sym (append-nil u); begins = s; follows = inl (record { no_token = refl; tree = refl }) }
      from_test _ _ (tested {u = u} {v = v} {t = t} {x = x} s q) = record { front = u; first = t; back = v; split = refl; begins = s; follows = inr (from_question deep glow t v x q) }

-- not
denied : (deep : Bool) (k : Kind) (o : Unit {0}) → when deep (is_not k) ≡ Some o → (k ≡ Not) × (deep ≡ true)
denied deep k o e = let w = when_is deep (is_not k) o e in (not_is k o w.1, w.0)

test_none : (deep : Bool) (low : Part → Reader Kind Term) → condition deep low [] ≡ Err []
unfolding condition sum product sign basic
test_none deep low = refl

test_refuses : (deep : Bool) (low : Part → Reader Kind Term) (ts : List Kind) → condition deep low (Not ∷ ts) ≡ Err (Not ∷ ts)
unfolding condition sum product sign basic
test_refuses deep low ts = refl

exact_negation : (deep : Bool) (low : Part → Reader Kind Term) (glow : Part → Grammar Kind Term) → Nested low glow → Exact (negation deep low) (Negation deep glow) (from 3)
unfolding negation
exact_negation deep low glow l =
    exact_as (either (λ k. when deep (is_not k)) (λ o. next (low not_part) (λ t. pure (unary unary_operator.Not t))) (condition deep low)) (Either (λ k. when deep (is_not k)) (λ o. Next (glow not_part) (λ t. Nothing (unary unary_operator.Not t))) (Test deep glow)) (Negation deep glow) (from 3)
    (exact_either (λ k. when deep (is_not k)) (λ o. next (low not_part) (λ t. pure (unary unary_operator.Not t))) (λ o. Next (glow not_part) (λ t. Nothing (unary unary_operator.Not t))) (condition deep low) (Test deep glow) (from 3)
    (λ o. then_pure (low not_part) (glow not_part) (from 3) (from 3) (unary unary_operator.Not) (λ k e. e) (l.reads not_part))
    (exact_test deep low glow l)
    (apart_from (λ k. when deep (is_not k)) (condition deep low) (Test deep glow) (from 3) (from 3) (exact_test deep low glow l) (test_none deep low) (λ k o ts e. rw ((denied deep k o e).0) (test_refuses deep low ts))))
    to from_not where
      to : (u : List Kind) (t : Term) → Either (λ k. when deep (is_not k)) (λ o. Next (glow not_part) (λ t. Nothing (unary unary_operator.Not t))) (Test deep glow) u t → Negation deep glow u t
      to u t (inl s) = affirmed s
      to u t (inr s) =
          let p = denied deep s.token s.class s.is in
          rw (s.split, p.0, s.follows.split, s.follows.follows.no_token, s.follows.follows.tree, append-nil s.follows.front) (negated p.1 s.follows.begins)

      from_not : (u : List Kind) (t : Term) → Negation deep glow u t → Either (λ k. when deep (is_not k)) (λ o. Next (glow not_part) (λ t. Nothing (unary unary_operator.Not t))) (Test deep glow) u t
      from_not _ _ (affirmed s) = inl s
      from_not _ _ (negated {u = u} {t = t} on s) = inr (record { token = Not; class = tt; back = u; split = refl; is = rw on refl; follows = record { front = u; first = t; back = []; split = sym (append-nil u); begins = s; follows = record { no_token = refl; tree = refl } } })

exact_conjunction : (deep : Bool) (low : Part → Reader Kind Term) (glow : Part → Grammar Kind Term) → Nested low glow → Exact (conjunction deep low) (Conjunction deep glow) (from 2)
unfolding conjunction
exact_conjunction deep low glow l = exact_level 3 2 (omega arith) (negation deep low) (Negation deep glow) (exact_negation deep low glow l)

exact_disjunction : (deep : Bool) (low : Part → Reader Kind Term) (glow : Part → Grammar Kind Term) → Nested low glow → Exact (disjunction deep low) (Disjunction deep glow) (from 1)
unfolding disjunction
exact_disjunction deep low glow l = exact_level 2 1 (omega arith) (conjunction deep low) (Conjunction deep glow) (exact_conjunction deep low glow l)

-- at each depth
zero_not : (deep : Bool) (low : Part → Grammar Kind Term) → Negation deep low (zero_kind ∷ []) zero_term
zero_not deep low = affirmed (plain (zero_sum deep low))

zero_or : (deep : Bool) (low : Part → Grammar Kind Term) → Disjunction deep low (zero_kind ∷ []) zero_term
zero_or deep low = zero_level 1 (Conjunction deep low) (zero_level 2 (Negation deep low) (zero_not deep low))

each_nested : (deep : Bool) (low : Part → Reader Kind Term) (glow : Part → Grammar Kind Term) → Nested low glow → Nested (each deep low) (Each deep glow)
each_nested deep low glow l = record { reads = reads; example = example } where
  reads : (p : Part) → Exact (each deep low p) (Each deep glow p) (goes p)
  reads or_part = exact_disjunction deep low glow l
  reads not_part = exact_negation deep low glow l
  reads sum_part = exact_sum deep low glow l
  reads sign_part = exact_sign deep low glow l

  example : (p : Part) → Example (Each deep glow p)
  example or_part = record { tokens = zero_kind ∷ []; tree = zero_term; spelled = zero_or deep glow }
  example not_part = record { tokens = zero_kind ∷ []; tree = zero_term; spelled = zero_not deep glow }
  example sum_part = record { tokens = zero_kind ∷ []; tree = zero_term; spelled = zero_sum deep glow }
  example sign_part = record { tokens = zero_kind ∷ []; tree = zero_term; spelled = zero_sign deep glow }

pub nested_at : (depth : ℕ) → Nested (lower depth) (Lower depth)
unfolding lower Lower zero_kind zero_term
nested_at zero = record {
  reads = λ p. exact_one a_constant zero_kind zero_term refl (goes p);
  example = λ p. record { tokens = zero_kind ∷ []; tree = zero_term; spelled = record { token = zero_kind; alone = refl; tree = refl } };
}
nested_at (suc depth) = each_nested (nat_lt 0 depth) (lower depth) (Lower depth) (nested_at depth)

pub exact_sign_at : (d : ℕ) → Exact (sign (nat_lt 0 d) (lower d)) (Sign (nat_lt 0 d) (Lower d)) (from 6)
exact_sign_at d = exact_sign (nat_lt 0 d) (lower d) (Lower d) (nested_at d)

pub exact_product_at : (d : ℕ) → Exact (product (nat_lt 0 d) (lower d)) (Product (nat_lt 0 d) (Lower d)) (from 5)
exact_product_at d = exact_product (nat_lt 0 d) (lower d) (Lower d) (nested_at d)

pub exact_negation_at : (d : ℕ) → Exact (negation (nat_lt 0 d) (lower d)) (Negation (nat_lt 0 d) (Lower d)) (from 3)
exact_negation_at d = exact_negation (nat_lt 0 d) (lower d) (Lower d) (nested_at d)

pub exact_conjunction_at : (d : ℕ) → Exact (conjunction (nat_lt 0 d) (lower d)) (Conjunction (nat_lt 0 d) (Lower d)) (from 2)
exact_conjunction_at d = exact_conjunction (nat_lt 0 d) (lower d) (Lower d) (nested_at d)

pub exact_filter_at : (d : ℕ) → Exact (disjunction (nat_lt 0 d) (lower d)) (SpellsFilter d) (from 1)
exact_filter_at d = exact_disjunction (nat_lt 0 d) (lower d) (Lower d) (nested_at d)

pub exact_sum_part : (d : ℕ) → Exact (lower d sum_part) (Lower d sum_part) (from 4)
exact_sum_part d = (nested_at d).reads sum_part

pub example_filter : (d : ℕ) → Example (SpellsFilter d)
example_filter d = record { tokens = zero_kind ∷ []; tree = zero_term; spelled = zero_or (nat_lt 0 d) (Lower d) }
