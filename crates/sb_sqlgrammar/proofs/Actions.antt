-- The readers of statements and actions are exact.
use Rattle.std.proofs.Common.{◌≡◌, ℕ, zero, suc, ◌≤◌, Bool, true, false, List, [], ◌∷◌, ◌++◌, Some, refl, ap, sym, append-nil, inl, inr, arith}
use Rattle.std.specs.Prelude.{nat_lt}
use Rattle.sb_model.specs.declared.expression.PropertyName.{PropertyName}
use Rattle.sb_model.specs.declared.expression.BinaryOperator.TheVariants.{Equal}
use Rattle.sb_model.specs.Expressions.{Change, setting, removing}
use Rattle.sb_model.specs.declared.token.Kind.{Kind}
use Rattle.sb_model.specs.declared.token.Kind.TheVariants.{Comma, Semicolon, Binary, Set, Remove}
use Rattle.sb_model.specs.Readers.{Reader, Grammar, pure, one, next, Nothing, One, Next, Behind, Either}
use Rattle.sb_sqlgrammar.specs.Exact.{Stops, Exact, Example}
use Rattle.sb_model.specs.Language.{Property, SpellsFilter, Separator, none, semicolon, comma, Statement, set, remove, Statements, no_more, one_more, SpellsAction, statements as statements_case}
use Rattle.sb_model.specs.Reading.{name, disjunction, lower, Verb, sets, removes, verb, is_equal, is_separator, separated, after_verb, statements}
use Rattle.sb_sqlgrammar.proofs.Readers.{exact_pure, exact_one, exact_next, exact_either, exact_as, apart_pure, stops_in}
use Rattle.sb_sqlgrammar.proofs.Basics.{from, looser, stops_none, then_pure, exact_name, example_name}
use Rattle.sb_sqlgrammar.proofs.Tests.{exact_filter_at, example_filter}

abbrev all_kinds : Kind → Bool
all_kinds k = true

-- what may go on with a statement
abbrev in_statement : Kind → Bool
in_statement Comma = true
in_statement Semicolon = true
in_statement k = from 1 k

statement_filter : (k : Kind) → in_statement k ≡ false → from 1 k ≡ false
statement_filter Comma e = refl
statement_filter Semicolon e = refl
statement_filter _ e = e

Separated : {T : Type 0} → T → Grammar Kind T
Separated x = Either is_separator (λ o. Nothing x) (Nothing x)

separator_stops : (k : Kind) (o : Unit {0}) → is_separator k ≡ Some o → (in_statement k ≡ true) × (from 1 k ≡ false)
separator_stops Comma o e = (refl, refl)
separator_stops Semicolon o e = (refl, refl)
separator_stops _ o e = absurd cc

exact_separated : {T : Type 0} (x : T) → Exact (separated x) (Separated x) in_statement
unfolding Separated
exact_separated x =
    exact_either is_separator (λ o. pure x) (λ o. Nothing x) (pure x) (Nothing x) in_statement (λ o. exact_pure x in_statement) (exact_pure x in_statement)
    (apart_pure is_separator x in_statement (λ k o e. (separator_stops k o e).0))

example_separated : {T : Type 0} (x : T) → Example (Separated x)
unfolding Separated
example_separated x = record { tokens = []; tree = x; spelled = inl (record { no_token = refl; tree = refl }) }

separated_fits : {T : Type 0} (n : ℕ) → 1 ≤ n → (x : T) (u : List Kind) (t : T) (rest : List Kind) → Separated x u t → Stops in_statement rest → Stops (from n) (u ++ rest)
unfolding Separated
separated_fits n le x u t rest (inl s) stops = rw s.no_token (stops_in in_statement (from n) (λ k e. looser 1 n le k (statement_filter k e)) rest stops)
separated_fits n le x u t rest (inr s) stops = rw s.split (looser 1 n le s.token (separator_stops s.token s.class s.is).1)

-- behind SET and REMOVE
equal_is : (k : Kind) (o : Unit {0}) → is_equal k ≡ Some o → k ≡ Binary Equal
equal_is (Binary Equal) o e = refl
equal_is (Binary _) o e = absurd cc
equal_is _ o e = absurd cc

Assigned : ℕ → PropertyName → Grammar Kind Change
Assigned depth n = Next (One is_equal) (λ o. Next (SpellsFilter depth) (λ t. Separated (setting n t)))

assigned : ℕ → PropertyName → Reader Kind Change
assigned depth n = next (one is_equal) (λ o. next (disjunction (nat_lt 0 depth) (lower depth)) (λ t. separated (setting n t)))

exact_assigned : (depth : ℕ) (n : PropertyName) → Exact (assigned depth n) (Assigned depth n) in_statement
unfolding Assigned assigned
exact_assigned depth n =
    exact_next (one is_equal) (One is_equal) (λ k. false) (λ o. next (disjunction (nat_lt 0 depth) (lower depth)) (λ t. separated (setting n t))) (λ o. Next (SpellsFilter depth) (λ t. Separated (setting n t))) in_statement
    (exact_one is_equal (Binary Equal) tt refl (λ k. false))
    (λ o. exact_next (disjunction (nat_lt 0 depth) (lower depth)) (SpellsFilter depth) (from 1) (λ t. separated (setting n t)) (λ t. Separated (setting n t)) in_statement (exact_filter_at depth) (λ t. exact_separated (setting n t)) (λ t. example_separated (setting n t)) (λ t u x rest s stops. separated_fits 1 (omega arith) (setting n t) u x rest s stops))
    (λ o. example)
    (λ a u t rest s stops. stops_none (u ++ rest)) where
      example : Example (Next (SpellsFilter depth) (λ t. Separated (setting n t)))
      example =
          let x = example_filter depth in
          let y = example_separated (setting n x.tree) in
          record { tokens = x.tokens ++ y.tokens; tree = y.tree; spelled = record { front = x.tokens; first = x.tree; back = y.tokens; split = refl; begins = x.spelled; follows = y.spelled } }

example_assigned : (depth : ℕ) (n : PropertyName) → Example (Assigned depth n)
unfolding Assigned
example_assigned depth n =
    let x = example_filter depth in
    let y = example_separated (setting n x.tree) in
    record { tokens = Binary Equal ∷ (x.tokens ++ y.tokens); tree = y.tree; spelled = record { front = Binary Equal ∷ []; first = tt; back = x.tokens ++ y.tokens; split = refl; begins = record { token = Binary Equal; alone = refl; tree = refl }; follows = record { front = x.tokens; first = x.tree; back = y.tokens; split = refl; begins = x.spelled; follows = y.spelled } } }

assigned_fits : (depth : ℕ) (n : PropertyName) (u : List Kind) (c : Change) (rest : List Kind) → Assigned depth n u c → Stops in_statement rest → Stops (from 6) (u ++ rest)
unfolding Assigned
assigned_fits depth n u c rest s stops = rw (s.split, s.begins.alone, equal_is s.begins.token s.first s.begins.tree) refl

AfterVerb : ℕ → Verb → Grammar Kind Change
AfterVerb depth sets = Next Property (Assigned depth)
AfterVerb depth removes = Next Property (λ n. Separated (removing n))

exact_after_verb : (depth : ℕ) (v : Verb) → Exact (after_verb depth v) (AfterVerb depth v) in_statement
unfolding after_verb AfterVerb assigned
exact_after_verb depth sets =
    exact_next name Property (from 6) (assigned depth) (Assigned depth) in_statement exact_name (exact_assigned depth) (example_assigned depth) (assigned_fits depth)
exact_after_verb depth removes =
    exact_next name Property (from 6) (λ n. separated (removing n)) (λ n. Separated (removing n)) in_statement exact_name (λ n. exact_separated (removing n)) (λ n. example_separated (removing n)) (λ n u t rest s stops. separated_fits 6 (omega arith) (removing n) u t rest s stops)

example_after_verb : (depth : ℕ) (v : Verb) → Example (AfterVerb depth v)
unfolding AfterVerb
example_after_verb depth sets =
    let n = example_name in
    let x = example_assigned depth n.tree in
    record { tokens = n.tokens ++ x.tokens; tree = x.tree; spelled = record { front = n.tokens; first = n.tree; back = x.tokens; split = refl; begins = n.spelled; follows = x.spelled } }
example_after_verb depth removes =
    let n = example_name in
    let x = example_separated (removing n.tree) in
    record { tokens = n.tokens ++ x.tokens; tree = x.tree; spelled = record { front = n.tokens; first = n.tree; back = x.tokens; split = refl; begins = n.spelled; follows = x.spelled } }

-- many
Many : ℕ → ℕ → Grammar Kind (List Change)
Many depth zero = Nothing []
Many depth (suc count) = Either verb (λ v. Next (AfterVerb depth v) (λ c. Next (Many depth count) (λ cs. Nothing (c ∷ cs)))) (Nothing [])

verb_stops : (k : Kind) (v : Verb) → verb k ≡ Some v → in_statement k ≡ false
verb_stops Set v e = refl
verb_stops Remove v e = refl
verb_stops _ v e = absurd cc

at_end : (rest : List Kind) → Stops all_kinds rest → rest ≡ []
at_end [] stops = refl
at_end (k ∷ rest) stops = absurd cc

many_fits : (depth count : ℕ) (c : Change) (u : List Kind) (t : List Change) (rest : List Kind) → Next (Many depth count) (λ cs. Nothing (c ∷ cs)) u t → Stops all_kinds rest → Stops in_statement (u ++ rest)
unfolding Many
many_fits depth count c u t rest s stops = rw (s.split, s.follows.no_token, append-nil s.front, at_end rest stops, append-nil s.front) (begins count s.front s.first s.begins) where
  begins : (count : ℕ) (v : List Kind) (cs : List Change) → Many depth count v cs → Stops in_statement v
  begins zero v cs n = rw n.no_token tt
  begins (suc count) v cs (inl n) = rw n.no_token tt
  begins (suc count) v cs (inr b) = rw b.split (verb_stops b.token b.class b.is)

example_many : (depth count : ℕ) → Example (Many depth count)
unfolding Many
example_many depth zero = record { tokens = []; tree = []; spelled = record { no_token = refl; tree = refl } }
example_many depth (suc count) = record { tokens = []; tree = []; spelled = inl (record { no_token = refl; tree = refl }) }

One_then : ℕ → ℕ → Verb → Grammar Kind (List Change)
One_then depth count v = Next (AfterVerb depth v) (λ c. Next (Many depth count) (λ cs. Nothing (c ∷ cs)))

one_then : ℕ → ℕ → Verb → Reader Kind (List Change)
one_then depth count v = next (after_verb depth v) (λ c. next (statements depth count) (λ cs. pure (c ∷ cs)))

exact_one_then : (depth count : ℕ) → Exact (statements depth count) (Many depth count) all_kinds → (v : Verb) → Exact (one_then depth count v) (One_then depth count v) all_kinds
unfolding one_then One_then
exact_one_then depth count more v =
    exact_next (after_verb depth v) (AfterVerb depth v) in_statement (λ c. next (statements depth count) (λ cs. pure (c ∷ cs))) (λ c. Next (Many depth count) (λ cs. Nothing (c ∷ cs))) all_kinds
    (exact_after_verb depth v)
    (λ c. then_pure (statements depth count) (Many depth count) all_kinds all_kinds (λ cs. c ∷ cs) (λ k e. e) more)
    (λ c. let x = example_many depth count in record { tokens = x.tokens ++ []; tree = c ∷ x.tree; spelled = record { front = x.tokens; first = x.tree; back = []; split = refl; begins = x.spelled; follows = record { no_token = refl; tree = refl } } })
    (many_fits depth count)

exact_many : (depth count : ℕ) → Exact (statements depth count) (Many depth count) all_kinds
unfolding statements Many one_then One_then
exact_many depth zero = exact_pure [] all_kinds
exact_many depth (suc count) =
    exact_either verb (one_then depth count) (One_then depth count) (pure []) (Nothing []) all_kinds (exact_one_then depth count (exact_many depth count)) (exact_pure [] all_kinds)
    (apart_pure verb [] all_kinds (λ k v e. refl))

-- the grammar as it is written
to_separator : {T : Type 0} (x t : T) (w : List Kind) → Separated x w t → Separator w × (t ≡ x)
unfolding Separated
to_separator x t w (inl s) = (rw s.no_token none, s.tree)
to_separator x t w (inr s) = (rw (s.split, s.follows.no_token) (at s.token s.class s.is), s.follows.tree) where
  at : (k : Kind) (o : Unit {0}) → is_separator k ≡ Some o → Separator (k ∷ [])
  at Comma o e = comma
  at Semicolon o e = semicolon
  at _ o e = absurd cc

from_separator : {T : Type 0} (x : T) (w : List Kind) → Separator w → Separated x w x
unfolding Separated
from_separator x _ none = inl (record { no_token = refl; tree = refl })
from_separator x _ semicolon = inr (record { token = Semicolon; class = tt; back = []; split = refl; is = refl; follows = record { no_token = refl; tree = refl } })
from_separator x _ comma = inr (record { token = Comma; class = tt; back = []; split = refl; is = refl; follows = record { no_token = refl; tree = refl } })

to_set : (depth : ℕ) (back : List Kind) (c : Change) → AfterVerb depth sets back c → Statement depth (Set ∷ back) c
unfolding AfterVerb Assigned
to_set depth back c s =
    let f = s.follows.follows in
    let x = to_separator (setting s.first f.first) c f.back f.follows in
    rw (s.split, s.follows.split, s.follows.begins.alone, equal_is s.follows.begins.token s.follows.first s.follows.begins.tree, f.split, x.1) (set s.begins f.begins x.0)

to_remove : (depth : ℕ) (back : List Kind) (c : Change) → AfterVerb depth removes back c → Statement depth (Remove ∷ back) c
unfolding AfterVerb
to_remove depth back c s = let x = to_separator (removing s.first) c s.back s.follows in rw (s.split, x.1) (remove s.begins x.0)

to_statement : (depth : ℕ) (k : Kind) (v : Verb) (back : List Kind) (c : Change) → verb k ≡ Some v → AfterVerb depth v back c → Statement depth (k ∷ back) c
to_statement depth Set sets back c e s = to_set depth back c s
to_statement depth Remove removes back c e s = to_remove depth back c s
to_statement depth _ v back c e s = absurd cc

from_statement : (depth : ℕ) (u : List Kind) (c : Change) → Statement depth u c → Behind verb (AfterVerb depth) u c
unfolding AfterVerb Assigned
from_statement depth _ _ (set {u = u} {v = v} {w = w} {n = n} {t = t} p s q) = record { token = Set; class = sets; back = u ++ Binary Equal ∷ (v ++ w); split = refl; is = refl; follows = record { front = u; first = n; back = Binary Equal ∷ (v ++ w); split = refl; begins = p; follows = record { front = Binary Equal ∷ []; first = tt; back = v ++ w; split = refl; begins = record { token = Binary Equal; alone = refl; tree = refl }; follows = record { front = v; first = t; back = w; split = refl; begins = s; follows = from_separator (setting n t) w q } } } }
from_statement depth _ _ (remove {u = u} {w = w} {n = n} p q) = record { token = Remove; class = removes; back = u ++ w; split = refl; is = refl; follows = record { front = u; first = n; back = w; split = refl; begins = p; follows = from_separator (removing n) w q } }

mutual_front : (k : Kind) (u v w : List Kind) → w ≡ [] → k ∷ (u ++ (v ++ w)) ≡ (k ∷ u) ++ v
mutual_front k u v w e = rw (e, append-nil v) refl

to_many : (depth count : ℕ) (u : List Kind) (cs : List Change) → Many depth count u cs → Statements depth count u cs
unfolding Many
to_many depth zero u cs n = rw (n.no_token, n.tree) no_more
to_many depth (suc count) u cs (inl n) = rw (n.no_token, n.tree) no_more
to_many depth (suc count) u cs (inr b) =
    let f = b.follows in
    let m = f.follows in
    rw (b.split, f.split, m.split, mutual_front b.token f.front m.front m.back m.follows.no_token, m.follows.tree)
    (one_more (to_statement depth b.token b.class f.front f.first b.is f.begins) (to_many depth count m.front m.first m.begins))

with_statement : (depth count : ℕ) (u v : List Kind) (c : Change) (cs : List Change) → Statement depth u c → Many depth count v cs → Behind verb (One_then depth count) (u ++ v) (c ∷ cs)
unfolding One_then
with_statement depth count u v c cs s m =
    let b = from_statement depth u c s in
    record { token = b.token; class = b.class; back = b.back ++ v; split = ap (λ (x : List Kind). x ++ v) b.split; is = b.is; follows = record { front = b.back; first = c; back = v; split = refl; begins = b.follows; follows = record { front = v; first = cs; back = []; split = sym (append-nil v); begins = m; follows = record { no_token = refl; tree = refl } } } }

from_many : (depth count : ℕ) (u : List Kind) (cs : List Change) → Statements depth count u cs → Many depth count u cs
unfolding Many One_then
from_many depth zero _ _ no_more = record { no_token = refl; tree = refl }
from_many depth (suc count) _ _ no_more = inl (record { no_token = refl; tree = refl })
from_many depth (suc count) _ _ (one_more {u = u} {v = v} {c = c} {cs = cs} s m) = inr (with_statement depth count u v c cs s (from_many depth count v cs m))

abbrev pub action : ℕ → ℕ → Reader Kind (List Change)
action depth count = next (one verb) (λ v. next (after_verb depth v) (λ c. next (statements depth count) (λ cs. pure (c ∷ cs))))

pub exact_action : (depth count : ℕ) → Exact (action depth count) (SpellsAction depth count) all_kinds
unfolding one_then One_then
exact_action depth count =
    exact_as (next (one verb) (one_then depth count)) (Next (One verb) (One_then depth count)) (SpellsAction depth count) all_kinds
    (exact_next (one verb) (One verb) (λ k. false) (one_then depth count) (One_then depth count) all_kinds (exact_one verb Remove removes refl (λ k. false)) (exact_one_then depth count (exact_many depth count)) example (λ a u t rest s stops. stops_none (u ++ rest)))
    to from_action where
      example : (v : Verb) → Example (One_then depth count v)
      example v =
          let x = example_after_verb depth v in
          let y = example_many depth count in
          record { tokens = x.tokens ++ (y.tokens ++ []); tree = x.tree ∷ y.tree; spelled = record { front = x.tokens; first = x.tree; back = y.tokens ++ []; split = refl; begins = x.spelled; follows = record { front = y.tokens; first = y.tree; back = []; split = refl; begins = y.spelled; follows = record { no_token = refl; tree = refl } } } }

      to : (u : List Kind) (cs : List Change) → Next (One verb) (One_then depth count) u cs → SpellsAction depth count u cs
      to u cs s =
          let f = s.follows in
          let m = f.follows in
          rw (s.split, s.begins.alone, f.split, m.split, mutual_front s.begins.token f.front m.front m.back m.follows.no_token, m.follows.tree)
          (statements_case (to_statement depth s.begins.token s.first f.front f.first s.begins.tree f.begins) (to_many depth count m.front m.first m.begins))

      from_action : (u : List Kind) (cs : List Change) → SpellsAction depth count u cs → Next (One verb) (One_then depth count) u cs
      from_action _ _ (statements_case {u = u} {v = v} {c = c} {cs = cs} s m) =
          let b = with_statement depth count u v c cs s (from_many depth count v cs m) in
          record { front = b.token ∷ []; first = b.class; back = b.back; split = b.split; begins = record { token = b.token; alone = refl; tree = b.is }; follows = b.follows }
