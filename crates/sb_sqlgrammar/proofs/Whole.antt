-- Laws of whole filters and actions.
use Rattle.std.proofs.Common.{◌≡◌, ℕ, List, [], ◌∷◌, ◌++◌, Result, Err, refl, sym, ◌∙◌, append-nil, Bool, true}
use Rattle.std.specs.Prelude.{nat_lt}
use Rattle.sb_model.specs.Expressions.{Term}
use Rattle.sb_model.specs.declared.token.Kind.{Kind}
use Rattle.sb_model.specs.Readers.{Reader, next, ended, Next, Nothing}
use Rattle.sb_sqlgrammar.specs.Exact.{Exact, Stops, other_tail}
use Rattle.sb_model.specs.Language.{SpellsFilter, SpellsAction}
use Rattle.sb_model.specs.Reading.{disjunction, lower, filter_of, action_of}
use Rattle.sb_sqlgrammar.specs.Laws.{IsNoFurther, ReadsSpelled, ReadsEach, SpellsOne, FaultsExactly}
use Rattle.sb_sqlgrammar.proofs.Readers.{pair_ok, exact_ended, exact_next}
use Rattle.sb_sqlgrammar.proofs.Tests.{exact_filter_at}
use Rattle.sb_sqlgrammar.proofs.Actions.{action, exact_action}

-- for any part that is read exactly, and then the end
module _ {T : Type 0} (R : List Kind → Result (T × List Kind) (List Kind)) (S : List Kind → T → Type 0) (g : Kind → Bool) (r : Exact R S g) where
  whole : Exact (next R ended) (Next S Nothing) (λ k. true)
  whole = exact_next R S g ended Nothing (λ k. true) r (λ t. exact_ended t) (λ t. record { tokens = []; tree = t; spelled = record { no_token = refl; tree = refl } }) at_end where
    at_end : (t : T) (u : List Kind) (x : T) (rest : List Kind) → Nothing t u x → Stops (λ k. true) rest → Stops g (u ++ rest)
    at_end t u x [] s stops = rw s.no_token tt
    at_end t u x (k ∷ rest) s stops = absurd cc

  spelled_alone : (u : List Kind) (t : T) → Next S Nothing u t → S u t
  spelled_alone u t s = rw (s.split, s.follows.no_token, s.follows.tree, append-nil s.front) s.begins

  alone_spelled : (u : List Kind) (t : T) → S u t → Next S Nothing u t
  alone_spelled u t s = record { front = u; first = t; back = []; split = sym (append-nil u); begins = s; follows = record { no_token = refl; tree = refl } }

  reads_spelled : ReadsSpelled (next R ended) S
  reads_spelled tokens t e =
      let x = whole.found tokens t [] e in
      rw (x.split, append-nil x.front) (spelled_alone x.front t x.spelled)

  reads_each : ReadsEach (next R ended) S
  reads_each tokens t s = rw append-nil at (whole.only tokens t [] (alone_spelled tokens t s) tt)

  spells_one : SpellsOne S
  spells_one tokens t s a b = (pair_ok t s [] [] (sym (reads_each tokens t a) ∙ reads_each tokens s b)).0

  no_further : (front rest : List Kind) → ((tail : List Kind) → next R ended (front ++ other_tail rest tail) ≡ Err (other_tail rest tail)) → IsNoFurther S front rest
  no_further front [] again = λ t s.
      let read = reads_each front t s in
      let not : next R ended front ≡ Err [] = rw append-nil at (again []) in
      absurd cc
  no_further front (k ∷ rest) again = λ more t s.
      let read = reads_each (front ++ k ∷ more) t s in
      let not : next R ended (front ++ k ∷ more) ≡ Err (k ∷ more) = again more in
      absurd cc

  faults_exactly : FaultsExactly (next R ended) S
  faults_exactly tokens rest e =
      let x = whole.fault tokens rest e in
      record { front = x.front; split = x.split; continued = (x.more, x.tree, spelled_alone (x.front ++ x.more) x.tree x.completed); no_further = no_further x.front rest x.again }

abbrev filter : ℕ → Reader Kind Term
filter depth = disjunction (nat_lt 0 depth) (lower depth)

pub filters_spelled : (depth : ℕ) → ReadsSpelled (filter_of depth) (SpellsFilter depth)
unfolding filter_of
filters_spelled depth = reads_spelled (filter depth) (SpellsFilter depth) _ (exact_filter_at depth)

pub filters_each : (depth : ℕ) → ReadsEach (filter_of depth) (SpellsFilter depth)
unfolding filter_of
filters_each depth = reads_each (filter depth) (SpellsFilter depth) _ (exact_filter_at depth)

pub filters_one : (depth : ℕ) → SpellsOne (SpellsFilter depth)
filters_one depth = spells_one (filter depth) (SpellsFilter depth) _ (exact_filter_at depth)

pub filter_faults : (depth : ℕ) → FaultsExactly (filter_of depth) (SpellsFilter depth)
unfolding filter_of
filter_faults depth = faults_exactly (filter depth) (SpellsFilter depth) _ (exact_filter_at depth)

pub actions_spelled : (depth count : ℕ) → ReadsSpelled (action_of depth count) (SpellsAction depth count)
unfolding action_of
actions_spelled depth count = reads_spelled (action depth count) (SpellsAction depth count) _ (exact_action depth count)

pub actions_each : (depth count : ℕ) → ReadsEach (action_of depth count) (SpellsAction depth count)
unfolding action_of
actions_each depth count = reads_each (action depth count) (SpellsAction depth count) _ (exact_action depth count)

pub actions_one : (depth count : ℕ) → SpellsOne (SpellsAction depth count)
actions_one depth count = spells_one (action depth count) (SpellsAction depth count) _ (exact_action depth count)

pub action_faults : (depth count : ℕ) → FaultsExactly (action_of depth count) (SpellsAction depth count)
unfolding action_of
action_faults depth count = faults_exactly (action depth count) (SpellsAction depth count) _ (exact_action depth count)

-- what a parser of whole texts rests on
pub ruleset exact = (filters_spelled, filter_faults, actions_spelled, action_faults)
