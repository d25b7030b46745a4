-- Statements, one by one.
use Rattle.std.proofs.Common.{◌≡◌, ◌-◌, ℕ, zero, suc, ◌<◌, Bool, true, false, List, [], ◌∷◌, ◌++◌, Result, Ok, Err, refl, sym, ◌∙◌, append_assoc, append-nil, arith, Some}
use Rattle.std.specs.Prelude.{if◌then◌else◌}
use Rattle.sb_model.specs.declared.expression.Statement.{Statement}
use Rattle.sb_model.specs.Expressions.{Change, change_of, changes_of}
use Rattle.sb_model.specs.declared.token.Kind.{Kind}
use Rattle.sb_model.specs.declared.token.Kind.TheVariants.{Set, Remove}
use Rattle.sb_model.specs.Readers.{◌>>=◌, ended}
use Rattle.sb_model.specs.Reading.{verb, after_verb, statements, action_of}
use Rattle.sb_sqltext.specs.Answers.{IsOver}
use Rattle.sb_sqltext.specs.Verbs.{verb_for}

pub verb_is : (b : Bool) → verb (if b then Set else Remove) ≡ Some (verb_for b)
verb_is true = refl
verb_is false = refl

-- at most n statements more, behind these
unfoldable pub action_from : ℕ → ℕ → List Change → List Kind → Result (List Change × List Kind) (List Kind)
action_from depth n front ts = statements depth n ts >>= λ x. ended (front ++ x.0) x.1

pub from_full : (depth : ℕ) (front : List Change) (ts : List Kind) → action_from depth 0 front ts ≡ ended front ts
unfolding action_from statements
from_full depth front ts = rw append-nil refl

pub from_over : (depth n : ℕ) (front : List Change) (ts : List Kind) → IsOver verb ts → action_from depth n front ts ≡ ended front ts
unfolding action_from statements
from_over depth zero front ts over = rw append-nil refl
from_over depth (suc n) front [] over = rw append-nil refl
from_over depth (suc n) front (k ∷ ts) over = rw over refl

pub from_fault : (depth n : ℕ) (front : List Change) (ts onward rest : List Kind) (b : Bool) → 0 < n → ts ≡ (if b then Set else Remove) ∷ onward → after_verb depth (verb_for b) onward ≡ Err rest → action_from depth n front ts ≡ Err rest
unfolding action_from statements
from_fault depth zero front ts onward rest b some is e = absurd (omega arith)
from_fault depth (suc n) front ts onward rest b some is e = rw (is, verb_is b, e) refl

abbrev put : Change → List Change × List Kind → Result (List Change × List Kind) (List Kind)
put c x = Ok (c ∷ x.0, x.1)

put_front : (front : List Change) (c : Change) (r : Result (List Change × List Kind) (List Kind)) → ((r >>= put c) >>= λ x. ended (front ++ x.0) x.1) ≡ (r >>= λ x. ended ((front ++ c ∷ []) ++ x.0) x.1)
put_front front c (Ok x) = rw append_assoc refl
put_front front c (Err e) = refl

pub from_more : (depth n : ℕ) (front : List Change) (ts onward next : List Kind) (b : Bool) (c : Change) → 0 < n → ts ≡ (if b then Set else Remove) ∷ onward → after_verb depth (verb_for b) onward ≡ Ok (c, next) → action_from depth n front ts ≡ action_from depth (n - 1) (front ++ c ∷ []) next
unfolding action_from statements
from_more depth zero front ts onward next b c some is e = absurd (omega arith)
from_more depth (suc n) front ts onward next b c some is e =
    let less : suc n - 1 ≡ n = omega arith in
    rw (is, verb_is b, e, less) (put_front front c (statements depth n next))

pub action_over : (depth count : ℕ) (ts : List Kind) → IsOver verb ts → action_of depth count ts ≡ Err ts
unfolding action_of
action_over depth count [] over = refl
action_over depth count (k ∷ ts) over = rw over refl

pub action_fault : (depth count : ℕ) (ts onward rest : List Kind) (b : Bool) → ts ≡ (if b then Set else Remove) ∷ onward → after_verb depth (verb_for b) onward ≡ Err rest → action_of depth count ts ≡ Err rest
unfolding action_of
action_fault depth count ts onward rest b is e = rw (is, verb_is b, e) refl

pub action_begins : (depth count : ℕ) (ts onward next : List Kind) (b : Bool) (c : Change) → ts ≡ (if b then Set else Remove) ∷ onward → after_verb depth (verb_for b) onward ≡ Ok (c, next) → action_of depth count ts ≡ action_from depth count (c ∷ []) next
unfolding action_of action_from
action_begins depth count ts onward next b c is e = rw (is, verb_is b, e) (at (statements depth count next)) where
  at : (r : Result (List Change × List Kind) (List Kind)) → ((r >>= put c) >>= λ x. ended x.0 x.1) ≡ (r >>= λ x. ended (c ∷ [] ++ x.0) x.1)
  at (Ok x) = refl
  at (Err e) = refl

changes_more : (ss : List Statement) (s : Statement) → changes_of (ss ++ s ∷ []) ≡ changes_of ss ++ change_of s ∷ []
changes_more [] s = refl
changes_more (x ∷ ss) s = rw (changes_more ss s) refl

-- one statement more, in the loop's words
pub loop_goes_on : (depth n : ℕ) (before after : List Statement) (ts onward next : List Kind) (b : Bool) (s : Statement) (all : Result (List Change × List Kind) (List Kind))
    → 0 < n → ts ≡ (if b then Set else Remove) ∷ onward → after_verb depth (verb_for b) onward ≡ Ok (change_of s, next) → after ≡ before ++ s ∷ [] → action_from depth n (changes_of before) ts ≡ all → action_from depth (n - 1) (changes_of after) next ≡ all
loop_goes_on depth n before after ts onward next b s all some is e made so_far =
    rw (made, changes_more before s) (sym (from_more depth n (changes_of before) ts onward next b (change_of s) some is e) ∙ so_far)

pub loop_begins : (depth count : ℕ) (after : List Statement) (ts onward next : List Kind) (b : Bool) (s : Statement)
    → ts ≡ (if b then Set else Remove) ∷ onward → after_verb depth (verb_for b) onward ≡ Ok (change_of s, next) → after ≡ [] ++ s ∷ [] → action_from depth count (changes_of after) next ≡ action_of depth count ts
loop_begins depth count after ts onward next b s is e made = rw made (sym (action_begins depth count ts onward next b (change_of s) is e))

-- a statement that is none, in the loop's words
pub loop_fails : (depth n : ℕ) (front : List Change) (ts onward rest : List Kind) (b : Bool) (all : Result (List Change × List Kind) (List Kind))
    → 0 < n → ts ≡ (if b then Set else Remove) ∷ onward → after_verb depth (verb_for b) onward ≡ Err rest → action_from depth n front ts ≡ all → all ≡ Err rest
loop_fails depth n front ts onward rest b all some is e so_far = sym so_far ∙ from_fault depth n front ts onward rest b some is e

pub ruleset statement_steps = (from_full, from_over, from_fault)
