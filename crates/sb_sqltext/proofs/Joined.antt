-- Faults of tokens as faults of texts.
use Rattle.std.proofs.Common.{◌≡◌, ◌-◌, ◌+◌, ℕ, suc, ◌<◌, true, false, List, [], ◌∷◌, ◌++◌, length, map, get_or, Ok, Err, Some, None, refl, ap, sym, ◌∙◌, arith, length-append}
use Rattle.std.specs.Prelude.{nat_le}
use Rattle.std.proofs.lemmas.Bool.Decides.{nat_tests}
use Rattle.std.proofs.lemmas.List.{length-map}
use Rattle.sb_model.specs.Expressions.{Term, Change}
use Rattle.sb_model.specs.declared.token.Kind.{Kind}
use Rattle.sb_model.specs.Language.{SpellsFilter, SpellsAction}
use Rattle.sb_model.specs.Reading.{filter_of, action_of}
use Rattle.sb_sqlgrammar.specs.Laws.{IsFault}
use Rattle.sb_sqlgrammar.proofs.Whole.{filters_spelled, filter_faults, actions_spelled, action_faults}
use Rattle.sb_model.specs.Tokens.{tokens_of}
use Rattle.sb_sqltext.specs.Texts.{end_of, SpellsText, IsTokenFault, IsTextFault}
use Rattle.sb_model.specs.Texts.{past_limit, kinds_of, end_before}

abbrev pub Tokens : Type 0
Tokens = List (Kind × ℕ)

record Split (tokens : Tokens) (front rest : List Kind) : Type 0 where
  before : Tokens
  after : Tokens
  split : tokens ≡ before ++ after
  front_is : kinds_of before ≡ front
  rest_is : kinds_of after ≡ rest

-- the kinds of tokens are split where the tokens are
split_kinds : (front rest : List Kind) (tokens : Tokens) → kinds_of tokens ≡ front ++ rest → Split tokens front rest
split_kinds [] rest tokens e = record { before = []; after = tokens; split = refl; front_is = refl; rest_is = e }
split_kinds (k ∷ front) rest [] e = absurd cc
split_kinds (k ∷ front) rest (t ∷ tokens) e =
    let same : t.0 ≡ k = cc in
    let more : kinds_of tokens ≡ front ++ rest = cc in
    let s = split_kinds front rest tokens more in
    record { before = t ∷ s.before; after = s.after; split = ap (λ (x : Tokens). t ∷ x) s.split; front_is = rw (same, s.front_is) refl; rest_is = s.rest_is }

-- where the last of some tokens ends
last_end : (t : Kind × ℕ) (front rest : Tokens) → get_or (map (λ x. x.1) ((t ∷ front) ++ rest)) (length front) 0 ≡ end_of (t ∷ front)
last_end t [] rest = refl
last_end t (u ∷ front) rest = last_end u front rest

enough : (n left : ℕ) → n ≡ left → nat_le n left ≡ true
enough n left e = grind (arith, nat_tests)

too_few : (n left : ℕ) → left < n → nat_le n left ≡ false
too_few n left less = grind (arith, nat_tests)

end_is : (front rest : Tokens) (ends : List ℕ) (left : ℕ) → ends ≡ map (λ x. x.1) (front ++ rest) → left ≡ length rest → end_before ends left ≡ end_of front
end_is [] rest ends left e l =
    let n : length ends ≡ left = rw (e, length-map, l) refl in
    rw (enough (length ends) left n) refl
end_is (t ∷ front) rest ends left e l =
    let n : length ends ≡ suc (length front + length rest) = rw (e, length-map) (ap suc (length-append front rest)) in
    let less : left < length ends = omega arith in
    let place : length ends - left - 1 ≡ length front = omega arith in
    rw (too_few (length ends) left less, place, e) (last_end t front rest)

pub fault_of : {T : Type 0} (S : List Kind → T → Type 0) (tokens : Tokens) (rest : List Kind) (ends : List ℕ) → ends ≡ map (λ x. x.1) tokens → IsFault S (kinds_of tokens) rest → IsTokenFault S tokens (end_before ends (length rest))
fault_of S tokens rest ends e f =
    let s = split_kinds f.front rest tokens f.split in
    let many : length (kinds_of s.after) ≡ length s.after = rw length-map refl in
    let left : length rest ≡ length s.after = ap length (sym s.rest_is) ∙ many in
    record {
      front = s.before;
      rest = s.after;
      split = s.split;
      continued = rw s.front_is f.continued;
      no_further = rw (s.front_is, s.rest_is) f.no_further;
      placed = end_is s.before s.after ends (length rest) (rw s.split at e) left;
    }

text_fault : {T : Type 0} (S : List Kind → T → Type 0) (text : List ℕ) (kinds rest : List Kind) (ends : List ℕ) → None ≡ past_limit text → kinds ≡ map (λ x. x.0) (tokens_of text) → ends ≡ map (λ x. x.1) (tokens_of text) → IsFault S kinds rest → IsTextFault S text (end_before ends (length rest))
text_fault S text kinds rest ends short ks es f = rw (← short) (fault_of S (tokens_of text) rest ends es (rw ks at f))

-- what parse_filter and parse_action rest on
pub filter_spelled : (depth : ℕ) (text : List ℕ) (kinds : List Kind) (t : Term) → None ≡ past_limit text → kinds ≡ map (λ x. x.0) (tokens_of text) → filter_of depth kinds ≡ Ok (t, []) → SpellsText (SpellsFilter depth) text t
filter_spelled depth text kinds t short ks e = (sym short, rw ks at (filters_spelled depth kinds t e))

pub filter_fault : (depth : ℕ) (text : List ℕ) (kinds rest : List Kind) (ends : List ℕ) → None ≡ past_limit text → kinds ≡ map (λ x. x.0) (tokens_of text) → ends ≡ map (λ x. x.1) (tokens_of text) → filter_of depth kinds ≡ Err rest → IsTextFault (SpellsFilter depth) text (end_before ends (length rest))
filter_fault depth text kinds rest ends short ks es e = text_fault (SpellsFilter depth) text kinds rest ends short ks es (filter_faults depth kinds rest e)

pub action_spelled : (depth count : ℕ) (text : List ℕ) (kinds : List Kind) (cs : List Change) → None ≡ past_limit text → kinds ≡ map (λ x. x.0) (tokens_of text) → action_of depth count kinds ≡ Ok (cs, []) → SpellsText (SpellsAction depth count) text cs
action_spelled depth count text kinds cs short ks e = (sym short, rw ks at (actions_spelled depth count kinds cs e))

pub action_fault : (depth count : ℕ) (text : List ℕ) (kinds rest : List Kind) (ends : List ℕ) → None ≡ past_limit text → kinds ≡ map (λ x. x.0) (tokens_of text) → ends ≡ map (λ x. x.1) (tokens_of text) → action_of depth count kinds ≡ Err rest → IsTextFault (SpellsAction depth count) text (end_before ends (length rest))
action_fault depth count text kinds rest ends short ks es e = text_fault (SpellsAction depth count) text kinds rest ends short ks es (action_faults depth count kinds rest e)

pub limit_fault : {T : Type 0} (S : List Kind → T → Type 0) (text : List ℕ) (place : ℕ) → Some place ≡ past_limit text → IsTextFault S text place
limit_fault S text place e = rw (← e) refl

pub ruleset joined = (filter_spelled, filter_fault, action_spelled, action_fault, limit_fault)
