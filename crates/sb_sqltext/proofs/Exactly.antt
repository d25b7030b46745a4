-- A text has one tree or one place of a fault, and not both.
use Rattle.std.proofs.Common.{◌≡◌, ℕ, List, [], ◌∷◌, ◌++◌, length, map, Option, Some, None, Result, Ok, Err, refl, ap, sym, ◌∙◌, append_assoc, append-nil, subst}
use Rattle.std.specs.Prelude.{MatchOption}
use Rattle.std.proofs.lemmas.List.{map-append}
use Rattle.sb_model.specs.Expressions.{Term, Change}
use Rattle.sb_model.specs.declared.token.Kind.{Kind}
use Rattle.sb_model.specs.Readers.{◌>>=◌, ended}
use Rattle.sb_model.specs.Language.{SpellsFilter, SpellsAction}
use Rattle.sb_model.specs.Reading.{filter_of, action_of}
use Rattle.sb_sqlgrammar.specs.Laws.{ReadsSpelled, ReadsEach, FaultsExactly, IsNoFurther, IsContinued}
use Rattle.sb_sqlgrammar.proofs.Readers.{pair_ok}
use Rattle.sb_sqlgrammar.proofs.Whole.{filters_spelled, filters_each, filter_faults, actions_spelled, actions_each, action_faults}
use Rattle.sb_model.specs.Tokens.{tokens_of}
use Rattle.sb_sqltext.specs.Texts.{end_of, SpellsText, IsTokenFault, IsTextFault}
use Rattle.sb_model.specs.Texts.{past_limit, kinds_of, end_before, read_kinds, read_short, read_text}
use Rattle.sb_sqltext.specs.Laws.{ReadsTexts}
use Rattle.sb_sqltext.proofs.Joined.{Tokens, fault_of}

-- two splits of one list
record Longer (a b c d : Tokens) : Type 0 where
  here : Kind × ℕ
  more : Tokens
  front : c ≡ a ++ here ∷ more
  rest : b ≡ here ∷ (more ++ d)

data Splits (a b c d : Tokens) : Type 0 where
  same : a ≡ c → Splits a b c d
  first_longer : Longer c d a b → Splits a b c d
  second_longer : Longer a b c d → Splits a b c d

grown : (t u : Kind × ℕ) (a b c d : Tokens) → t ≡ u → Splits a b c d → Splits (t ∷ a) b (u ∷ c) d
grown t u a b c d e (same s) = same (rw (e, s) refl)
grown t u a b c d e (first_longer l) = first_longer (record { here = l.here; more = l.more; front = rw (e, l.front) refl; rest = l.rest })
grown t u a b c d e (second_longer l) = second_longer (record { here = l.here; more = l.more; front = rw (e, l.front) refl; rest = l.rest })

cons_is : (t u : Kind × ℕ) (x y : Tokens) → t ∷ x ≡ u ∷ y → (t ≡ u) × (x ≡ y)
cons_is t u x y e = (cc, cc)

splits : (a b c d : Tokens) → a ++ b ≡ c ++ d → Splits a b c d
splits [] b [] d e = same refl
splits [] b (u ∷ c) d e = second_longer (record { here = u; more = c; front = refl; rest = e })
splits (t ∷ a) b [] d e = first_longer (record { here = t; more = a; front = refl; rest = sym e })
splits (t ∷ a) b (u ∷ c) d e = let p = cons_is t u (a ++ b) (c ++ d) e in grown t u a b c d p.0 (splits a b c d p.1)

module _ {T : Type 0} (S : List Kind → T → Type 0) where
  -- no fault stands before a front that goes on
  goes_further : (front rest others : Tokens) (here : Kind × ℕ) (more : Tokens) → IsNoFurther S (kinds_of front) (kinds_of rest) → rest ≡ here ∷ (more ++ others) → IsContinued S (kinds_of (front ++ here ∷ more)) → ⊥
  goes_further front rest others here more stops is on =
      let at_here : IsNoFurther S (kinds_of front) (here.0 ∷ kinds_of (more ++ others)) = rw is at stops in
      let spelled : S (kinds_of front ++ here.0 ∷ (kinds_of more ++ on.0)) on.1 = rw (map-append (λ (x : Kind × ℕ). x.0) front (here ∷ more), append_assoc) at on.2 in
      at_here (kinds_of more ++ on.0) on.1 spelled

  -- one place
  one_place : (tokens : Tokens) (p q : ℕ) → IsTokenFault S tokens p → IsTokenFault S tokens q → p ≡ q
  one_place tokens p q f g = at (splits f.front f.rest g.front g.rest (sym f.split ∙ g.split)) where
    at : Splits f.front f.rest g.front g.rest → p ≡ q
    at (same e) = f.placed ∙ (ap end_of e ∙ sym g.placed)
    at (first_longer l) = absurd (goes_further g.front g.rest f.rest l.here l.more g.no_further l.rest (subst (λ (x : Tokens). IsContinued S (kinds_of x)) l.front f.continued))
    at (second_longer l) = absurd (goes_further f.front f.rest g.rest l.here l.more f.no_further l.rest (subst (λ (x : Tokens). IsContinued S (kinds_of x)) l.front g.continued))

  -- and no tree where there is one
  no_tree : (tokens : Tokens) (p : ℕ) (t : T) → IsTokenFault S tokens p → S (kinds_of tokens) t → ⊥
  no_tree tokens p t f s = at f.rest refl where
    at : (rest : Tokens) → f.rest ≡ rest → ⊥
    at [] e =
        let all : tokens ≡ f.front = f.split ∙ (ap (λ (x : Tokens). f.front ++ x) e ∙ append-nil f.front) in
        let stops : IsNoFurther S (kinds_of f.front) [] = subst (λ (x : Tokens). IsNoFurther S (kinds_of f.front) (kinds_of x)) e f.no_further in
        stops t (subst (λ (x : Tokens). S (kinds_of x) t) all s)
    at (here ∷ more) e =
        let all : tokens ≡ f.front ++ here ∷ more = f.split ∙ ap (λ (x : Tokens). f.front ++ x) e in
        let spelled : S (kinds_of (f.front ++ here ∷ more)) t = subst (λ (x : Tokens). S (kinds_of x) t) all s in
        let on : IsContinued S (kinds_of (f.front ++ here ∷ more)) = ([], t, rw append-nil spelled) in
        goes_further f.front f.rest [] here more f.no_further (e ∙ ap (λ (x : Tokens). here ∷ x) (sym (append-nil more))) on

abbrev ok_of : {T : Type 0} → T → Result T ℕ
ok_of t = Ok t

ok_is : {T : Type 0} (t s : T) → ok_of t ≡ ok_of s → t ≡ s
ok_is t s e = cc

module _ {T : Type 0} (R : List Kind → Result (T × List Kind) (List Kind)) (S : List Kind → T → Type 0) (spelled : ReadsSpelled R S) (each : ReadsEach R S) (faults : FaultsExactly R S) (ends : (tokens : List Kind) (t : T) (rest : List Kind) → R tokens ≡ Ok (t, rest) → rest ≡ []) where
  abbrev kinds : List ℕ → List Kind
  kinds text = kinds_of (tokens_of text)

  abbrev places : List ℕ → List ℕ
  places text = map (λ x. x.1) (tokens_of text)

  tree_at : (text : List ℕ) (x : T × List Kind) → R (kinds text) ≡ Ok x → S (kinds text) x.0
  tree_at text x e = spelled (kinds text) x.0 (rw (ends (kinds text) x.0 x.1 e) at e)

  place_at : (text : List ℕ) (rest : List Kind) → R (kinds text) ≡ Err rest → IsTokenFault S (tokens_of text) (end_before (places text) (length rest))
  place_at text rest e = fault_of S (tokens_of text) rest (places text) refl (faults (kinds text) rest e)

  read_spelled : (text : List ℕ) (t : T) → read_text R text ≡ Ok t → SpellsText S text t
  unfolding read_text
  read_spelled text t e = at (past_limit text) refl e where
    tree : (r : Result (T × List Kind) (List Kind)) → R (kinds text) ≡ r → read_kinds (places text) r ≡ Ok t → S (kinds text) t
    tree (Ok x) was e = subst (S (kinds text)) (ok_is x.0 t e) (tree_at text x was)
    tree (Err rest) was e = absurd cc

    at : (o : Option ℕ) → past_limit text ≡ o → read_short (read_kinds (places text) (R (kinds text))) o ≡ Ok t → SpellsText S text t
    at None is e = (is, tree (R (kinds text)) refl e)
    at (Some limit) is e = absurd cc

  read_each : (text : List ℕ) (t : T) → SpellsText S text t → read_text R text ≡ Ok t
  unfolding read_text
  read_each text t s = rw (s.0, each (kinds text) t s.1) refl

  read_fault : (text : List ℕ) (place : ℕ) → read_text R text ≡ Err place → IsTextFault S text place
  unfolding read_text
  read_fault text place e = at (past_limit text) e where
    fault : (r : Result (T × List Kind) (List Kind)) → R (kinds text) ≡ r → read_kinds (places text) r ≡ Err place → IsTokenFault S (tokens_of text) place
    fault (Ok x) was e = absurd cc
    fault (Err rest) was e = let here : end_before (places text) (length rest) ≡ place = cc in subst (IsTokenFault S (tokens_of text)) here (place_at text rest was)

    at : (o : Option ℕ) → read_short (read_kinds (places text) (R (kinds text))) o ≡ Err place → MatchOption o (IsTokenFault S (tokens_of text) place) (λ limit. place ≡ limit)
    at None e = fault (R (kinds text)) refl e
    at (Some limit) e = cc

  read_each_fault : (text : List ℕ) (place : ℕ) → IsTextFault S text place → read_text R text ≡ Err place
  unfolding read_text
  read_each_fault text place f = at (past_limit text) f where
    fault : (r : Result (T × List Kind) (List Kind)) → R (kinds text) ≡ r → IsTokenFault S (tokens_of text) place → read_kinds (places text) r ≡ Err place
    fault (Ok x) was f = absurd (no_tree S (tokens_of text) place x.0 f (tree_at text x was))
    fault (Err rest) was f = ap Err (one_place S (tokens_of text) (end_before (places text) (length rest)) place (place_at text rest was) f)

    at : (o : Option ℕ) → MatchOption o (IsTokenFault S (tokens_of text) place) (λ limit. place ≡ limit) → read_short (read_kinds (places text) (R (kinds text))) o ≡ Err place
    at None f = fault (R (kinds text)) refl f
    at (Some limit) f = ap Err (sym f)

  reads_texts : ReadsTexts R S
  reads_texts = record { spelled = read_spelled; each = read_each; fault = read_fault; each_fault = read_each_fault }

-- nothing is left behind the end
nothing_left : {T : Type 0} (r : Result (T × List Kind) (List Kind)) (t : T) (rest : List Kind) → (r >>= λ x. ended x.0 x.1) ≡ Ok (t, rest) → rest ≡ []
nothing_left {T = T} (Ok x) t rest e = at x.1 e where
  at : (left : List Kind) → ended x.0 left ≡ Ok (t, rest) → rest ≡ []
  at [] e = sym (pair_ok x.0 t [] rest e).1
  at (k ∷ left) e = absurd cc
nothing_left (Err d) t rest e = absurd cc

filter_ends : (depth : ℕ) (tokens : List Kind) (t : Term) (rest : List Kind) → filter_of depth tokens ≡ Ok (t, rest) → rest ≡ []
unfolding filter_of
filter_ends depth tokens t rest e = nothing_left _ t rest e

action_ends : (depth count : ℕ) (tokens : List Kind) (t : List Change) (rest : List Kind) → action_of depth count tokens ≡ Ok (t, rest) → rest ≡ []
unfolding action_of
action_ends depth count tokens t rest e = nothing_left _ t rest e

pub reads_filters : (depth : ℕ) → ReadsTexts (filter_of depth) (SpellsFilter depth)
reads_filters depth = reads_texts (filter_of depth) (SpellsFilter depth) (filters_spelled depth) (filters_each depth) (filter_faults depth) (filter_ends depth)

pub reads_actions : (depth count : ℕ) → ReadsTexts (action_of depth count) (SpellsAction depth count)
reads_actions depth count = reads_texts (action_of depth count) (SpellsAction depth count) (actions_spelled depth count) (actions_each depth count) (action_faults depth count) (action_ends depth count)
