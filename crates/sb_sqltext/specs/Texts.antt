-- What a text spells, and where it is at fault.
use Rattle.std.specs.Prelude.{◌≡◌, ℕ, List, [], ◌∷◌, ◌++◌, None, Result, Ok, Err, MatchOption}
use Rattle.sb_model.specs.declared.token.Kind.{Kind}
use Rattle.sb_sqlgrammar.specs.Laws.{IsContinued, IsNoFurther}
use Rattle.sb_model.specs.Texts.{past_limit, kinds_of}
use Rattle.sb_model.specs.Tokens.{tokens_of}
use Rattle.sb_sqltext.specs.declared.texts.ParseFault.{ParseFault}
use Rattle.sb_sqltext.specs.declared.texts.ParseFault.TheVariants.{At, OutOfMemory}

-- where the last of these tokens ends, and 0 where there is none
abbrev pub end_of : List (Kind × ℕ) → ℕ
end_of [] = 0
end_of (t ∷ []) = t.1
end_of (t ∷ u ∷ tokens) = end_of (u ∷ tokens)

-- the text is short enough, and its tokens spell this tree
abbrev pub SpellsText : {T : Type 0} → (List Kind → T → Type 0) → List ℕ → T → Type 0
SpellsText S text t = (past_limit text ≡ None) × S (kinds_of (tokens_of text)) t

-- the longest sequence of tokens that some sentence continues ends at this place
pub record IsTokenFault {T : Type 0} (S : List Kind → T → Type 0) (tokens : List (Kind × ℕ)) (place : ℕ) : Type 0 where
  pub front : List (Kind × ℕ)
  pub rest : List (Kind × ℕ)
  pub split : tokens ≡ front ++ rest
  pub continued : IsContinued S (kinds_of front)
  pub no_further : IsNoFurther S (kinds_of front) (kinds_of rest)
  pub placed : place ≡ end_of front

-- the text spells nothing: it is too long, from this place on, or its tokens are at fault here
abbrev pub IsTextFault : {T : Type 0} → (List Kind → T → Type 0) → List ℕ → ℕ → Type 0
IsTextFault S text place = MatchOption (past_limit text) (IsTokenFault S (tokens_of text) place) (λ limit. place ≡ limit)

-- a tree that the text spells, or the place of its fault, or want of memory
abbrev pub AnswersText : {X T : Type 0} → (List Kind → T → Type 0) → (X → T) → List ℕ → Result X ParseFault → Type 0
AnswersText S view text (Ok x) = SpellsText S text (view x)
AnswersText S view text (Err (At place)) = IsTextFault S text place
AnswersText S view text (Err OutOfMemory) = Unit {0}
