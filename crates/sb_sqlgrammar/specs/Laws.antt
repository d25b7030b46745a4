-- What holds of reading and the grammar.
use Rattle.std.specs.Prelude.{◌≡◌, List, [], ◌∷◌, ◌++◌, Ok, Err}
use Rattle.sb_model.specs.declared.token.Kind.{Kind}
use Rattle.sb_model.specs.Readers.{Reader}

-- some sentence begins with these tokens
abbrev pub IsContinued : {T : Type 0} → (List Kind → T → Type 0) → List Kind → Type 0
IsContinued {T = T} S front = (more : List Kind) × (t : T) × S (front ++ more) t

-- none begins with these tokens and the next one; at the end, none has just these
abbrev pub IsNoFurther : {T : Type 0} → (List Kind → T → Type 0) → List Kind → List Kind → Type 0
IsNoFurther {T = T} S front [] = (t : T) → S front t → ⊥
IsNoFurther {T = T} S front (k ∷ rest) = (more : List Kind) (t : T) → S (front ++ k ∷ more) t → ⊥

-- the longest front that some sentence continues ends where this rest begins
pub record IsFault {T : Type 0} (S : List Kind → T → Type 0) (tokens rest : List Kind) : Type 0 where
  pub front : List Kind
  pub split : tokens ≡ front ++ rest
  pub continued : IsContinued S front
  pub no_further : IsNoFurther S front rest

-- what is read is spelled so
abbrev pub ReadsSpelled : {T : Type 0} → Reader Kind T → (List Kind → T → Type 0) → Type 0
ReadsSpelled {T = T} R S = (tokens : List Kind) (t : T) → R tokens ≡ Ok (t, []) → S tokens t

-- what is spelled is read
abbrev pub ReadsEach : {T : Type 0} → Reader Kind T → (List Kind → T → Type 0) → Type 0
ReadsEach {T = T} R S = (tokens : List Kind) (t : T) → S tokens t → R tokens ≡ Ok (t, [])

-- no tokens spell two trees
abbrev pub SpellsOne : {T : Type 0} → (List Kind → T → Type 0) → Type 0
SpellsOne {T = T} S = (tokens : List Kind) (t s : T) → S tokens t → S tokens s → t ≡ s

-- a fault is where no sentence goes on
abbrev pub FaultsExactly : {T : Type 0} → Reader Kind T → (List Kind → T → Type 0) → Type 0
FaultsExactly {T = T} R S = (tokens rest : List Kind) → R tokens ≡ Err rest → IsFault S tokens rest
