-- What it means that a reader reads a grammar.
use Rattle.std.specs.Prelude.{◌≡◌, Bool, false, List, [], ◌∷◌, ◌++◌, Result, Ok, Err}

-- the same next token, and then other ones
abbrev pub other_tail : {K : Type 0} → List K → List K → List K
other_tail [] tail = []
other_tail (k ∷ ts) tail = k ∷ tail

-- the next token isn't one of these
abbrev pub Stops : {K : Type 0} → (K → Bool) → List K → Type 0
Stops goes [] = Unit {0}
Stops goes (k ∷ ts) = goes k ≡ false

-- a tree was found, and whatever stands behind the next token changes nothing
pub record Found {K T : Type 0} (R : List K → Result (T × List K) (List K)) (S : List K → T → Type 0) (ts : List K) (t : T) (rest : List K) : Type 0 where
  pub front : List K
  pub split : ts ≡ front ++ rest
  pub spelled : S front t
  pub again : (tail : List K) → R (front ++ other_tail rest tail) ≡ Ok (t, other_tail rest tail)

-- the tokens before the fault can be completed, and whatever stands behind the next token changes nothing
pub record Fault {K T : Type 0} (R : List K → Result (T × List K) (List K)) (S : List K → T → Type 0) (ts rest : List K) : Type 0 where
  pub front : List K
  pub split : ts ≡ front ++ rest
  pub more : List K
  pub tree : T
  pub completed : S (front ++ more) tree
  pub again : (tail : List K) → R (front ++ other_tail rest tail) ≡ Err (other_tail rest tail)

-- a reader finds what the grammar spells, only that, and tells of the first token that can't be completed
pub record Exact {K T : Type 0} (R : List K → Result (T × List K) (List K)) (S : List K → T → Type 0) (goes : K → Bool) : Type 0 where
  pub found : (ts : List K) (t : T) (rest : List K) → R ts ≡ Ok (t, rest) → Found R S ts t rest
  pub only : (u : List K) (t : T) (rest : List K) → S u t → Stops goes rest → R (u ++ rest) ≡ Ok (t, rest)
  pub fault : (ts rest : List K) → R ts ≡ Err rest → Fault R S ts rest

-- a token list that a grammar spells
pub record Example {K T : Type 0} (S : List K → T → Type 0) : Type 0 where
  pub tokens : List K
  pub tree : T
  pub spelled : S tokens tree
