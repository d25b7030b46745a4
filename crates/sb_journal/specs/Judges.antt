-- What a judge comes to while the base and the payloads of a journal are read.
use Rattle.std.specs.Prelude.{◌≡◌, ◌⊎◌, ◌+◌, ℕ, Bool, true, false, List, ◌∷◌, ◌++◌, length, Option, Some, None}
use Rattle.sb_journal.specs.declared.judge.Judge.{Ghosts}
use Rattle.sb_journal.specs.Text.{File, gate_after}

-- It was given this begin of a base, or else it refuses each base that begins so.
abbrev pub IsGiven : {J : Type 0} (G : Ghosts J) → J → Bool → (salt : ℕ) → List ℕ → Type 0
IsGiven G judge true salt base = G.given judge salt base
IsGiven G judge false salt base = (rest : List ℕ) → G.refuses_base salt (base ++ rest)

-- In a file of this salt the judge refuses this base, and this is its place.
abbrev pub IsBaseRefused : {J : Type 0} (G : Ghosts J) → (salt place : ℕ) → List ℕ → Type 0
IsBaseRefused G salt place base = (place ≡ 42) × G.refuses_base salt base

-- In a file of this salt and base the judge refuses one of these payloads: the first one that it doesn't take, behind the gate at this
-- place.
pub record IsPayloadRefused {J : Type 0} (G : Ghosts J) (salt place : ℕ) (base : List ℕ) (payloads : List (List ℕ)) : Type 0 where
  pub before : List (List ℕ)
  pub payload : List ℕ
  pub behind : List (List ℕ)
  pub payloads_are : payloads ≡ before ++ payload ∷ behind
  pub place_is : place ≡ gate_after (42 + length base) before
  pub refused : G.refuses salt base before payload

-- one of both, at this place
abbrev pub IsRefused : {J : Type 0} (G : Ghosts J) → (salt place : ℕ) → List ℕ → List (List ℕ) → Type 0
IsRefused G salt place base payloads = IsBaseRefused G salt place base ⊎ IsPayloadRefused G salt place base payloads

-- the judge refuses this file, at this place
abbrev pub IsFileRefused : {J : Type 0} (G : Ghosts J) → ℕ → File → Type 0
IsFileRefused G place file = IsRefused G file.salt place file.base file.payloads

-- It has taken the base and all of these payloads, or has refused one of them, at the place that was kept.
abbrev pub IsVerdict : {J : Type 0} (G : Ghosts J) → J → Option ℕ → (salt : ℕ) → List ℕ → List (List ℕ) → Type 0
IsVerdict G judge None salt base payloads = G.taken judge salt base payloads
IsVerdict G judge (Some place) salt base payloads = IsRefused G salt place base payloads
