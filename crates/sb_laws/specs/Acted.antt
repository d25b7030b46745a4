-- A client's numbers act once, in rising order, as long as it isn't forgotten.
use Rattle.std.specs.Prelude.{ℕ, ◌+◌, ◌≤◌, ◌==◌, List, [], ◌∷◌, bytes_eq, if◌then◌else◌, Option, Some, None}
use Rattle.sb_laws.specs.Counting.{times}
use Rattle.sb_machine.specs.Accounts.{NumberUse, acts, forgets, number_uses}
use Rattle.sb_machine.specs.Consistent.{IsConsistent}
use Rattle.sb_machine.specs.Each.{Each}
use Rattle.sb_machine.specs.History.{IsLegal, fresh_log}
use Rattle.sb_machine.specs.Repeats.{kept_for}
use Rattle.sb_machine.specs.declared.history.Entry.{Entry}
use Rattle.sb_machine.specs.declared.state.Kept.{Kept}
use Rattle.sb_machine.specs.declared.state.State.{State}

-- what bears on one client's numbers, in order: the number with which it acted, or none where it was forgotten
abbrev pub uses_of : List ℕ → List NumberUse → List (Option ℕ)
uses_of client [] = []
uses_of client (acts x ∷ us) = if bytes_eq x.client client then Some x.number ∷ uses_of client us else uses_of client us
uses_of client (forgets name ∷ us) = if bytes_eq name client then None ∷ uses_of client us else uses_of client us

-- the numbers with which it acted before it was first forgotten: all, if it never was
abbrev pub first_stretch : List (Option ℕ) → List ℕ
first_stretch [] = []
first_stretch (None ∷ us) = []
first_stretch (Some n ∷ us) = n ∷ first_stretch us

-- for each time that it was forgotten, the numbers with which it acted from then until it was forgotten again
abbrev pub later_stretches : List (Option ℕ) → List (List ℕ)
later_stretches [] = []
later_stretches (None ∷ us) = first_stretch us ∷ later_stretches us
later_stretches (Some n ∷ us) = later_stretches us

-- numbers rise, from this one on
abbrev pub Rise : ℕ → List ℕ → Type 0
Rise low [] = Unit {0}
Rise low (n ∷ ns) = (low ≤ n) × Rise (n + 1) ns

-- the least number with which a client may act: above the one that is kept
abbrev pub least_next : List ℕ → List Kept → ℕ
least_next client clients = elim (kept_for client clients) [ Some k ↦ k.number + 1 | None ↦ 0 ]

-- Each client's numbers that acted rise: from above the one that was kept until the client is forgotten, and from any number on behind each time
-- that it was. None acts twice in between.
pub record ActOnce (s : State) (uses : List NumberUse) : Type 0 where
  pub rise : (client : List ℕ) → Rise (least_next client s.clients) (first_stretch (uses_of client uses))
  pub rise_later : (client : List ℕ) → Each (Rise 0) (later_stretches (uses_of client uses))
  pub once : (client : List ℕ) (n : ℕ) → Each (λ numbers. times (λ m. m == n) numbers ≤ 1) (first_stretch (uses_of client uses) ∷ later_stretches (uses_of client uses))

-- in each legal history, a client's numbered calls act once each, in rising order, until it is forgotten
abbrev pub OnceNumbers : Type 0
OnceNumbers = (s : State) (h : List Entry) → IsConsistent s → IsLegal s h → ActOnce s (number_uses (fresh_log s) h)
