-- The last numbered call of each client, as contracts see them.
use Rattle.std.specs.Prelude.{ℕ, Bool, List, Option, Some, None, if◌then◌else◌}
use Rattle.sb_machine.specs.Names.{is_before}
use Rattle.sb_machine.specs.Repeats.{is_client}
use Rattle.sb_machine.specs.declared.state.Kept.{Kept}

-- the clients that are remembered, and how many more fit
pub record Known : Type 0 where
  -- by name in byte order
  pub clients : List Kept
  -- so many more may be kept
  pub spare : ℕ

-- a client's name is before another's
abbrev pub is_first : Kept → Kept → Bool
is_first a b = is_before a.client b.client

-- what stands at a place, where it is this client's
abbrev pub of_client : List ℕ → Option Kept → Option Kept
of_client client None = None
of_client client (Some k) = if is_client client k then Some k else None
