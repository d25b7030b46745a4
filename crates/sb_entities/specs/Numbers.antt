-- What the numbers that one change gives need.
use Rattle.std.specs.Prelude.{ℕ, ◌+◌, ◌≤◌}
use Rattle.sb_machine.specs.Changes.{after, numbers_in, max_number}
use Rattle.sb_machine.specs.Namespace.{made}
use Rattle.sb_machine.specs.declared.change.Change.{Change}
use Rattle.sb_machine.specs.declared.state.Space.{Space}

-- none that is given passes the greatest
pub record Fits (t : ℕ) (c : Change) (s : Space) : Type 0 where
  pub made : made s + numbers_in c ≤ max_number
  pub entity : (after t c s).last_entity ≤ max_number
  pub lock : (after t c s).last_lock ≤ max_number
  pub txn : (after t c s).last_txn ≤ max_number
