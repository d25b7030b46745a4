-- What a plan says.
use Rattle.std.specs.Prelude.{ℕ, List, Option}
use Rattle.sb_machine.specs.declared.change.Change.{Change}
use Rattle.sb_machine.specs.declared.reply.Answered.{Answered}
use Rattle.sb_machine.specs.declared.state.Kept.{Kept}

-- Its changes in order, its answer, the client of whom nothing is remembered any more, and what is kept of the call for the client that
-- asked.
pub record Planned : Type 0 where
  pub changes : List Change
  pub answered : Answered
  pub forgets : Option (List ℕ)
  pub kept : Option Kept
