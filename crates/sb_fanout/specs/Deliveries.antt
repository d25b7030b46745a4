-- What the changes of a delivery are, and how the numbers stand behind it.
use Rattle.std.specs.Prelude.{◌≡◌, ℕ, List, ◌++◌, true, None}
use Rattle.sb_machine.specs.Changes.{after_all}
use Rattle.sb_machine.specs.Delivery.{delivered, carried}
use Rattle.sb_machine.specs.Visits.{Visit}
use Rattle.sb_machine.specs.declared.change.Change.{Change}
use Rattle.sb_machine.specs.declared.state.Listed.{Listed}
use Rattle.sb_machine.specs.declared.state.Space.{Space}
use Rattle.sb_fanout.specs.Lasts.{Given, StandsFor, is_listed}

-- These visits of a message that is delivered from an entity: whatever the namespace that
-- directory and numbers stand for, they are its changes there, and the numbers stand for it after.
pub record IsDelivered (es : List Listed) (last before : Given) (e : Listed) (vs : List Visit) (after : Given) (old new : List Change) : Type 0 where
  pub changes : (s : Space) → StandsFor es last before s → is_listed e.number es ≡ true → new ≡ old ++ delivered None vs s
  pub stands : (s : Space) (t : ℕ) → StandsFor es last before s → StandsFor es last after (after_all t (delivered None vs s) s)

-- the same of a message that has its EnqueuedSequenceNumber
pub record IsCarried (es : List Listed) (last before : Given) (seq : ℕ) (vs : List Visit) (after : Given) (old new : List Change) : Type 0 where
  pub changes : new ≡ old ++ carried seq vs
  pub stands : (s : Space) (t : ℕ) → StandsFor es last before s → StandsFor es last after (after_all t (carried seq vs) s)
