-- A message with two texts of a dead letter.
use Rattle.std.proofs.Common.{◌≡◌, ℕ, List, Result, Some, IfOk, subst}
use Rattle.std.specs.Prelude.{codes}
use Rattle.std.specs.declared.alloc.AllocError.{AllocError}
use Rattle.sb_model.specs.declared.message.Message.{Message}
use Rattle.sb_machine.specs.Reasons.{marked, with_reason}

pub marked_twice : (x : Result Message AllocError) (m n : Message) (t d : List ℕ) → IfOk x (λ r. r ≡ marked (codes "deadlettererrordescription") (Some d) n) → n ≡ marked (codes "deadletterreason") (Some t) m
    → IfOk x (λ r. r ≡ with_reason (Some t) (Some d) m)
marked_twice x m n t d is was = subst (λ (k : Message). IfOk x (λ r. r ≡ marked (codes "deadlettererrordescription") (Some d) k)) was is
