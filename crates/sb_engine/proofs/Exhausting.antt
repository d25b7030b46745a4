-- The order of an act's tests.
use Rattle.std.proofs.Common.{◌≡◌, ℕ, false, List, Option, None, refl}
use Rattle.sb_machine.specs.Changes.{is_numbered}
use Rattle.sb_machine.specs.Rows.{Row, refuses, answers, refused_by, numbered}
use Rattle.sb_machine.specs.declared.change.Change.{Change}
use Rattle.sb_machine.specs.declared.reply.Refusal.{Refusal}
use Rattle.sb_machine.specs.declared.reply.Refusal.TheVariants.{Exhausted}
use Rattle.sb_machine.specs.declared.reply.Reply.{Reply}
use Rattle.sb_machine.specs.declared.state.Space.{Space}

-- what is answered, but gives a number that passes the greatest
pub exhausted : (t : ℕ) (s : Space) (bad : Option Refusal) (row : Row) (reply : Reply) (cs : List Change) → bad ≡ None → row ≡ answers reply cs → is_numbered t cs s ≡ false → numbered t s (refused_by bad row) ≡ refuses Exhausted
exhausted t s bad row reply cs passes is fails = rw (passes, is, fails) refl
