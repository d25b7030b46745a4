-- A plan that grows by some changes, and the numbers that it has given so far.
use Rattle.std.specs.Prelude.{◌≡◌, ℕ, List, ◌++◌}
use Rattle.sb_machine.specs.Changes.{after_all}
use Rattle.sb_machine.specs.Namespace.{listed, last_at}
use Rattle.sb_machine.specs.declared.change.Change.{Change}
use Rattle.sb_machine.specs.declared.state.Space.{Space}
use Rattle.sb_fanout.specs.Lasts.{Given, StandsFor}

-- The numbers given, behind the last ones of the namespace that is planned over, are those of this.
abbrev pub Stands : Space → Given → Space → Type 0
Stands s given now = StandsFor (listed s) (λ key. last_at key s) given now

-- `s` is the namespace that is planned over. The changes stand behind those of the plan so far,
-- and the numbers stand for the namespace that they lead to wherever they stood for that before.
pub record IsGrown (s : Space) (cs : List Change) (before after : Given) (old new : List Change) : Type 0 where
  pub changes : new ≡ old ++ cs
  pub stands : (t : ℕ) (now : Space) → Stands s before now → Stands s after (after_all t cs now)
