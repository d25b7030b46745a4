-- Laws of what is recovered.
use Rattle.std.specs.Prelude.{ℕ, List}
use Rattle.sb_machine.specs.Consistent.{IsConsistent}
use Rattle.sb_machine.specs.declared.state.State.{State}
use Rattle.sb_node.specs.Recovery.{recovered, Recovers}

-- whatever stands on two disks, a state that it recovers is consistent
abbrev pub RecoversConsistent : Type 0
RecoversConsistent = (a b : List ℕ) (salt : ℕ) (s : State) → Recovers (recovered a b salt) s → IsConsistent s
