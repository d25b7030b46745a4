-- What stands behind each call over the disks: the state that they stood for, the history since, and the state that they stand for.
use Rattle.std.specs.Prelude.{ℕ, List}
use Rattle.sb_journal.specs.Disks.{Disks, AreHonest}
use Rattle.sb_machine.specs.Consistent.{IsConsistent}
use Rattle.sb_machine.specs.History.{IsLegal}
use Rattle.sb_machine.specs.declared.history.Entry.{Entry}
use Rattle.sb_machine.specs.declared.state.State.{State}
use Rattle.sb_node.specs.Nodes.{IsDurable}
use Rattle.sb_node.specs.Recovery.{Recovers, recovered_on}
use Rattle.sb_app.specs.Lawful.{HasLaws}

-- this state is what the disks stood for, a consistent one
pub record IsFound (salt : ℕ) (was : Disks) (start : State) : Type 0 where
  pub recovers : AreHonest was → Recovers (recovered_on was salt) start
  pub consistent : IsConsistent start

-- the history of calls from this state on is legal, and so has all laws
pub record IsChronicle (start : State) (history : List Entry) : Type 0 where
  pub legal : IsLegal start history
  pub laws : HasLaws start history

-- this state is what the disks stand for, also after a crash
pub record IsBacked (salt : ℕ) (now : Disks) (state : State) : Type 0 where
  pub recovers : Recovers (recovered_on now salt) state
  pub durable : IsDurable now state
