-- What memory asks of a namespace that it is to hold.
use Rattle.std.specs.Prelude.{ℕ, ◌≤◌}
use Rattle.sb_machine.specs.Changes.{max_number}
use Rattle.sb_machine.specs.Each.{Each, IsSorted}
use Rattle.sb_machine.specs.Fit.{IsEntity}
use Rattle.sb_machine.specs.Keyed.{AreRising}
use Rattle.sb_machine.specs.Namespace.{made}
use Rattle.sb_machine.specs.declared.state.Entity.{Entity}
use Rattle.sb_machine.specs.declared.state.Leaf.{Leaf}
use Rattle.sb_machine.specs.declared.state.Space.{Space}
use Rattle.sb_repeats.specs.Windows.{comes_first}
use Rattle.sb_sessions.specs.Sessions.{AreSorted}
use Rattle.sb_entities.specs.Tables.{number_of}

-- of a namespace: that its lists stand in order and its counts within the limits, as they do between entries of a history
pub record IsHoldable (s : Space) : Type 0 where
  pub made : made s ≤ max_number
  pub numbers : AreRising number_of 0 s.last_entity s.entities
  -- the moment at which its entities are sound
  pub now : ℕ
  pub entities : Each (IsEntity now) s.entities
  pub transactions : AreRising (λ x. x.number) 0 s.last_txn s.transactions

-- ---- of what is in it

-- of a part: that its messages stand in rising number up to the last, its sessions by id
pub record IsOrderedLeaf (leaf : Leaf) : Type 0 where
  pub last : leaf.last ≤ max_number
  pub numbers : AreRising (λ c. c.number) 0 leaf.last leaf.copies
  pub sessions : AreSorted leaf.sessions

-- of an entity: that its ids stand by moment, and its parts so
pub record IsOrdered (e : Entity) : Type 0 where
  pub ids : IsSorted comes_first e.ids
  pub main : IsOrderedLeaf e.main
  pub dead : IsOrderedLeaf e.dead
  pub transfer : IsOrderedLeaf e.transfer
