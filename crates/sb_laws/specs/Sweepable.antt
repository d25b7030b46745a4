-- What of a namespace's consistency shows that the sweeps of a tick take up all that is due.
use Rattle.std.specs.Prelude.{◌≢◌, ℕ, ◌≤◌, Option}
use Rattle.std.specs.List.{flat_map}
use Rattle.sb_machine.specs.Consistent.{holder_lock}
use Rattle.sb_machine.specs.Delivery.{max_count}
use Rattle.sb_machine.specs.Each.{Each, Pairs, IfSome}
use Rattle.sb_machine.specs.Keyed.{AreRising}
use Rattle.sb_machine.specs.Visits.{max_hops}
use Rattle.sb_machine.specs.declared.state.Entity.{Entity}
use Rattle.sb_machine.specs.declared.state.Leaf.{Leaf}
use Rattle.sb_machine.specs.declared.state.Space.{Space}
use Rattle.sb_machine.specs.declared.state.StoredCopy.{StoredCopy}

-- a time to live is a second at least
abbrev pub IsLasting : Option ℕ → Type 0
IsLasting ttl = IfSome ttl (λ seconds. 1 ≤ seconds)

-- what a time step asks of a message that stands in a part
pub record IsSweepableCopy (c : StoredCopy) : Type 0 where
  pub hops : c.hops ≤ max_hops
  pub count : c.count ≤ max_count
  pub ttl : IsLasting c.message.ttl

-- what a time step asks of a part
pub record IsSweepableLeaf (leaf : Leaf) : Type 0 where
  pub numbers : AreRising (λ c. c.number) 0 leaf.last leaf.copies
  pub copies : Each IsSweepableCopy leaf.copies
  pub holders : Pairs (λ l m. l ≢ m) (flat_map holder_lock leaf.sessions)

-- what a time step asks of an entity
pub record IsSweepableEntity (e : Entity) : Type 0 where
  pub ttl : IsLasting e.about.description.ttl
  pub main : IsSweepableLeaf e.main
  pub dead : IsSweepableLeaf e.dead
  pub transfer : IsSweepableLeaf e.transfer

-- numbers rise, no lock holds two sessions of a part, and times to live are a second at least
pub record IsSweepable (s : Space) : Type 0 where
  pub numbers : AreRising (λ e. e.about.number) 0 s.last_entity s.entities
  pub entities : Each IsSweepableEntity s.entities
  pub transactions : AreRising (λ x. x.number) 0 s.last_txn s.transactions
