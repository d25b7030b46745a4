-- The state that stores hold.
use Rattle.sb_machine.specs.declared.state.State.{State}
use Rattle.sb_entities.specs.Stores.{space_in}
use Rattle.sb_checkpoint.specs.declared.held.Held.{Held}

-- the state that stands in these stores
abbrev pub held_state : Held → State
held_state h = record { now = h.moment; clients = h.clients.now.clients; space = space_in h.space.now }
