-- The sessions of one part of an entity, as contracts see them.
use Rattle.std.specs.Prelude.{ℕ, List, []}
use Rattle.sb_machine.specs.Each.{IsSorted}
use Rattle.sb_machine.specs.Names.{is_before}
use Rattle.sb_machine.specs.declared.state.Leaf.{Leaf}
use Rattle.sb_machine.specs.declared.state.Session.{Session}

-- the sessions of a part, and how many more fit
pub record Seated : Type 0 where
  -- by id
  pub sessions : List Session
  -- so many more may be opened
  pub spare : ℕ

-- rising ids, in the order of texts
abbrev pub AreSorted : List Session → Type 0
AreSorted sessions = IsSorted (λ x y. is_before x.id y.id) sessions

-- a part with these sessions, for what is said of a part and looks at its sessions alone
abbrev pub seating : List Session → Leaf
seating sessions = record { last = 0; copies = []; sessions = sessions }
