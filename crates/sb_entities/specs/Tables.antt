-- The entities of a namespace, with room for further ones, as contracts see them.
use Rattle.std.specs.Prelude.{ℕ, nat_lt, Bool, List}
use Rattle.sb_machine.specs.declared.state.Entity.{Entity}
use Rattle.sb_entities.specs.declared.entity.EntityStore.{EntityStore}

-- the entities in memory, and how many more fit
pub record Tabled : Type 0 where
  pub rows : List EntityStore
  -- so many more may be made
  pub spare : ℕ
  -- the last number given to one
  pub last : ℕ

-- the number of an entity
abbrev pub number_of : Entity → ℕ
number_of e = e.about.number

-- in memory, it has the lesser number
abbrev pub is_earlier : EntityStore → EntityStore → Bool
is_earlier a b = nat_lt a.listing.about.number b.listing.about.number
