-- The two counts that a namespace keeps, the copies that live and the numbers made, and what a change does to them.
use Rattle.std.specs.Prelude.{◌≡◌, ℕ, ◌+◌, ◌≤◌, List, length, sum_by}
use Rattle.sb_machine.specs.Namespace.{live_in, made_in}
use Rattle.sb_machine.specs.declared.state.Entity.{Entity}
use Rattle.sb_machine.specs.declared.state.Leaf.{Leaf}
use Rattle.sb_entities.specs.declared.tally.Tally.{Tally}

-- a tally tells how the copies that live and the numbers made, before a change, became those behind it
pub record Tells (t : Tally) (copies numbers later_copies later_numbers : ℕ) : Type 0 where
  pub lives : later_copies + t.ended ≡ copies + t.entered
  pub ended : t.ended ≤ copies
  pub made : later_numbers ≡ numbers + t.given
  -- a copy that enters has a number of its own
  pub numbered : t.entered ≤ t.given

-- how a part became another
abbrev pub TellsOfLeaf : Tally → Leaf → Leaf → Type 0
TellsOfLeaf t x y = Tells t (length x.copies) x.last (length y.copies) y.last

-- how an entity became another
abbrev pub TellsOfEntity : Tally → Entity → Entity → Type 0
TellsOfEntity t x y = Tells t (live_in x) (made_in x) (live_in y) (made_in y)

-- how entities became others
abbrev pub TellsOfAll : Tally → List Entity → List Entity → Type 0
TellsOfAll t xs ys = Tells t (sum_by live_in xs) (sum_by made_in xs) (sum_by live_in ys) (sum_by made_in ys)
