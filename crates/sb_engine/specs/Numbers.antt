-- The numbers that changes give, each kind apart.
use Rattle.std.specs.Prelude.{ℕ}
use Rattle.sb_machine.specs.Changes.{numbers_in}
use Rattle.sb_machine.specs.Leaves.{locks_given}
use Rattle.sb_machine.specs.declared.change.Change.{Change}
use Rattle.sb_machine.specs.declared.change.Change.TheVariants.{InLeaf, Makes, Begins}
use Rattle.sb_engine.specs.declared.plan.numbers.Numbered.{Numbered}
use Rattle.sb_engine.specs.declared.plan.numbers.Numbered.TheVariants.{Copies, Entities, Locks, Transactions}

-- how many entity numbers a change gives
abbrev pub entities_in : Change → ℕ
entities_in (Makes kind path description rules) = 1
entities_in _ = 0

-- how many lock numbers a change gives
abbrev pub locks_in : Change → ℕ
locks_in (InLeaf key c) = locks_given c
locks_in _ = 0

-- how many transaction numbers a change gives
abbrev pub transactions_in : Change → ℕ
transactions_in (Begins entity deadline) = 1
transactions_in _ = 0

-- how many numbers of a kind a change gives
abbrev pub given_in : Numbered → Change → ℕ
given_in Copies c = numbers_in c
given_in Entities c = entities_in c
given_in Locks c = locks_in c
given_in Transactions c = transactions_in c
