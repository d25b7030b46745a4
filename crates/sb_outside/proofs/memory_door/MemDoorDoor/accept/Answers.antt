use Rattle.std.proofs.Common.{arith}
use Rattle.std.proofs.lemmas.Grind.{common_steps}
use Rattle.sb_outside.proofs.memory_door.MemDoorDoor.accept.Goals as goal

-- `search` takes long at these
pub returns-then-is_empty-clause-in_order : goal.returns-then-is_empty-clause-in_order
returns-then-is_empty-clause-in_order c = grind (arith, common_steps)

pub returns-then-holds-clause-ends : goal.returns-then-holds-clause-ends
returns-then-holds-clause-ends c = grind (arith, common_steps)

pub overflow_add-self : goal.overflow_add-self
overflow_add-self c = grind (arith, common_steps)

pub invariant_of-self-2 : goal.invariant_of-self-2
invariant_of-self-2 c = grind (arith, common_steps)

pub returns-clause-ends : goal.returns-clause-ends
returns-clause-ends c = grind (arith, common_steps)

pub returns-clause-in_order : goal.returns-clause-in_order
returns-clause-in_order c = grind (arith, common_steps)
