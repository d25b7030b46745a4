use Rattle.std.proofs.Common.{arith}
use Rattle.sb_outside.proofs.Calls.{pushes}
use Rattle.sb_outside.proofs.memory.MemDisk.write.Goals as goal

-- `search` takes long at these
pub invariant_of-self-2 : goal.invariant_of-self-2
invariant_of-self-2 c = grind (arith, pushes)

pub returns-clause-room : goal.returns-clause-room
returns-clause-room c = grind (arith, pushes)
