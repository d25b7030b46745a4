use Rattle.std.proofs.Common.{arith}
use Rattle.sb_outside.proofs.Calls.{pushes}
use Rattle.sb_outside.proofs.memory.MemDiskDisk.write_at.Goals as goal

-- `search` takes long at these
pub returns-then-listed-clause-err : goal.returns-then-listed-clause-err
returns-then-listed-clause-err c = grind (arith, pushes)

pub returns-then-listed-clause-seen : goal.returns-then-listed-clause-seen
returns-then-listed-clause-seen c = grind (arith, pushes)

pub returns-then-listed-clause-torn : goal.returns-then-listed-clause-torn
returns-then-listed-clause-torn c = grind (arith, pushes)

pub returns-in_default-clause-err : goal.returns-in_default-clause-err
returns-in_default-clause-err c = grind (arith, pushes)

pub returns-in_default-clause-seen : goal.returns-in_default-clause-seen
returns-in_default-clause-seen c = grind (arith, pushes)

pub returns-in_default-clause-torn : goal.returns-in_default-clause-torn
returns-in_default-clause-torn c = grind (arith, pushes)

pub returns-in_default-clause-alone : goal.returns-in_default-clause-alone
returns-in_default-clause-alone c = grind (arith, pushes)

pub returns-clause-ok : goal.returns-clause-ok
returns-clause-ok c = grind (arith, pushes)

pub returns-clause-torn : goal.returns-clause-torn
returns-clause-torn c = grind (arith, pushes)

pub returns-clause-alone : goal.returns-clause-alone
returns-clause-alone c = grind (arith, pushes)
