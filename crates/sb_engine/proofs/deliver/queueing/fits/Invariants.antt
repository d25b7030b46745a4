use Rattle.std.proofs.Common.{◌≡◌, ◌+◌, sum_by, take}
use Rattle.sb_machine.specs.Queueing.{weight}
use Rattle.sb_engine.proofs.deliver.queueing.fits.Given as goal

abbrev pub invariant-loop-operation : goal.invariant-loop-operation
invariant-loop-operation l = l.left + sum_by weight (take l.operation-index l.operations) ≡ l.most
