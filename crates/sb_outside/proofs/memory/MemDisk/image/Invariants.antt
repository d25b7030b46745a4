use Rattle.sb_outside.specs.Held.{at_rest}
use Rattle.sb_outside.specs.Kept.{held_after}
use Rattle.sb_outside.proofs.Fillings.{IsPast}
use Rattle.sb_outside.proofs.memory.MemDisk.image.Given as goal

abbrev pub invariant-loop-call : goal.invariant-loop-call
invariant-loop-call l = IsPast l.fill l.call-items l.call-index l.at l.self.written.items l.seen.items l.image.items (held_after (at_rest l.self.first.items) l.self.calls.items l.self.written.items)
