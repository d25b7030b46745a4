use Rattle.std.proofs.Common.{◌≡◌}
use Rattle.std.specs.VecDeque.{deque_len}
use Rattle.sb_snapshot.specs.Base as base
use Rattle.sb_snapshot.proofs.Steps.{with_made}
use Rattle.sb_snapshot.proofs.gathering.entities_with.Given as goal

-- those made, before those that are still made, are all
abbrev pub invariant-next : goal.invariant-next
invariant-next l = with_made l.entities (base.entities_with l.heads.items l.leaves.items l.sessions.items) ≡ base.entities_with l.fn.heads l.fn.leaves l.fn.sessions

abbrev pub decreases-next : goal.decreases-next
decreases-next l = deque_len l.heads
