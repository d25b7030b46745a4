use Rattle.std.specs.VecDeque.{deque_len}
use Rattle.sb_snapshot.proofs.Steps.{Front}
use Rattle.sb_snapshot.proofs.gathering.front_of.Given as goal

-- those taken, before those that are left, are all at the front
abbrev pub invariant-next : goal.invariant-next
invariant-next l = Front l.key l.fn.left.items l.front l.left.items

abbrev pub decreases-next : goal.decreases-next
decreases-next l = deque_len l.left
