use Rattle.std.proofs.Common.{◌≡◌, ◌≤◌}
use Rattle.std.specs.VecDeque.{deque_len, deque_capacity}
use Rattle.sb_repeats.proofs.Forgetting.{Forgetting}
use Rattle.sb_repeats.proofs.noting.forget.Given as goal

abbrev pub invariant-past : goal.invariant-past
invariant-past l =
    Forgetting l.seconds l.moment l.ids.items l.known.rows l.fn.ids.items × (deque_len l.ids ≤ deque_len l.fn.ids) × (deque_capacity l.ids ≡ deque_capacity l.fn.ids) × (l.known.spare ≡ l.fn.known.spare)

abbrev pub decreases-past : goal.decreases-past
decreases-past l = deque_len l.ids
