use Rattle.std.proofs.Common.{◌≡◌, length}
use Rattle.sb_server.specs.Asks.{lists_close}
use Rattle.sb_server.proofs.head.lists_close.Given as goal

-- none so far
abbrev pub invariant-loop-word : goal.invariant-loop-word
invariant-loop-word l = lists_close l.rest ≡ lists_close l.list

abbrev pub decreases-loop-word : goal.decreases-loop-word
decreases-loop-word l = length l.rest
