use Rattle.std.proofs.Common.{◌≡◌, ◌&&◌, length}
use Rattle.std.specs.Prelude.{bytes_eq}
use Rattle.sb_rest.proofs.access.is_key.Given as goal

-- so far, and what is left, give all
abbrev pub invariant-loop-byte : goal.invariant-loop-byte
invariant-loop-byte l = (l.same && bytes_eq l.rest l.left) ≡ bytes_eq l.key l.shown

abbrev pub decreases-loop-byte : goal.decreases-loop-byte
decreases-loop-byte l = length l.rest
