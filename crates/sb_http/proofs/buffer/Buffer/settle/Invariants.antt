use Rattle.std.proofs.Common.{length}
use Rattle.sb_http.specs.Stages.{Continues}
use Rattle.sb_http.specs.Buffers.{left_of}
use Rattle.sb_http.proofs.buffer.Buffer.settle.Given as goal

-- the same requests are left as before
abbrev pub invariant-parts : goal.invariant-parts
invariant-parts l = Continues (left_of l.fn.self) (left_of l.self)

abbrev pub decreases-parts : goal.decreases-parts
decreases-parts l = length (left_of l.self).bytes
