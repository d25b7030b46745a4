use Rattle.sb_http.specs.Buffers.{left_of}
use Rattle.sb_http.proofs.ReadingOn.{as_before, here_now}
use Rattle.sb_http.proofs.buffer.Buffer.settle.Goals as goal

pub returns-in-Whole : goal.returns-in-Whole
returns-in-Whole c =
    let x = rw c.in-Whole.is at c.in_ok-step.ensures in
    let l = left_of c.parts.self in
    (as_before (left_of c.args.self.now) l (left_of c.step.new.self) c.parts.invariant x.0, x.1, here_now (left_of c.args.self.now) l _ _ c.parts.invariant x.2)
