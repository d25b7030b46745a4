use Rattle.sb_http.specs.Buffers.{left_of}
use Rattle.sb_http.proofs.Compact.{none_before}
use Rattle.sb_http.proofs.buffer.Buffer.take_next.Goals as goal

pub returns-in_default : goal.returns-in_default
returns-in_default c =
    let x = rw c.in_default.is at c.in_ok-shape.ensures in
    (x.0, x.1, none_before (left_of c.args.self.now) (left_of c.settle.new.self) x.0 x.1)
