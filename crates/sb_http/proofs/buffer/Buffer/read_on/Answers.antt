use Rattle.std.proofs.Common.{refl}
use Rattle.sb_http.specs.Buffers.{left_of, message_at}
use Rattle.sb_http.proofs.ReadingOn.{there_now}
use Rattle.sb_http.proofs.Compact.{small}
use Rattle.sb_http.proofs.buffer.Buffer.read_on.Goals as goal

pub returns-in-Ok-Some : goal.returns-in-Ok-Some
returns-in-Ok-Some c =
    let x = rw c.in-Ok-Some.field-0-is at c.in-Ok-Some.ensures in
    (x.0, (message_at c.settle.new.self c.in-Ok-Some.field-0-0, _, there_now (left_of c.args.self.now) (left_of c.settle.new.self) _ _ x.0 x.2))

pub returns-in-Ok-None : goal.returns-in-Ok-None
returns-in-Ok-None c =
    let x = rw c.in-Ok-None.field-0-is at c.in-Ok-None.ensures in
    (x.0, small c.settle.new.self _ refl x.1)
