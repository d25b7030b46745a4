use Rattle.std.proofs.Common.{subst, refl, rules}
use Rattle.sb_outside.specs.Doors.{GivesInOrder, CountsOut}
use Rattle.sb_outside.specs.declared.door.Given.{Given}
use Rattle.sb_server.specs.declared.doing.Doing.TheVariants.{Reads}
use Rattle.sb_server.specs.declared.limits.Since.TheVariants.{Never}
use Rattle.sb_server.proofs.Attending.{at_one, at_lost}
use Rattle.sb_server.proofs.work.want.Goals as goal

pub returns-in_default-new-clause-goes : goal.returns-in_default-new-clause-goes
returns-in_default-new-clause-goes g c = λ most p q d w.
    let gives = subst (λ (o : Given g.row.D-Conn.Denot). GivesInOrder (g.D.Door.left c.args.door.now) (g.D.Door.left c.accept.new.self) o) c.in-One.is c.in-Ok.ensures.in_order in
    let counts = subst (λ (o : Given g.row.D-Conn.Denot). CountsOut (g.D.Door.out c.args.door.now) (g.D.Door.out c.accept.new.self) o) c.in-One.is c.in-Ok.ensures.out in
    at_lost g.D.Door g.D.Conn.Conn (g.C.Clock.reads c.args.clock.now) c.args.access.now c.args.limits most p d q c.args.door.now c.accept.new.self c.done.new.self c.args.left c.in-One.conn w (search rules) gives c.accept.ensures.taken c.in-Ok.ensures.cause.passed counts c.done.ensures.left c.done.ensures.taken c.done.ensures.count c.done.ensures.out

pub returns-in-Ok-new-clause-goes : goal.returns-in-Ok-new-clause-goes
returns-in-Ok-new-clause-goes g c = λ most p q d w.
    let gives = subst (λ (o : Given g.row.D-Conn.Denot). GivesInOrder (g.D.Door.left c.args.door.now) (g.D.Door.left c.accept.new.self) o) c.in-One.is c.in-Ok.ensures.in_order in
    let counts = subst (λ (o : Given g.row.D-Conn.Denot). CountsOut (g.D.Door.out c.args.door.now) (g.D.Door.out c.accept.new.self) o) c.in-One.is c.in-Ok.ensures.out in
    at_one g.D.Door g.D.Conn.Conn (g.C.Clock.reads c.args.clock.now) c.args.access.now c.args.limits most p d q c.args.door.now c.accept.new.self c.args.left (record { conn = c.in-One.conn; inbox = c.in-Ok-new.inbox; doing = Reads; since = Never }) w (search rules) gives c.accept.ensures.taken c.in-Ok.ensures.cause.passed counts c.in-Ok-new.ensures.requests c.in-Ok-new.ensures.stand refl refl
