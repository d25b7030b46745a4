use Rattle.std.proofs.Common.{subst, sym, refl, Option}
use Rattle.std.specs.Prelude.{IfSome}
use Rattle.sb_server.specs.declared.ending.Ending.{Ending}
use Rattle.sb_server.specs.declared.seat.Seat.{Seat}
use Rattle.sb_server.specs.declared.stage.Stage.{Stage}
use Rattle.sb_server.specs.declared.stage.Stage.TheVariants.{Wants}
use Rattle.sb_server.specs.Doings.{GoesToAt, IsFree, sitting_of}
use Rattle.sb_server.specs.Reads.{stand_of}
use Rattle.sb_server.specs.Stages.{IsAt, IsSound, here_of, stage_behind}
use Rattle.sb_server.specs.Talks.{Here, Ends}
use Rattle.sb_server.specs.Works.{stop_of}
use Rattle.sb_server.proofs.Attending.{at_step, at_over, sound_behind}
use Rattle.sb_server.proofs.Reading.{read_to}
use Rattle.sb_server.proofs.work.go_on.Goals as goal

pub returns-in-Wants-clause-goes : goal.returns-in-Wants-clause-goes
returns-in-Wants-clause-goes g c = λ most p d w.
    let free : IsFree c.args.seat = subst (λ (x : Stage g.row.D-Conn.Denot). IsSound c.args.seat x (g.D.Door.out c.args.door.now)) c.in-Wants.is c.requires.sound in
    let at = subst (λ (x : Seat). IsAt g.D.Door g.D.Conn.Conn (g.C.Clock.reads c.args.clock.now) c.args.access.now c.args.limits most p d x c.args.door.now (Wants c.in-Wants.left)) free.1 (subst (λ (x : Stage g.row.D-Conn.Denot). IsAt g.D.Door g.D.Conn.Conn (g.C.Clock.reads c.args.clock.now) c.args.access.now c.args.limits most p d c.args.seat c.args.door.now x) c.in-Wants.is w) in
    subst (λ (x : Stage g.row.D-Conn.Denot). IsAt g.D.Door g.D.Conn.Conn (g.C.Clock.reads c.args.clock.now) c.args.access.now c.args.limits most p d c.args.seat c.want-next.new.door x) (sym c.stand_at.ensures)
    (subst (λ (x : Seat). IsAt g.D.Door g.D.Conn.Conn (g.C.Clock.reads c.args.clock.now) c.args.access.now c.args.limits most p d x c.want-next.new.door c.want-next.result) (sym free.1)
    (c.want-next.ensures.goes most p free.0 d at))

pub returns-in-Wants-clause-sound : goal.returns-in-Wants-clause-sound
returns-in-Wants-clause-sound g c =
    let free : IsFree c.args.seat = subst (λ (x : Stage g.row.D-Conn.Denot). IsSound c.args.seat x (g.D.Door.out c.args.door.now)) c.in-Wants.is c.requires.sound in
    subst (λ (x : Stage g.row.D-Conn.Denot). IsSound c.args.seat x (g.D.Door.out c.want-next.new.door)) (sym c.stand_at.ensures)
    (subst (λ (x : Seat). IsSound x c.want-next.result (g.D.Door.out c.want-next.new.door)) (sym free.1) (c.want-next.ensures.sound free.0))

pub give_back-requires-clause-serves : goal.give_back-requires-clause-serves
give_back-requires-clause-serves g c = (c.attend-seat.new.guest, refl)

pub returns-in_default-clause-goes : goal.returns-in_default-clause-goes
returns-in_default-clause-goes g c = λ most p d w.
    let new = c.attend-seat.new.guest in
    let n : Here = here_of g.D.Conn.Conn (sitting_of c.attend-seat.result.0) new in
    at_step g.D.Door g.D.Conn.Conn (g.C.Clock.reads c.args.clock.now) c.args.access.now c.args.limits most p d c.args.seat c.attend-seat.result.0 c.args.door.now c.in-Serves.left c.in-Serves.guest new
    (subst (λ (x : Stage g.row.D-Conn.Denot). IsAt g.D.Door g.D.Conn.Conn (g.C.Clock.reads c.args.clock.now) c.args.access.now c.args.limits most p d c.args.seat c.args.door.now x) c.in-Serves.is w)
    (λ s same limits since i. subst (λ (o : Option Ending). GoesToAt (g.C.Clock.reads c.args.clock.now) s n c.attend-seat.result.0 o new.doing) c.in_default.is (c.attend-seat.ensures.goes s same limits since i)) c.attend-seat.ensures.since

pub returns-in-Some-clause-goes : goal.returns-in-Some-clause-goes
returns-in-Some-clause-goes g c = λ most p d w.
    let new = c.attend-seat.new.guest in
    let stand = stand_of new.inbox (g.D.Conn.Conn.left new.conn) in
    let n : Here = here_of g.D.Conn.Conn (sitting_of c.attend-seat.result.0) new in
    let free : IsFree c.attend-seat.result.0 = subst (λ (o : Option Ending). IfSome o (λ _. IsFree c.attend-seat.result.0)) c.in-Some.is c.attend-seat.ensures.free in
    subst (λ (x : Stage g.row.D-Conn.Denot). IsAt g.D.Door g.D.Conn.Conn (g.C.Clock.reads c.args.clock.now) c.args.access.now c.args.limits most p d c.attend-seat.result.0 c.give_back.new.door x) (sym c.give_back.ensures.stage)
    (subst (λ (x : Seat). IsAt g.D.Door g.D.Conn.Conn (g.C.Clock.reads c.args.clock.now) c.args.access.now c.args.limits most p d x c.give_back.new.door (stage_behind (stop_of c.in-Some.ending) c.in-Serves.left)) (sym free.1)
    (at_over g.D.Door g.D.Conn.Conn (g.C.Clock.reads c.args.clock.now) c.args.access.now c.args.limits most p d c.args.seat free.0 c.args.door.now c.give_back.new.door c.in-Serves.left c.in-Serves.guest stand new.conn c.in-Some.ending
    (subst (λ (x : Stage g.row.D-Conn.Denot). IsAt g.D.Door g.D.Conn.Conn (g.C.Clock.reads c.args.clock.now) c.args.access.now c.args.limits most p d c.args.seat c.args.door.now x) c.in-Serves.is w)
    (λ s same limits since i. subst (λ (x : Seat). Ends (g.C.Clock.reads c.args.clock.now) s (record n { pass = sitting_of x }) c.in-Some.ending) free.1 (subst (λ (o : Option Ending). GoesToAt (g.C.Clock.reads c.args.clock.now) s n c.attend-seat.result.0 o new.doing) c.in-Some.is (c.attend-seat.ensures.goes s same limits since i)))
    (read_to new.inbox (g.D.Conn.Conn.left new.conn)) c.give_back.ensures.left (c.give_back.ensures.taken new refl) c.give_back.ensures.count c.give_back.ensures.out))

pub returns-in-Some-clause-sound : goal.returns-in-Some-clause-sound
returns-in-Some-clause-sound g c =
    let free : IsFree c.attend-seat.result.0 = subst (λ (o : Option Ending). IfSome o (λ _. IsFree c.attend-seat.result.0)) c.in-Some.is c.attend-seat.ensures.free in
    subst (λ (x : Stage g.row.D-Conn.Denot). IsSound c.attend-seat.result.0 x (g.D.Door.out c.give_back.new.door)) (sym c.give_back.ensures.stage)
    (sound_behind _ c.attend-seat.result.0 (stop_of c.in-Some.ending) c.in-Serves.left (g.D.Door.out c.give_back.new.door) free)
