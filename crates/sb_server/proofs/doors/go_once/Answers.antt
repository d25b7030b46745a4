use Rattle.std.proofs.Common.{◌∙◌, sym}
use Rattle.sb_server.specs.declared.job.Job.{Job}
use Rattle.sb_server.proofs.Rounds.{come_on, seat_at, stop_twice}
use Rattle.sb_server.proofs.doors.go_once.Goals as goal

pub go_on-seat-requires-clause-desk : goal.go_on-seat-requires-clause-desk
go_on-seat-requires-clause-desk g c = (seat_at g.D.Door.out c.args.desk.now c.args.job.now c.in-Some.seat c.requires (sym c.take.ensures.value ∙ c.in-Some.is)).0

pub go_on-seat-requires-clause-sound : goal.go_on-seat-requires-clause-sound
go_on-seat-requires-clause-sound g c = (seat_at g.D.Door.out c.args.desk.now c.args.job.now c.in-Some.seat c.requires (sym c.take.ensures.value ∙ c.in-Some.is)).1

pub returns-clause-work : goal.returns-clause-work
returns-clause-work g c = record { seat = c.go_on-seat.result.0; has = c.sit.ensures; of = c.go_on-seat.ensures.desk; sound = c.go_on-seat.ensures.sound }

pub returns-clause-come : goal.returns-clause-come
returns-clause-come g c = λ most began come.
    let new : Job g.row.D.Denot g.row.D-Conn.Denot = record { seat = c.sit.new.place; door = c.go_on-seat.new.door; stage = c.go_on-seat.new.stage; stop = c.stop_at-job.result; again = c.args.job.now.again } in
    come_on g.D.Door g.D.Conn.Conn (g.C.Clock.reads c.args.clock.now) c.args.access.now c.args.limits most began c.args.job.now new c.in-Some.seat c.go_on-seat.result.0 come (sym c.take.ensures.value ∙ c.in-Some.is) c.sit.ensures
    (λ p d at. c.go_on-seat.ensures.goes most p d at) (stop_twice c.go_on-seat.new.stage c.stop_at-job.result c.args.job.now.stop c.stop_at-job.ensures)
