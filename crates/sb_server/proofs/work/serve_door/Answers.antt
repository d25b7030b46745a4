use Rattle.std.proofs.Common.{◌∙◌, refl, subst, sym}
use Rattle.sb_desk.specs.Desks.{IsOf}
use Rattle.sb_server.specs.declared.seat.Seat.{Seat}
use Rattle.sb_server.specs.declared.seat.Seat.TheVariants.{Free}
use Rattle.sb_server.specs.declared.stage.Stage.{Stage}
use Rattle.sb_server.specs.Doings.{sitting_of}
use Rattle.sb_server.specs.Stages.{IsAt}
use Rattle.sb_server.proofs.Attending.{at_first, free_over, over_at}
use Rattle.sb_server.proofs.work.serve_door.Goals as goal

pub loop-init : goal.loop-init
loop-init g c = record { desk = c.requires; sound = (c.args.pass, refl); at = at_first g.D.Door g.D.Conn.Conn (g.C.Clock.reads c.args.clock.now) c.args.access.now c.args.limits c.args.most c.args.pass c.args.door.now }

pub pass_of-requires : goal.pass_of-requires
pass_of-requires g c = free_over c.go_on-next.result.0 c.go_on-next.new.stage (g.D.Door.out c.go_on-next.new.door) (sym c.is_over.ensures ∙ c.if-is_over.true) c.go_on-next.ensures.sound

pub returns-then-is_over-clause-works : goal.returns-then-is_over-clause-works
returns-then-is_over-clause-works g c =
    let at = subst (λ (x : Seat). IsAt g.D.Door g.D.Conn.Conn (g.C.Clock.reads c.args.clock.now) c.args.access.now c.args.limits c.args.most c.args.pass c.args.door.now x c.go_on-next.new.door c.go_on-next.new.stage) c.pass_of.ensures (c.go_on-next.ensures.goes c.args.most c.args.pass c.args.door.now c.loop.invariant.at) in
    let o = subst (λ (x : Stage g.row.D-Conn.Denot). IsAt g.D.Door g.D.Conn.Conn (g.C.Clock.reads c.args.clock.now) c.args.access.now c.args.limits c.args.most c.args.pass c.args.door.now (Free c.pass_of.result) c.go_on-next.new.door x)
    (over_at c.go_on-next.new.stage c.stop_at-stop.result _ (sym c.is_over.ensures ∙ c.if-is_over.true) c.stop_at-stop.ensures) at in
    (o.connections, o.served, o.stops)

pub returns-then-is_over-clause-out : goal.returns-then-is_over-clause-out
returns-then-is_over-clause-out g c =
    let at = subst (λ (x : Seat). IsAt g.D.Door g.D.Conn.Conn (g.C.Clock.reads c.args.clock.now) c.args.access.now c.args.limits c.args.most c.args.pass c.args.door.now x c.go_on-next.new.door c.go_on-next.new.stage) c.pass_of.ensures (c.go_on-next.ensures.goes c.args.most c.args.pass c.args.door.now c.loop.invariant.at) in
    let o = subst (λ (x : Stage g.row.D-Conn.Denot). IsAt g.D.Door g.D.Conn.Conn (g.C.Clock.reads c.args.clock.now) c.args.access.now c.args.limits c.args.most c.args.pass c.args.door.now (Free c.pass_of.result) c.go_on-next.new.door x)
    (over_at c.go_on-next.new.stage c.stop_at-stop.result _ (sym c.is_over.ensures ∙ c.if-is_over.true) c.stop_at-stop.ensures) at in
    o.out_is

pub returns-then-is_over-clause-desk : goal.returns-then-is_over-clause-desk
returns-then-is_over-clause-desk g c = subst (λ (x : Seat). IsOf c.args.desk.now (sitting_of x)) c.pass_of.ensures c.go_on-next.ensures.desk

pub loop-preserved : goal.loop-preserved
loop-preserved g c = record { desk = c.go_on-next.ensures.desk; sound = c.go_on-next.ensures.sound; at = c.go_on-next.ensures.goes c.args.most c.args.pass c.args.door.now c.loop.invariant.at }
