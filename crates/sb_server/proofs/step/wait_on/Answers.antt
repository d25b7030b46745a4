use Rattle.std.proofs.Common.{sym, subst, refl, [], arith, ◌∙◌}
use Rattle.sb_server.specs.declared.doing.Doing.{Doing}
use Rattle.sb_server.specs.declared.doing.Doing.TheVariants.{Tells}
use Rattle.sb_server.specs.declared.doing.Went.TheVariants.{On}
use Rattle.sb_server.specs.declared.telling.Telling.{Telling}
use Rattle.sb_server.specs.Doings.{IsDoing, IsNext}
use Rattle.sb_server.specs.Talks.{Here, here_with}
use Rattle.sb_server.proofs.Stepping.{asking_next, due_gone, only_waits}
use Rattle.sb_server.proofs.Turning.{Reaches}
use Rattle.sb_server.proofs.step.wait_on.Goals as goal

pub unreachable-requires : goal.unreachable-requires
unreachable-requires g c = only_waits c.args.doing.now c.requires.asks (λ p is. c.in_default.not-Asks p (c.replace-old.ensures.value ∙ is))

pub returns-then-watch-clause-steps : goal.returns-then-watch-clause-steps
returns-then-watch-clause-steps g c = λ s same a.
    let h : Here = here_with g.N.Conn c.args.pass c.args.inbox.now c.args.conn.now in
    let n : Here = here_with g.N.Conn c.args.pass c.watch.new.self c.watch.new.conn in
    let reaches : Reaches h n [] = record { takes = c.watch.ensures.takes; reads = c.watch.ensures.later } in
    subst (λ (d : Doing). IsNext (g.C.Clock.reads c.args.clock.now) s n On d) (sym c.turn.ensures)
    (subst (λ (t : Telling). IsNext (g.C.Clock.reads c.args.clock.now) s n On (Tells t)) (sym c.farewell.ensures)
    (due_gone (g.C.Clock.reads c.args.clock.now) s h n c.in-Asks.patience (subst (λ (d : Doing). IsDoing (g.C.Clock.reads c.args.clock.now) s h d) (sym c.replace-old.ensures.value ∙ c.in-Asks.is) a) reaches (c.watch.ensures.gone c.if-watch.true) refl c.watch.ensures.given (omega (arith, c.watch.ensures.writes))))

pub returns-clause-steps : goal.returns-clause-steps
returns-clause-steps g c = λ s same a.
    let sent = c.post_again-sent.result in
    let h : Here = here_with g.N.Conn c.args.pass c.args.inbox.now c.args.conn.now in
    let n : Here = here_with g.N.Conn sent.posted.pass c.watch.new.self c.watch.new.conn in
    let reaches : Reaches h n [] = record { takes = c.watch.ensures.takes; reads = c.watch.ensures.later } in
    asking_next (g.C.Clock.reads c.args.clock.now) s h n c.in-Asks.patience sent.posted sent.pending (subst (λ (d : Doing). IsDoing (g.C.Clock.reads c.args.clock.now) s h d) (sym c.replace-old.ensures.value ∙ c.in-Asks.is) a) reaches c.post_again-sent.ensures.begins c.watch.ensures.given (omega (arith, c.watch.ensures.writes))
