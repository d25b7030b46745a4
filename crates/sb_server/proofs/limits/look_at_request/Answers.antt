use Rattle.std.proofs.Common.{◌<◌, sym, subst, arith}
use Rattle.sb_server.proofs.Looking.{idle_read, asking_read, unasked_idle, unasked_begun, looked_next}
use Rattle.sb_server.proofs.limits.look_at_request.Goals as goal

pub returns-then-held-eq0-clause-next : goal.returns-then-held-eq0-clause-next
returns-then-held-eq0-clause-next g c = λ s h d same lefts since reads none.
    let from = subst (g.C.Clock.reads c.args.clock.now) (sym c.idle_from-from.ensures) (idle_read (g.C.Clock.reads c.args.clock.now) c.args.since c.now-now.result since c.now-now.ensures) in
    looked_next (g.C.Clock.reads c.args.clock.now) s h c.args.limits.idle_ms c.idle_from-from.result c.now-now.result c.looked.result d c.looked.ensures from c.now-now.ensures reads none
    (unasked_idle (g.C.Clock.reads c.args.clock.now) s h c.args.limits c.args.inbox.now.incoming.left same lefts (c.left-held.ensures.none c.if-held-eq0.true))

pub returns-clause-next : goal.returns-clause-next
returns-clause-next g c = λ s h d same lefts since reads none.
    let from = subst (g.C.Clock.reads c.args.clock.now) (sym c.asking_from-from.ensures) (asking_read (g.C.Clock.reads c.args.clock.now) c.args.since c.now-now.result since c.now-now.ensures) in
    let some : 0 < c.left-held.result = omega (arith, c.if-held-eq0.false) in
    looked_next (g.C.Clock.reads c.args.clock.now) s h c.with_bytes-limit.result c.asking_from-from.result c.now-now.result c.looked-2.result d c.looked-2.ensures from c.now-now.ensures reads none
    (unasked_begun (g.C.Clock.reads c.args.clock.now) s h c.args.limits c.args.inbox.now.incoming.left c.left-held.result c.with_bytes-limit.result same lefts c.left-held.ensures.count some c.with_bytes-limit.ensures.value)
