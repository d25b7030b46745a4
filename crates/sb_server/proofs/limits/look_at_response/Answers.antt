use Rattle.std.proofs.Common.{sym, ◌∙◌, subst}
use Rattle.sb_server.proofs.Looking.{taking_read, untaken}
use Rattle.sb_server.proofs.limits.look_at_response.Goals as goal

pub returns-then-is_over-clause-next : goal.returns-then-is_over-clause-next
returns-then-is_over-clause-next g c = λ s h same since doing.
    let from = subst (g.C.Clock.reads c.args.clock.now) (sym c.taking_from-from.ensures) (taking_read (g.C.Clock.reads c.args.clock.now) c.args.since c.now-now.result since c.now-now.ensures) in
    untaken (g.C.Clock.reads c.args.clock.now) s h c.args.limits c.args.doing.now c.in-Some.taken c.with_bytes-limit.result c.taking_from-from.result c.now-now.result same (sym c.taken_of.ensures ∙ c.in-Some.is) doing c.with_bytes-limit.ensures.more from c.now-now.ensures c.if-is_over.ensures
