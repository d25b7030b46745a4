use Rattle.std.proofs.Common.{true, sym, subst}
use Rattle.sb_machine.specs.Ordered.{IsActInOrder}
use Rattle.sb_machine.specs.declared.call.Call.{Call}
use Rattle.sb_server.proofs.Posting.{again_posted, waits_in_order}
use Rattle.sb_server.proofs.answer.post_again.Goals as goal

pub returns-clause-begins : goal.returns-clause-begins
returns-clause-begins g c = λ old w.
    again_posted (g.C.Clock.reads c.args.clock.now) old c.args.pass c.args.patience c.now-asked_ms.result c.post.result.posted c.post.result.pending c.apart-call.result.1 c.apart-call.result.0 c.post.ensures.posted c.post.ensures.pending c.apart-call.ensures.caller c.now-asked_ms.ensures w

pub returns-clause-in_order : goal.returns-clause-in_order
returns-clause-in_order g c =
    let p = c.args.patience in
    waits_in_order c.post.result.posted c.post.result.pending c.args.pass c.now-asked_ms.result c.apart-call.result.0 c.apart-call.result.1 p.limit_ms p.closes p.first_ms c.now-asked_ms.result true c.post.ensures.posted c.post.ensures.pending
    (subst (λ (x : Call). IsActInOrder x.act) (sym c.apart-call.ensures.call) c.requires.order)
