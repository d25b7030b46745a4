use Rattle.std.proofs.Common.{false, sym, subst}
use Rattle.sb_machine.specs.Ordered.{IsActInOrder}
use Rattle.sb_machine.specs.declared.call.Call.{Call}
use Rattle.sb_server.proofs.Posting.{first_posted, waits_in_order}
use Rattle.sb_server.proofs.answer.post_first.Goals as goal

pub returns-clause-begins : goal.returns-clause-begins
returns-clause-begins g c =
    first_posted (g.C.Clock.reads c.args.clock.now) c.args.pass c.args.waiter c.args.limit_ms c.args.closes c.now-first_ms.result c.post.result.posted c.post.result.pending c.apart-call.result.1 c.apart-call.result.0 c.post.ensures.posted c.post.ensures.pending c.apart-call.ensures.caller c.now-first_ms.ensures

pub returns-clause-in_order : goal.returns-clause-in_order
returns-clause-in_order g c =
    waits_in_order c.post.result.posted c.post.result.pending c.args.pass c.now-first_ms.result c.apart-call.result.0 c.apart-call.result.1 c.args.limit_ms c.args.closes c.now-first_ms.result c.now-first_ms.result false c.post.ensures.posted c.post.ensures.pending
    (subst (λ (x : Call). IsActInOrder x.act) (sym c.apart-call.ensures.call) c.requires.order)
