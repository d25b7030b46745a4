use Rattle.sb_server.proofs.Posting.{once_posted, once_in_order}
use Rattle.sb_server.proofs.answer.post_once.Goals as goal

pub returns-clause-begins : goal.returns-clause-begins
returns-clause-begins g c =
    once_posted (g.C.Clock.reads c.args.clock.now) c.args.pass c.args.waiter c.args.closes c.now.result c.post.result.posted c.post.result.pending c.apart-call.result.1 c.apart-call.result.0 c.post.ensures.posted c.post.ensures.pending c.apart-call.ensures.call c.apart-call.ensures.caller c.now.ensures

pub returns-clause-in_order : goal.returns-clause-in_order
returns-clause-in_order g c = once_in_order c.post.result.pending c.apart-call.result.1 c.args.closes c.post.result.posted.call c.post.ensures.pending
