use Rattle.std.proofs.Common.{◌∙◌, ℕ, List, Err, ap, subst}
use Rattle.sb_client.specs.Replies.{TakesLine, HasNoLine}
use Rattle.sb_client.proofs.Serving.{cut_exchange, cut_writing, cut_reply}
use Rattle.sb_client.proofs.asking.send_line.Goals as goal

pub returns-in-Err-clause-cut : goal.returns-in-Err-clause-cut
returns-in-Err-clause-cut g c kind = cut_exchange c.args.key.now c.args.line.now c.in-Err.end (g.N.Link.told c.args.link.now) (g.N.Link.told c.exchange.new.link) (g.K.Sink.given c.args.sink.now) kind c.in-Err.ensures.known c.in-Err.ensures.err

pub returns-in-Ok-take_reply-clause-cut : goal.returns-in-Ok-take_reply-clause-cut
returns-in-Ok-take_reply-clause-cut g c kind =
    let taken = c.in-Ok-take_reply.ensures.takes in
    let reply = c.exchange.new.reply.items in
    cut_writing c.args.key.now c.args.line.now c.deref.result.now reply c.in-Ok-take_reply.text.now taken.0 c.in-Ok-take_reply.refused (g.N.Link.told c.args.link.now) (g.N.Link.told c.exchange.new.link) (g.K.Sink.given c.args.sink.now) (g.K.Sink.given c.write_all.new.sink) kind
    (c.deref.ensures.value ∙ c.in-Ok.ensures) c.in_default-exchange.ensures.ok (subst (λ (b : List ℕ). TakesLine b c.in-Ok-take_reply.text.now taken.0) c.deref-2.ensures.value taken.1) taken.2 c.in-Err-write_all.ensures.err

pub returns-clause-cut : goal.returns-clause-cut
returns-clause-cut g c kind =
    cut_reply c.args.key.now c.args.line.now c.deref.result.now c.exchange.new.reply.items c.in-Err-take_reply.end (g.N.Link.told c.args.link.now) (g.N.Link.told c.exchange.new.link) (g.K.Sink.given c.args.sink.now) kind
    (c.deref.ensures.value ∙ c.in-Ok.ensures) c.in_default-exchange.ensures.ok c.in-Err-take_reply.ensures.known (λ is. subst HasNoLine c.deref-2.ensures.value (c.in-Err-take_reply.ensures.bad (ap Err is)))
