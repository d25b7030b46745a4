use Rattle.std.proofs.Common.{sym, ◌∙◌, []}
use Rattle.sb_server.specs.Reads.{stand_of}
use Rattle.sb_server.proofs.Reading.{takes_start, takes_filled, gone_of}
use Rattle.sb_server.proofs.inbox.Inbox.watch.Goals as goal

pub returns-clause-takes : goal.returns-clause-takes
returns-clause-takes g c =
    let old = stand_of c.args.self.now (g.N.Conn.left c.args.conn.now) in
    takes_filled old old (stand_of c.fill-filled.new.self (g.N.Conn.left c.fill-filled.new.conn)) [] (takes_start old) c.fill-filled.ensures.fills

pub returns-clause-gone : goal.returns-clause-gone
returns-clause-gone g c = λ e. gone_of c.fill-filled.result _ _ _ _ c.fill-filled.ensures.ends c.fill-filled.ensures.none (sym c.has_ended.ensures ∙ e)
