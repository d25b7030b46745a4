use Rattle.sb_server.specs.Asks.{asks_close}
use Rattle.sb_server.proofs.Unwelcome.{given_up_none, responds_none}
use Rattle.sb_server.proofs.laws.unwelcome_makes_no_entry.Goals as goal

pub returns-clause-answered : goal.returns-clause-answered
returns-clause-answered g c access seat m mine first turn unwelcome r = responds_none (g.C.Clock.reads c.args.clock.now) access seat m r.ask (asks_close m) mine first turn unwelcome r.asks r.responds

pub returns-clause-given_up : goal.returns-clause-given_up
returns-clause-given_up g c access seat m mine said unwelcome up = given_up_none (g.C.Clock.reads c.args.clock.now) access seat m mine said unwelcome up
