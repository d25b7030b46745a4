use Rattle.sb_http.specs.Said.{said_by}
use Rattle.sb_rest.proofs.InOrder.{answered_in_order}
use Rattle.sb_rest.proofs.call.call_of.Goals as goal

pub returns-clause-in_order : goal.returns-clause-in_order
returns-clause-in_order c = answered_in_order c.args.access.now (said_by c.args.request.now) c.wanted_of.result c.wanted_of.ensures
