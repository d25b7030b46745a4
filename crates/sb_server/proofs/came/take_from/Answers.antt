use Rattle.sb_http.specs.Said.{said_by}
use Rattle.sb_server.proofs.Reading.{took_one, took_none}
use Rattle.sb_server.proofs.came.take_from.Goals as goal

pub returns-in-Ok-Some-clause-took : goal.returns-in-Ok-Some-clause-took
returns-in-Ok-Some-clause-took g c = (
  said_by c.in-Ok-Some.request,
  c.ask_of-ask.ensures,
  c.closes-closes.ensures,
  took_one c.args.incoming.now c.next_request.follows.lender-at-none c.next_request.result c.in-Ok-Some.field-0 c.in-Ok-Some.request c.in-Ok-Some.is c.in-Ok-Some.field-0-is c.next_request.follows.holds-at-none,
)

pub returns-in-Ok-None-clause-took : goal.returns-in-Ok-None-clause-took
returns-in-Ok-None-clause-took g c = took_none c.args.incoming.now c.next_request.follows.lender-at-none c.next_request.result c.in-Ok-None.field-0 c.in-Ok-None.is c.in-Ok-None.field-0-is c.next_request.follows.holds-at-none
