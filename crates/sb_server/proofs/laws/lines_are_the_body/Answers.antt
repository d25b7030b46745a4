use Rattle.sb_server.proofs.Bodies.{lines_join, lines_have_no_feed}
use Rattle.sb_server.proofs.laws.lines_are_the_body.Goals as goal

pub returns-clause-joined : goal.returns-clause-joined
returns-clause-joined c = lines_join

pub returns-clause-no_feed : goal.returns-clause-no_feed
returns-clause-no_feed c = lines_have_no_feed
