use Rattle.sb_copies.proofs.Told.{least_there}
use Rattle.sb_copies.proofs.heads.least.Goals as goal

pub returns-then-due-lt-NEVER : goal.returns-then-due-lt-NEVER
returns-then-due-lt-NEVER c = least_there c.in-Some.due c.args.by_session.now.rows c.in-Some.ensures c.if-due-lt-NEVER.true
