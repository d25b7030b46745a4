use Rattle.sb_journal.proofs.Judging.{still_refused}
use Rattle.sb_journal.proofs.reading.judge_one.Goals as goal

pub returns-in-Some : goal.returns-in-Some
returns-in-Some g c salt base before place_is is = still_refused g.J.Judge c.args.judge.now c.args.refused c.in-Some.first salt base before c.args.payload.now c.in-Some.is is
