use Rattle.std.proofs.Common.{inl, refl}
use Rattle.sb_journal.proofs.Judging.{base_refused}
use Rattle.sb_journal.proofs.base.judge_base.Goals as goal

pub returns-then-not-given : goal.returns-then-not-given
returns-then-not-given g c salt base is = inl (refl, base_refused g.J.Judge c.args.judge.now c.args.given salt base c.if-not-given.true is)
