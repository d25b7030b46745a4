use Rattle.sb_node.proofs.Together.{fail_together, failed_follows, none_runs, runs_on, sealed_follows}
use Rattle.sb_node.proofs.laws.runs_together.Goals as goal

pub returns-clause-none : goal.returns-clause-none
returns-clause-none c = none_runs

pub returns-clause-more : goal.returns-clause-more
returns-clause-more c = runs_on

pub returns-clause-fail : goal.returns-clause-fail
returns-clause-fail c = fail_together

pub returns-clause-sealed : goal.returns-clause-sealed
returns-clause-sealed c = sealed_follows

pub returns-clause-failed : goal.returns-clause-failed
returns-clause-failed c = failed_follows
