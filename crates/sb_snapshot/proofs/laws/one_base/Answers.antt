use Rattle.sb_snapshot.proofs.Spelling.{reads_back, read_exactly, spelled_once, begins_none, written_again}
use Rattle.sb_snapshot.proofs.laws.one_base.Goals as goal

pub returns-clause-reads_back : goal.returns-clause-reads_back
returns-clause-reads_back c = reads_back

pub returns-clause-exact : goal.returns-clause-exact
returns-clause-exact c = read_exactly

pub returns-clause-once : goal.returns-clause-once
returns-clause-once c = spelled_once

pub returns-clause-apart : goal.returns-clause-apart
returns-clause-apart c = begins_none

pub returns-clause-again : goal.returns-clause-again
returns-clause-again c = written_again
