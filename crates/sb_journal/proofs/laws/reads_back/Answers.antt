use Rattle.sb_journal.proofs.Heads.{reads_closed, reads_cut}
use Rattle.sb_journal.proofs.laws.reads_back.Goals as goal

pub returns-clause-closed : goal.returns-clause-closed
returns-clause-closed c = reads_closed

pub returns-clause-cut : goal.returns-clause-cut
returns-clause-cut c = reads_cut
