use Rattle.sb_journal.proofs.Foreign.{greater_found, same_refused}
use Rattle.sb_journal.proofs.laws.reads_the_later_file.Goals as goal

pub returns-clause-greater : goal.returns-clause-greater
returns-clause-greater c = greater_found

pub returns-clause-same : goal.returns-clause-same
returns-clause-same c = same_refused
