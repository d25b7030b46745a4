use Rattle.sb_journal.proofs.Turned.{turned_found, turned_kept}
use Rattle.sb_journal.proofs.laws.recovers_from_torn_bases.Goals as goal

pub returns-clause-found : goal.returns-clause-found
returns-clause-found c = turned_found

pub returns-clause-kept : goal.returns-clause-kept
returns-clause-kept c = turned_kept
