use Rattle.sb_journal.proofs.Foreign.{other_refused, new_kept}
use Rattle.sb_journal.proofs.laws.keeps_what_may_be_a_file.Goals as goal

pub returns-clause-refused : goal.returns-clause-refused
returns-clause-refused c = other_refused

pub returns-clause-found : goal.returns-clause-found
returns-clause-found c = new_kept
