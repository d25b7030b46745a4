use Rattle.sb_laws.proofs.Dueness.{is_due_exactly}
use Rattle.sb_laws.proofs.laws.is_due_exactly.Goals as goal

pub returns : goal.returns
returns c t s = is_due_exactly t s
