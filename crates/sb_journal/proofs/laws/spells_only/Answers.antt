use Rattle.sb_journal.proofs.Wholes.{spells_only}
use Rattle.sb_journal.proofs.laws.spells_only.Goals as goal

pub returns : goal.returns
returns c = spells_only
