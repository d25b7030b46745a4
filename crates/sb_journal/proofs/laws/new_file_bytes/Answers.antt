use Rattle.std.proofs.Common.{refl}
use Rattle.sb_journal.specs.Text.{file_text, head}
use Rattle.sb_journal.proofs.laws.new_file_bytes.Goals as goal

pub returns-clause-first : goal.returns-clause-first
unfolding file_text head
returns-clause-first c = refl

pub returns-clause-next : goal.returns-clause-next
unfolding file_text head
returns-clause-next c = (refl, refl)
