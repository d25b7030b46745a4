use Rattle.sb_journal.proofs.Making.{head_spelled}
use Rattle.sb_journal.proofs.creating.head_bytes.Goals as goal

pub returns : goal.returns
returns c = head_spelled _ _ _ _ _ _ _ _ c.to_be_bytes-s.ensures c.to_be_bytes-g.ensures c.to_be_bytes-f.ensures c.to_be_bytes-b.ensures
