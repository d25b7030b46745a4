use Rattle.sb_sqltext.proofs.Exactly.{reads_filters, reads_actions}
use Rattle.sb_sqltext.proofs.laws.texts_are_read_exactly.Goals as goal

pub returns : goal.returns
returns c = record { filters = reads_filters 64; actions = reads_actions 64 31 }
