use Rattle.sb_amqp.proofs.Finished.{written_reads}
use Rattle.sb_amqp.proofs.laws.written_is_read.Goals as goal

pub returns : goal.returns
returns c = written_reads
