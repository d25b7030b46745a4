use Rattle.std.proofs.Common.{refl}
use Rattle.sb_amqp.specs.Fields.{field_name}
use Rattle.sb_amqp.specs.Written.{written}
use Rattle.sb_amqp.proofs.WorkedRows.{short_reads, double_unsupported, empty_bad}
use Rattle.sb_amqp.proofs.worked.worked_messages.Goals as goal

pub returns-clause-read : goal.returns-clause-read
returns-clause-read c = short_reads

pub returns-clause-unsupported : goal.returns-clause-unsupported
returns-clause-unsupported c = double_unsupported

pub returns-clause-empty : goal.returns-clause-empty
returns-clause-empty c = empty_bad

pub returns-clause-full : goal.returns-clause-full
unfolding written field_name
returns-clause-full c = refl
