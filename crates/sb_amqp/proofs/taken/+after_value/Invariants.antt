use Rattle.sb_amqp.proofs.taken.+after_value.Given as goal

abbrev pub decreases-after_value : goal.decreases-after_value
decreases-after_value l = l.nesting
