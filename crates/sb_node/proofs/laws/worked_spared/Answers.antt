use Rattle.std.specs.Str.{chars}
use Rattle.std.proofs.Common.{None, Ok, refl}
use Rattle.sb_machine.specs.History.{fresh_log}
use Rattle.sb_machine.specs.Worked.{empty}
use Rattle.sb_machine.specs.declared.call.How.TheVariants.{Complete}
use Rattle.sb_machine.specs.declared.reply.Answered.TheVariants.{New}
use Rattle.sb_machine.specs.declared.reply.Reply.TheVariants.{Done}
use Rattle.sb_desk.proofs.Sparing.{spares_faultless}
use Rattle.sb_node.specs.Steps.{is_spared}
use Rattle.sb_node.specs.WorkedSpared.{settled, settlement}
use Rattle.sb_node.proofs.laws.worked_spared.Goals as goal

pub returns-clause-done : goal.returns-clause-done
unfolding chars
returns-clause-done c = spares_faultless is_spared (fresh_log empty) (settled 0 (settlement None Complete) (Ok (New Done))) (refl, (refl, (refl, (refl, tt))))

pub returns-clause-wanting : goal.returns-clause-wanting
unfolding chars
returns-clause-wanting c = λ spares. spares.1.1.1.0 refl refl

pub returns-clause-due : goal.returns-clause-due
unfolding chars
returns-clause-due c = ((λ is. absurd cc), ((λ is. absurd cc), ((λ is. absurd cc), ((λ is. absurd cc), tt))))

pub returns-clause-numbered : goal.returns-clause-numbered
unfolding chars
returns-clause-numbered c = ((λ is. absurd cc), ((λ is. absurd cc), ((λ is. absurd cc), ((λ is. absurd cc), tt))))

pub returns-clause-given_back : goal.returns-clause-given_back
unfolding chars
returns-clause-given_back c = ((λ is. absurd cc), ((λ is. absurd cc), ((λ is. absurd cc), ((λ is. absurd cc), tt))))
