use Rattle.sb_sqlgrammar.proofs.Whole.{actions_spelled, actions_each, actions_one, action_faults}
use Rattle.sb_sqlgrammar.proofs.laws.reading_actions_is_exact.Goals as goal

pub returns : goal.returns
returns c = record { spelled = actions_spelled; each = actions_each; one = actions_one; faults = action_faults }
