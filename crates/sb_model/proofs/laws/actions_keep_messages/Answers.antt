use Rattle.sb_model.proofs.Acting.{keeps_messages}
use Rattle.sb_model.proofs.laws.actions_keep_messages.Goals as goal

pub returns : goal.returns
returns c m n changes left = keeps_messages m n changes left
