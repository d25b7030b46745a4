use Rattle.sb_rest.proofs.Plain.{all_low}
use Rattle.sb_rest.proofs.laws.escaped_is_ascii.Goals as goal

pub returns : goal.returns
returns c text = all_low text
