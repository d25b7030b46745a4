use Rattle.sb_rest.proofs.Methods.{all_methods}
use Rattle.sb_rest.proofs.laws.methods_are_told.Goals as goal

pub returns : goal.returns
returns c r method = all_methods r method
