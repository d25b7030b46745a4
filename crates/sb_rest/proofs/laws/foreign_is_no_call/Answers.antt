use Rattle.sb_rest.proofs.Methods.{none_foreign}
use Rattle.sb_rest.proofs.laws.foreign_is_no_call.Goals as goal

pub returns : goal.returns
returns c access m is = none_foreign access m is
