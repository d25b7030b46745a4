use Rattle.sb_rest.proofs.Methods.{none_keyless}
use Rattle.sb_rest.proofs.laws.keyless_is_no_call.Goals as goal

pub returns : goal.returns
returns c access m own none = none_keyless access m own none
