use Rattle.sb_model.proofs.Failing.{of_filters}
use Rattle.sb_model.proofs.laws.filters_fail_only_so.Goals as goal

pub returns : goal.returns
returns c = of_filters
