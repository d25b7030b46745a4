use Rattle.sb_sqlgrammar.proofs.Whole.{filters_spelled, filters_each, filters_one, filter_faults}
use Rattle.sb_sqlgrammar.proofs.laws.reading_filters_is_exact.Goals as goal

pub returns : goal.returns
returns c = record { spelled = filters_spelled; each = filters_each; one = filters_one; faults = filter_faults }
