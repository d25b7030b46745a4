use Rattle.sb_laws.proofs.Histories.{goes_on}
use Rattle.sb_laws.proofs.laws.goes_on.Goals as goal

pub returns : goal.returns
returns c l h more legal here = goes_on l h more legal here
