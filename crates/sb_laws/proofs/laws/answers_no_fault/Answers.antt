use Rattle.sb_laws.proofs.Outcomes.{answers_no_fault}
use Rattle.sb_laws.proofs.laws.answers_no_fault.Goals as goal

pub returns : goal.returns
returns c s t call = answers_no_fault s t call
