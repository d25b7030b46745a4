use Rattle.sb_laws.proofs.Numbers.{once_numbers}
use Rattle.sb_laws.proofs.once.once_numbers.Goals as goal

pub returns : goal.returns
returns c s h consistent legal = once_numbers s h consistent legal
