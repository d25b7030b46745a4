use Rattle.sb_laws.proofs.Orders.{answers_legally}
use Rattle.sb_laws.proofs.laws.answers_legally.Goals as goal

pub returns : goal.returns
returns c seat s calls orderly = answers_legally seat s calls orderly
