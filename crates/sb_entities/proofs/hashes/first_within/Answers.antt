use Rattle.sb_entities.proofs.Stretches.{found_before, found_nowhere, found_past}
use Rattle.sb_entities.proofs.hashes.first_within.Goals as goal

pub returns-in-Some : goal.returns-in-Some
returns-in-Some c = found_before c.args.from c.args.below c.in-Some.row c.args.index.now.rows c.rises.ensures c.in-Some.ensures c.if-row-below.true

pub returns-in_default : goal.returns-in_default
returns-in_default c = found_past c.args.from c.args.below c.in-Some.row c.args.index.now.rows c.rises.ensures c.in-Some.ensures c.if-row-below.false

pub returns-in_default-2 : goal.returns-in_default-2
returns-in_default-2 c = found_nowhere c.args.from c.args.below c.args.index.now.rows c.rises.ensures c.in_default.ensures
