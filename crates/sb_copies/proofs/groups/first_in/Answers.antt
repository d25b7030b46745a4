use Rattle.sb_copies.proofs.Stretches.{first_nowhere, first_past, first_there}
use Rattle.sb_copies.proofs.groups.first_in.Goals as goal

pub returns-in_default : goal.returns-in_default
returns-in_default c = first_nowhere c.args.group c.args.from c.args.index.now.rows c.in_default.ensures

pub returns-then-is_within : goal.returns-then-is_within
returns-then-is_within c = first_there c.args.group c.args.from c.in-Some.row c.args.index.now.rows c.requires c.in-Some.ensures c.if-is_within.ensures

pub returns-else-is_within : goal.returns-else-is_within
returns-else-is_within c = first_past c.args.group c.args.from c.in-Some.row c.args.index.now.rows c.rises.ensures c.in-Some.ensures c.if-is_within.ensures
