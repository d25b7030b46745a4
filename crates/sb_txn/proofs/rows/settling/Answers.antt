use Rattle.std.proofs.Common.{◌∙◌}
use Rattle.sb_txn.proofs.First.{pending_some, pending_none}
use Rattle.sb_txn.proofs.rows.settling.Goals as goal

pub returns-in-Some : goal.returns-in-Some
returns-in-Some c = c.numbered.ensures.transaction ∙ pending_some c.args.lock c.in-Some.number c.args.rows.now c.args.keys.now.rows c.rises.ensures c.requires.numbered c.requires.keyed c.in-Some.ensures

pub returns-in-None : goal.returns-in-None
returns-in-None c = pending_none c.args.lock c.args.rows.now c.args.keys.now.rows c.rises.ensures c.requires.numbered c.requires.keyed c.in-None.ensures
