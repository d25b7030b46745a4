use Rattle.sb_entities.proofs.Opened.{opened_in_order}
use Rattle.sb_entities.proofs.space.SpaceStore.is_in_order.Goals as goal

pub returns-clause-transactions : goal.returns-clause-transactions
returns-clause-transactions c = opened_in_order c.args.self.now.last_txn c.args.self.now.txns.rows c.args.self.now.opened
