use Rattle.std.proofs.Common.{◌+◌, sym, subst}
use Rattle.sb_entities.specs.Transactions.{AreOpened}
use Rattle.sb_entities.proofs.Opened.{opened_below, opened_begun}
use Rattle.sb_entities.proofs.space.SpaceStore.begin.Goals as goal

pub begin-requires-clause-rises : goal.begin-requires-clause-rises
begin-requires-clause-rises c = opened_below c.args.self.now.last_txn c.args.self.now.txns.rows c.args.self.now.opened

pub invariant_of-self : goal.invariant_of-self
invariant_of-self c =
    let s = c.args.self.now in
    record { opened = subst (λ rows. AreOpened (s.last_txn + 1) rows) (sym c.begin.ensures.rows) (opened_begun c.args.entity c.args.deadline s.last_txn s.txns.rows s.opened); living = s.living; given = s.given; numbered = s.numbered }
