use Rattle.std.proofs.Common.{sym, subst, refl}
use Rattle.sb_txn.specs.Txns.{with_less_room}
use Rattle.sb_entities.specs.Transactions.{AreOpened}
use Rattle.sb_entities.proofs.Opened.{opened_more}
use Rattle.sb_entities.proofs.space.SpaceStore.release_at.Goals as goal

pub invariant_of-self-in-InTransaction : goal.invariant_of-self-in-InTransaction
invariant_of-self-in-InTransaction c =
    let s = c.args.self.now in
    record {
      opened = subst (λ rows. AreOpened s.last_txn rows) (sym c.release_operation.ensures.rows) (opened_more c.in-InTransaction.number with_less_room s.last_txn s.txns.rows (λ r. refl) s.opened);
      living = s.living;
      given = s.given;
      numbered = s.numbered;
    }
