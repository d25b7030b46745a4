use Rattle.std.proofs.Common.{sym, subst, refl}
use Rattle.sb_entities.specs.Stocks.{txn_grown}
use Rattle.sb_entities.specs.Transactions.{AreOpened}
use Rattle.sb_entities.proofs.Opened.{opened_more}
use Rattle.sb_entities.proofs.Steps.{on_ok, on_err, either}
use Rattle.sb_entities.proofs.space.SpaceStore.reserve_at.Goals as goal

pub invariant_of-self-in-InTransaction : goal.invariant_of-self-in-InTransaction
invariant_of-self-in-InTransaction c =
    let s = c.args.self.now in
    let r = c.promise_operation.result in
    record {
      opened = either r _
          (on_ok r _ _ (λ is. subst (λ rows. AreOpened s.last_txn rows) (sym is) (opened_more c.in-InTransaction.number txn_grown s.last_txn s.txns.rows (λ r. refl) s.opened)) c.promise_operation.ensures.ok)
          (on_err r _ _ (λ is. subst (λ rows. AreOpened s.last_txn rows) (sym is) s.opened) c.promise_operation.ensures.err);
      living = s.living;
      given = s.given;
      numbered = s.numbered;
    }
