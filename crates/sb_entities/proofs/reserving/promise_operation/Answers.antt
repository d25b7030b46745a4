use Rattle.std.proofs.Common.{[], ◌∷◌, ◌+◌, ◌≡◌, arith}
use Rattle.sb_txn.specs.Txns.{has_txn}
use Rattle.sb_entities.specs.Stocks.{txn_grown}
use Rattle.sb_entities.proofs.Steps.{on_ok, changed_none, one_room}
use Rattle.sb_entities.proofs.reserving.promise_operation.Goals as goal

pub returns-in_default-clause-ok : goal.returns-in_default-clause-ok
returns-in_default-clause-ok c = changed_none (has_txn c.args.number) (λ r. txn_grown r ∷ []) c.args.txns.now.rows c.in_default.ensures.row

pub returns-clause-ok : goal.returns-clause-ok
returns-clause-ok c =
    let r = c.in-Some.txn.now in
    let count : c.in_ok-count.count ≡ r.spare + 1 = omega (arith, c.in_ok-count.ensures, c.spare.ensures) in
    on_ok c.reserve_operations.result _ _ (one_room c.args.number c.in_ok-count.count r c.args.txns.now.rows c.reserve_operations.new.self.rows c.in-Some.ensures.row count) c.reserve_operations.ensures.rows
