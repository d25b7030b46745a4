use Rattle.std.proofs.Common.{◌≡◌, drop}
use Rattle.std.specs.List.{list_all}
use Rattle.sb_judge.specs.Transactions.{transaction_verdict}
use Rattle.sb_judge.proofs.whole.are_each_open.Given as goal

abbrev pub invariant-loop-transaction : goal.invariant-loop-transaction
invariant-loop-transaction l = list_all (λ x. (transaction_verdict l.moment l.space x).0) (drop l.transaction-index l.transactions) ≡ list_all (λ x. (transaction_verdict l.moment l.space x).0) l.transactions
