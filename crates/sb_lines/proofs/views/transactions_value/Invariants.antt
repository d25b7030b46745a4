use Rattle.std.proofs.Common.{◌≡◌, map, take}
use Rattle.serde_json.specs.View.{view}
use Rattle.sb_lines.specs.Views.{transaction_data}
use Rattle.sb_lines.proofs.views.transactions_value.Given as goal

abbrev pub invariant-loop-transaction : goal.invariant-loop-transaction
invariant-loop-transaction l = map view l.items.items ≡ map transaction_data (take l.transaction-index l.transactions)
