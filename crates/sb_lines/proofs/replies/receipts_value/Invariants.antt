use Rattle.std.proofs.Common.{◌≡◌, map, take}
use Rattle.serde_json.specs.View.{view}
use Rattle.sb_lines.specs.Replies.{receipt_data}
use Rattle.sb_lines.proofs.replies.receipts_value.Given as goal

abbrev pub invariant-loop-receipt : goal.invariant-loop-receipt
invariant-loop-receipt l = map view l.items.items ≡ map receipt_data (take l.receipt-index l.receipts)
