use Rattle.std.proofs.Common.{◌≡◌, map, take}
use Rattle.serde_json.specs.View.{view}
use Rattle.sb_lines.specs.Shown.{shown_data}
use Rattle.sb_lines.proofs.replies.copies_value.Given as goal

abbrev pub invariant-loop-copy : goal.invariant-loop-copy
invariant-loop-copy l = map view l.items.items ≡ map (λ c. shown_data l.form c) (take l.copy-index l.copies)
