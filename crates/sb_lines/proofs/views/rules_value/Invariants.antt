use Rattle.std.proofs.Common.{◌≡◌, map, take}
use Rattle.serde_json.specs.View.{view}
use Rattle.sb_lines.specs.Views.{rule_data}
use Rattle.sb_lines.proofs.views.rules_value.Given as goal

abbrev pub invariant-loop-rule : goal.invariant-loop-rule
invariant-loop-rule l = map view l.items.items ≡ map rule_data (take l.rule-index l.rules)
