use Rattle.std.proofs.Common.{◌≡◌, ◌++◌, drop}
use Rattle.std.specs.Prelude.{◌||◌}
use Rattle.std.specs.List.{list_any}
use Rattle.sb_machine.specs.Selection.{fails, takes_plainly, changed_copies}
use Rattle.sb_rules.proofs.taken.copies_by.Given as goal

-- no rule failed so far; what was taken so far, and what the rules to come take, is what all take
abbrev pub invariant-rules : goal.invariant-rules
invariant-rules l = record {
  sound : list_any (fails l.message) (drop l.rule-index l.rules) ≡ list_any (fails l.message) l.rules;
  plain : (l.plain || list_any (takes_plainly l.message) (drop l.rule-index l.rules)) ≡ list_any (takes_plainly l.message) l.rules;
  changed : l.changed.items ++ changed_copies l.message (drop l.rule-index l.rules) ≡ changed_copies l.message l.rules;
}
