use Rattle.std.proofs.Common.{◌≡◌, ◌++◌, drop, map}
use Rattle.sb_machine.specs.Looks.{rule_shown}
use Rattle.sb_engine.proofs.acts.views.rules_shown.Given as goal

-- those shown so far, and those still to be shown, are all
abbrev pub invariant-loop-rule : goal.invariant-loop-rule
invariant-loop-rule l = l.shown ++ map rule_shown (drop l.rule-index l.rules) ≡ map rule_shown l.rules
