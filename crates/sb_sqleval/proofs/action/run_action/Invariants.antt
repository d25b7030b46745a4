use Rattle.std.proofs.Common.{◌≡◌, drop}
use Rattle.sb_model.specs.Expressions.{changes_of}
use Rattle.sb_model.specs.Effects.{after_changes}
use Rattle.sb_sqleval.specs.Memory.{RemoveAlone}
use Rattle.sb_sqleval.proofs.action.run_action.Given as goal

-- what the statements to come make of the message so far is what all make of the first
abbrev pub invariant-statements : goal.invariant-statements
invariant-statements l = record {
  leads : after_changes l.left (changes_of (drop l.statement-index l.statement-items)) ≡ after_changes l.fn.message (changes_of l.fn.action);
  removals : RemoveAlone (changes_of l.fn.action) → RemoveAlone (changes_of (drop l.statement-index l.statement-items));
}
