use Rattle.std.proofs.Common.{◌≡◌, length}
use Rattle.sb_model.specs.Expressions.{changes_of}
use Rattle.sb_model.specs.Reading as reading
use Rattle.sb_sqltext.proofs.Statements.{action_from}
use Rattle.sb_sqltext.proofs.actions.action_of.Given as goal

-- what was read so far and what is left give the whole
abbrev pub invariant-statements : goal.invariant-statements
invariant-statements l = action_from l.depth l.left (changes_of l.statements) l.rest ≡ reading.action_of l.depth l.count l.tokens

abbrev pub decreases-statements : goal.decreases-statements
decreases-statements l = length l.rest
