-- What the code's answers on one rule say.
use Rattle.std.specs.Prelude.{◌≡◌, ◌≢◌, ℕ, Bool, true, false, List, Some, Result, Ok, Err}
use Rattle.sb_model.specs.declared.message.Message.{Message}
use Rattle.sb_model.specs.declared.evaluation.EvalFault.{EvalFault}
use Rattle.sb_model.specs.declared.evaluation.EvalFault.TheVariants.{OutOfMemory}
use Rattle.sb_machine.specs.declared.rule.Rule.{Rule}
use Rattle.sb_machine.specs.declared.rule.RuleFilter.{RuleFilter}
use Rattle.sb_machine.specs.Selection.{matches, filter_fails, action_fails, acted_on, fails, takes_plainly, takes_changed, changed_by}
use Rattle.sb_rules.specs.declared.taken.Taking.{Taking}
use Rattle.sb_rules.specs.declared.taken.Taking.TheVariants.{Nothing, Plain, Changed}

-- a filter is true or not; or it fails, or memory was wanting
abbrev pub MatchesOr : Message → RuleFilter → Result Bool EvalFault → Type 0
MatchesOr m f (Ok b) = (filter_fails m f ≡ false) × (matches m f ≡ b)
MatchesOr m f (Err fault) = fault ≢ OutOfMemory → filter_fails m f ≡ true

-- an action changes the message so; or it fails, or memory was wanting
abbrev pub ActsOr : Message → List ℕ → Result Message EvalFault → Type 0
ActsOr m text (Ok changed) = (action_fails m (Some text) ≡ false) × (acted_on m (Some text) ≡ changed)
ActsOr m text (Err fault) = fault ≢ OutOfMemory → action_fails m (Some text) ≡ true

-- a rule has no fault on a message, and takes it so, unchanged or changed
pub record Takes (m : Message) (r : Rule) (plainly changed : Bool) : Type 0 where
  pub sound : fails m r ≡ false
  pub plainly_is : takes_plainly m r ≡ plainly
  pub changed_is : takes_changed m r ≡ changed

-- each answer on a rule without a fault: it takes nothing, the message as it is, or the changed one
abbrev pub IsTaking : Message → Rule → Taking → Type 0
IsTaking m r Nothing = Takes m r false false
IsTaking m r Plain = Takes m r true false
IsTaking m r (Changed copy) = Takes m r false true × (changed_by m r ≡ copy)

-- an answer on a rule, or its fault; memory may have run out in place of each
abbrev pub IsTried : Message → Rule → Result Taking EvalFault → Type 0
IsTried m r (Ok taking) = IsTaking m r taking
IsTried m r (Err fault) = fault ≢ OutOfMemory → fails m r ≡ true
