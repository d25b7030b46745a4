use Rattle.std.proofs.Common.{inr, None}
use Rattle.sb_engine.specs.Rules.{rule_of}
use Rattle.sb_engine.proofs.Rules.{same_search, not_found}
use Rattle.sb_engine.proofs.acts.rules.delete_in.Goals as goal

pub returns-in-None : goal.returns-in-None
returns-in-None c = inr (not_found (rule_of c.args.name.now c.args.about.now.rules) _ _ (same_search None c.args.about.now.rules c.as_slice.result.now c.args.name.now c.as_str.result.now c.as_slice.ensures c.as_str.ensures c.in-None.ensures))
