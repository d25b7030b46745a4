use Rattle.std.proofs.Common.{inr, Some}
use Rattle.sb_engine.specs.Rules.{rule_of}
use Rattle.sb_engine.proofs.Rules.{same_search, is_there}
use Rattle.sb_engine.proofs.acts.rules.create_in.Goals as goal

pub returns-in-Some : goal.returns-in-Some
returns-in-Some c =
    let found = same_search (Some c.in-Some.field-0.now) c.args.about.now.rules c.as_slice.result.now c.args.name.now c.as_str.result.now c.as_slice.ensures c.as_str.ensures c.in-Some.ensures in
    inr (is_there (rule_of c.args.name.now c.args.about.now.rules) c.in-Some.field-0.now _ _ found)
