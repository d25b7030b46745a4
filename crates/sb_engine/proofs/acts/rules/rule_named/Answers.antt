use Rattle.std.proofs.Common.{bytes_eq}
use Rattle.sb_machine.proofs.Places.{found_at, found_none}
use Rattle.sb_machine.specs.declared.rule.Rule.{Rule}
use Rattle.sb_engine.proofs.acts.rules.rule_named.Goals as goal

pub returns-in-Some : goal.returns-in-Some
returns-in-Some c = found_at (λ (r : Rule). bytes_eq r.name c.args.name.now) c.args.rules.now c.in-Some.place c.index-rules-place.result c.in-Some.ensures c.index-rules-place.is

pub returns-in-None : goal.returns-in-None
returns-in-None c = found_none (λ (r : Rule). bytes_eq r.name c.args.name.now) c.args.rules.now c.in-None.ensures
