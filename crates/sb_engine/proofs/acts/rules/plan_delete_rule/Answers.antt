use Rattle.std.proofs.Common.{sym, ◌∙◌}
use Rattle.sb_entities.specs.Stores.{space_in, entity_in}
use Rattle.sb_engine.proofs.Rules.{deletes}
use Rattle.sb_engine.proofs.acts.rules.plan_delete_rule.Goals as goal

pub returns : goal.returns
returns c =
    let names = c.if-not-are_rule_names.false in
    deletes c.delete_in.result (space_in c.args.space.now) c.args.topic.now c.args.subscription.now c.args.name.now c.in-Ok.path (entity_in c.in-Some.entity.now) c.about.result.now (sym c.are_rule_names.ensures ∙ names) c.in-Ok.ensures c.in-Some.ensures c.about.ensures c.delete_in.ensures
