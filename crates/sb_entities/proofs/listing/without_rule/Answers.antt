use Rattle.std.proofs.Common.{◌≡◌, ◌∙◌, ap, rules}
use Rattle.std.proofs.lemmas.Fn.{filter_same}
use Rattle.sb_machine.specs.Changes.{rule_dropped}
use Rattle.sb_entities.proofs.listing.without_rule.Goals as goal

pub returns : goal.returns
returns c =
    let kept : c.retain.new.self.items ≡ rule_dropped c.args.name.now c.into_vec-rules.result.items = filter_same _ _ _ (λ x b f' k. search rules) _ _ c.retain.ensures.filtered in
    c.from_vec.ensures ∙ (kept ∙ ap (rule_dropped c.args.name.now) c.into_vec-rules.ensures)
