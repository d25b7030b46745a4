use Rattle.std.proofs.Common.{rules, not, ap, ◌∙◌}
use Rattle.std.proofs.lemmas.Fn.{filter_same}
use Rattle.sb_entities.specs.Stocks.{has_number}
use Rattle.sb_entities.specs.Stores.{entry_in, entries_in}
use Rattle.sb_entities.proofs.Seen.{filter_seen}
use Rattle.sb_entities.proofs.rows.remove_rows.Goals as goal

pub returns-clause-rows : goal.returns-clause-rows
returns-clause-rows c = ap entries_in (filter_same _ (λ e. not (has_number c.args.number (entry_in e))) _ (λ x b f' k. search rules) _ _ c.retain.ensures.filtered) ∙ filter_seen entry_in (λ x. not (has_number c.args.number x)) c.args.rows.now.items
