use Rattle.sb_entities.specs.Stocks.{entry_after}
use Rattle.sb_entities.proofs.Steps.{set_seen}
use Rattle.sb_entities.proofs.Tallies.{set_tells}
use Rattle.sb_entities.proofs.rows.change_at.Goals as goal

pub returns-clause-rows : goal.returns-clause-rows
returns-clause-rows c = set_seen (entry_after c.args.moment c.args.change) c.args.at c.index_mut-entity.result.now c.change.new.self c.args.rows.now.items c.requires.within c.index_mut-entity.ensures.value c.change.ensures.entry

pub returns-clause-tally : goal.returns-clause-tally
returns-clause-tally c = set_tells c.change.result c.args.at c.index_mut-entity.result.now c.change.new.self c.args.rows.now.items c.requires.within c.index_mut-entity.ensures.value c.change.ensures.tally
