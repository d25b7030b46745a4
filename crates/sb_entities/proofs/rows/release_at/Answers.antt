use Rattle.sb_entities.specs.Released.{entry_shrunk}
use Rattle.sb_entities.proofs.Steps.{set_seen}
use Rattle.sb_entities.proofs.rows.release_at.Goals as goal

pub returns-clause-rows : goal.returns-clause-rows
returns-clause-rows c = set_seen (entry_shrunk c.args.place) c.args.at c.index_mut-entity.result.now c.release.new.self c.args.rows.now.items c.requires c.index_mut-entity.ensures.value c.release.ensures
