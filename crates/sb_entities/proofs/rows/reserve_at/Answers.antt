use Rattle.sb_entities.specs.Stocks.{entry_grown}
use Rattle.sb_entities.proofs.Steps.{on_ok, on_err, set_seen, same_seen}
use Rattle.sb_entities.proofs.rows.reserve_at.Goals as goal

pub returns-clause-ok : goal.returns-clause-ok
returns-clause-ok c = on_ok c.reserve.result _ _ (set_seen (entry_grown c.args.place) c.args.at c.index_mut-entity.result.now c.reserve.new.self c.args.rows.now.items c.requires c.index_mut-entity.ensures.value) c.reserve.ensures.ok

pub returns-clause-err : goal.returns-clause-err
returns-clause-err c = on_err c.reserve.result _ _ (same_seen c.args.at c.index_mut-entity.result.now c.reserve.new.self c.args.rows.now.items c.index_mut-entity.ensures.value) c.reserve.ensures.err
