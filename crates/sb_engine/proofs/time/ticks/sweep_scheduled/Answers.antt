use Rattle.std.proofs.Common.{ap, ◌∙◌}
use Rattle.sb_entities.specs.Stores.{space_in}
use Rattle.sb_engine.specs.Sweeps.{items_in}
use Rattle.sb_engine.specs.declared.time.finding.Search.TheVariants.{Come}
use Rattle.sb_engine.proofs.Items.{found_listed}
use Rattle.sb_engine.proofs.time.ticks.sweep_scheduled.Goals as goal

pub activate_all-requires : goal.activate_all-requires
activate_all-requires c = found_listed (space_in c.args.space.now) Come c.args.moment (items_in c.as_slice.result.now) (ap items_in c.as_slice.ensures.value ∙ c.in-Ok.ensures)
