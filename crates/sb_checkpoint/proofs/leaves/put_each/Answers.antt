use Rattle.std.specs.List.{All}
use Rattle.sb_entities.specs.Stores.{entity_in}
use Rattle.sb_snapshot.specs.Base.{leaves_in}
use Rattle.sb_snapshot.specs.Sessions.{leaf}
use Rattle.sb_checkpoint.proofs.Each.{all_at_end}
use Rattle.sb_checkpoint.proofs.Taking.{takes_exit}
use Rattle.sb_checkpoint.proofs.leaves.put_each.Goals as goal

pub returns-in_err-put_three-clause-takes : goal.returns-in_err-put_three-clause-takes
returns-in_err-put_three-clause-takes g c = takes_exit g.P.Pieces c.args.out.now c.loop-entity.out c.put_three.new.out _ _ c.in_err-put_three.field-0.0 c.from_residual.result c.loop-entity.invariant.takes c.in_err-put_three.ensures.takes c.from_residual.ensures.1

pub returns-clause-fits : goal.returns-clause-fits
returns-clause-fits g c = all_at_end (λ e. All leaf.Fits (leaves_in (entity_in e))) c.args.entities.now c.loop-entity.entity-index c.loop-entity-test.false c.loop-entity.invariant.fits
