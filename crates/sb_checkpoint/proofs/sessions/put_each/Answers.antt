use Rattle.std.proofs.Common.{Ok, get_or, map, take, subst}
use Rattle.std.specs.List.{All, flat_map}
use Rattle.sb_entities.specs.Stores.{entity_in}
use Rattle.sb_snapshot.specs.Base.{sessions_in}
use Rattle.sb_snapshot.specs.Sessions.{session}
use Rattle.sb_checkpoint.specs.Takings.{Takes}
use Rattle.sb_checkpoint.proofs.Each.{all_at_end, all_next, next_spelled}
use Rattle.sb_checkpoint.proofs.Taking.{takes_exit, takes_then}
use Rattle.sb_checkpoint.proofs.sessions.put_each.Goals as goal

pub returns-in_err-put_three-clause-takes : goal.returns-in_err-put_three-clause-takes
returns-in_err-put_three-clause-takes g c = takes_exit g.P.Pieces c.args.out.now c.loop-entity.out c.put_three.new.out _ _ c.in_err-put_three.field-0.0 c.from_residual.result c.loop-entity.invariant.takes c.in_err-put_three.ensures.takes c.from_residual.ensures.1

pub returns-clause-fits : goal.returns-clause-fits
returns-clause-fits g c = all_at_end (λ e. All session.Fits (sessions_in (entity_in e))) c.args.entities.now c.loop-entity.entity-index c.loop-entity-test.false c.loop-entity.invariant.fits

pub loop-entity-preserved : goal.loop-entity-preserved
loop-entity-preserved g c =
    let rows = c.args.entities.now in
    let i = c.loop-entity.entity-index in
    let e = c.entity-item.result in
    let P = g.P.Pieces in
    let next = c.put_three.new.out in
    let before = flat_map session.spell (flat_map sessions_in (map entity_in (take i rows))) in
    let here = flat_map session.spell (sessions_in (entity_in (get_or rows i e))) in
    let one : Takes P c.loop-entity.out next here (Ok tt) = subst (λ x. Takes P c.loop-entity.out next (flat_map session.spell (sessions_in (entity_in x))) (Ok tt)) c.entity-item.is c.in_ok-put_three.ensures.takes in
    record {
      takes = subst (λ z. Takes P c.args.out.now next z (Ok tt)) (next_spelled session.spell sessions_in entity_in rows i e c.loop-entity-test.true) (takes_then P c.args.out.now c.loop-entity.out next before here (Ok tt) c.loop-entity.invariant.takes one);
      fits = all_next (λ x. All session.Fits (sessions_in (entity_in x))) rows i e c.loop-entity-test.true c.loop-entity.invariant.fits (subst (λ x. All session.Fits (sessions_in (entity_in x))) c.entity-item.is c.in_ok-put_three.ensures.fits);
    }
