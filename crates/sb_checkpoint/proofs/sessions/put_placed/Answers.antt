use Rattle.std.proofs.Common.{subst, sym}
use Rattle.std.proofs.lemmas.List.Elements.{All-map}
use Rattle.sb_snapshot.specs.Sessions.{in_part, session}
use Rattle.sb_checkpoint.proofs.Taking.{takes_exit}
use Rattle.sb_checkpoint.proofs.Each.{all_before, all_at_end}
use Rattle.sb_checkpoint.proofs.sessions.put_placed.Goals as goal

pub put_one-requires : goal.put_one-requires
put_one-requires g c =
    let key = c.args.key.now in
    subst (λ x. session.Asks (in_part key x)) (sym c.session-item.is) (all_before session.Asks (in_part key) c.args.sessions.now c.requires c.loop-session.session-index c.session-item.result c.loop-session-test.true)

pub returns-clause-fits : goal.returns-clause-fits
returns-clause-fits g c =
    let key = c.args.key.now in
    All-map session.Fits (in_part key) c.args.sessions.now (all_at_end (λ x. session.Fits (in_part key x)) c.args.sessions.now c.loop-session.session-index c.loop-session-test.false c.loop-session.invariant.fits)

pub returns-in_err-put_one-clause-takes : goal.returns-in_err-put_one-clause-takes
returns-in_err-put_one-clause-takes g c = takes_exit g.P.Pieces c.args.out.now c.loop-session.out c.put_one.new.out _ _ c.in_err-put_one.field-0.0 c.from_residual.result c.loop-session.invariant.takes c.in_err-put_one.ensures.takes c.from_residual.ensures.1
