use Rattle.std.proofs.Common.{◌++◌, sym, subst}
use Rattle.sb_recorder.specs.Recorders.{begun_of, Begun, GoesOn, HasBase}
use Rattle.sb_recorder.proofs.recorder.RecorderPieces.put.Goals as goal

pub returns-in-Ok-clause-stays : goal.returns-in-Ok-clause-stays
returns-in-Ok-clause-stays g c on =
    let r = c.put_on.new.self in
    subst (λ (b : Begun g.D.Disk). GoesOn r b) (sym c.put_on.ensures.since) (c.put_on.ensures.stays (begun_of c.args.self.now) on)

pub returns-in-Ok-clause-has : goal.returns-in-Ok-clause-has
returns-in-Ok-clause-has g c text had =
    let r = c.put_on.new.self in
    subst (λ (b : Begun g.D.Disk). HasBase r b (text ++ c.args.bytes.now)) (sym c.put_on.ensures.since) (c.in-Ok.ensures.has (begun_of c.args.self.now) text had)

pub returns-in-Err-clause-stays : goal.returns-in-Err-clause-stays
returns-in-Err-clause-stays g c on =
    let r = c.put_on.new.self in
    subst (λ (b : Begun g.D.Disk). GoesOn r b) (sym c.put_on.ensures.since) (c.put_on.ensures.stays (begun_of c.args.self.now) on)
