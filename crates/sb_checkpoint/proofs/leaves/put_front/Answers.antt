use Rattle.sb_codec.specs.Forms.{number64, ◌then◌}
use Rattle.sb_snapshot.specs.Sessions.{key}
use Rattle.sb_checkpoint.proofs.Fitting.{on_ok}
use Rattle.sb_checkpoint.proofs.leaves.put_front.Goals as goal

pub returns-clause-fits : goal.returns-clause-fits
returns-clause-fits g c = on_ok c.put_bytes.result ((key then number64 then number64).Fits (c.args.key.now, (c.args.last, c.args.count))) c.in_ok-put_leaf_head.ensures.fits
