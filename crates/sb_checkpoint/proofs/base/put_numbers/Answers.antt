use Rattle.sb_codec.specs.Forms.{number64, ◌then◌}
use Rattle.sb_checkpoint.specs.Stores.{held_state}
use Rattle.sb_checkpoint.proofs.Fitting.{on_ok}
use Rattle.sb_checkpoint.proofs.base.put_numbers.Goals as goal

pub returns-clause-fits : goal.returns-clause-fits
returns-clause-fits g c =
    let s = held_state c.args.held.now in
    on_ok c.put_bytes.result ((number64 then number64 then number64 then number64).Fits (s.now, (s.space.last_lock, (s.space.last_txn, s.space.last_entity)))) c.in_ok-spell_numbers.ensures.fits
