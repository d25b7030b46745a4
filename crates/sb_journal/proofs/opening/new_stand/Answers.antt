use Rattle.std.proofs.Common.{[], arith}
use Rattle.sb_journal.proofs.Heads.{length-file_text}
use Rattle.sb_journal.proofs.opening.new_stand.Goals as goal

pub returns-clause-stand : goal.returns-clause-stand
returns-clause-stand g c = record {
  taken = c.begin.ensures.taken;
  end_is = omega (arith, length-file_text (record { salt = c.args.salt; generation = 1; first = 1; base = []; payloads = [] }));
  end_fits = omega arith;
  next_is = omega arith;
  next_fits = omega arith;
}
