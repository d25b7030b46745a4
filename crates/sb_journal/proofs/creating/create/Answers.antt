use Rattle.std.proofs.Common.{◌<◌, ◌^◌, length, sym, subst, arith}
use Rattle.std.specs.Prelude.{IsTrue}
use Rattle.sb_journal.proofs.Adding.{rests_read}
use Rattle.sb_journal.proofs.Heads.{new_rests}
use Rattle.sb_journal.proofs.creating.create.Goals as goal

pub returns-clause-reads : goal.returns-clause-reads
returns-clause-reads g c honest =
    let honest_1 = subst IsTrue (sym c.sync.ensures.honesty) honest in
    let fits : c.args.salt < 2 ^ 64 = omega arith in
    let base_fits : length c.args.base.now < 2 ^ 64 = omega arith in
    rests_read _ _ _ _ (new_rests _ c.args.salt c.args.generation c.args.first c.args.base.now fits base_fits c.requires.generation_least c.requires.generation_greatest c.requires.first_least c.requires.first_greatest (c.in_ok-make_file.ensures.ok honest_1))
