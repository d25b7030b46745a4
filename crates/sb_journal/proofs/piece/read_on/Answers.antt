use Rattle.std.proofs.Common.{◌≤◌, sym, subst}
use Rattle.std.specs.Prelude.{IfOk}
use Rattle.sb_journal.proofs.Onward.{reads_more}
use Rattle.sb_journal.proofs.piece.read_on.Goals as goal

pub returns-clause-bytes : goal.returns-clause-bytes
returns-clause-bytes g c honest so_far =
    reads_more c.read.result c.args.at c.args.from c.args.bytes.now c.read.new.into _ _ c.requires.inside so_far (subst (λ m. IfOk c.read.result (λ n. n ≤ m)) (sym c.read.auto.into) c.read.ensures.within) (c.read.ensures.bytes honest)
