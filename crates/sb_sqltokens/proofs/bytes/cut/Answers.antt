use Rattle.sb_sqltokens.proofs.Cuts.{behind_ascii}
use Rattle.sb_sqltokens.proofs.bytes.cut.Goals as goal

pub split_at-requires : goal.split_at-requires
split_at-requires c = behind_ascii c.args.text.now c.args.place c.utf8.text c.requires.within c.requires.ascii
