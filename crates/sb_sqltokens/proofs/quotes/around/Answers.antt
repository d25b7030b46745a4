use Rattle.std.proofs.lemmas.Str.Pattern.{split_once_first}
use Rattle.sb_sqltokens.proofs.Quoting.{split_before, split_none}
use Rattle.sb_sqltokens.proofs.quotes.around.Goals as goal

pub returns-clause-before : goal.returns-clause-before
returns-clause-before c = split_before c.args.quote c.args.text.now c.split_once.result (split_once_first c.args.quote c.args.text.now c.split_once.result c.split_once.ensures.cases c.requires)

pub returns-clause-none : goal.returns-clause-none
returns-clause-none c = split_none c.args.quote c.args.text.now c.split_once.result (split_once_first c.args.quote c.args.text.now c.split_once.result c.split_once.ensures.cases c.requires)
