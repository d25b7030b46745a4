use Rattle.sb_sqltokens.proofs.Having.{tokens_found, tokens_only}
use Rattle.sb_sqltokens.proofs.laws.tokens_are_longest.Goals as goal

pub returns : goal.returns
returns c = record { found = tokens_found; only = tokens_only }
