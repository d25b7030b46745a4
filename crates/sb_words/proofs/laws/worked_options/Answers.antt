use Rattle.std.proofs.Common.{refl}
use Rattle.clap.proofs.OnLiterals.{clap_on_literals}
use Rattle.sb_words.specs.Words.{form_in, is_host}
use Rattle.sb_words.proofs.laws.worked_options.Goals as goal

pub returns-clause-callers : goal.returns-clause-callers
unfolding form_in is_host clap_on_literals
returns-clause-callers c = refl

pub returns-clause-tellers : goal.returns-clause-tellers
unfolding form_in is_host clap_on_literals
returns-clause-tellers c = refl

pub returns-clause-others : goal.returns-clause-others
unfolding form_in is_host clap_on_literals
returns-clause-others c = refl

pub returns-clause-no_caller : goal.returns-clause-no_caller
unfolding form_in is_host clap_on_literals
returns-clause-no_caller c = refl

pub returns-clause-no_other : goal.returns-clause-no_other
unfolding form_in is_host clap_on_literals
returns-clause-no_other c = refl
