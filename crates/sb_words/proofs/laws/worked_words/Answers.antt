use Rattle.std.proofs.Common.{refl}
use Rattle.clap.proofs.OnLiterals.{clap_on_literals}
use Rattle.sb_words.specs.Words.{form_in}
use Rattle.sb_words.proofs.laws.worked_words.Goals as goal

pub returns-clause-joined : goal.returns-clause-joined
unfolding form_in clap_on_literals
returns-clause-joined c folder = refl

pub returns-clause-separate : goal.returns-clause-separate
unfolding form_in clap_on_literals
returns-clause-separate c = refl

pub returns-clause-client : goal.returns-clause-client
unfolding form_in clap_on_literals
returns-clause-client c = refl

pub returns-clause-serve : goal.returns-clause-serve
unfolding form_in clap_on_literals
returns-clause-serve c = refl

pub returns-clause-none : goal.returns-clause-none
unfolding form_in clap_on_literals
returns-clause-none c = refl

pub returns-clause-no_serve : goal.returns-clause-no_serve
unfolding form_in clap_on_literals
returns-clause-no_serve c = refl
