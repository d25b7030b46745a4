use Rattle.std.proofs.Common.{refl}
use Rattle.clap.proofs.OnLiterals.{clap_on_literals}
use Rattle.sb_words.specs.Words.{form_in}
use Rattle.sb_words.proofs.laws.worked_threads.Goals as goal

pub returns-clause-sharers : goal.returns-clause-sharers
unfolding form_in clap_on_literals
returns-clause-sharers c = refl

pub returns-clause-no_sharer : goal.returns-clause-no_sharer
unfolding form_in clap_on_literals
returns-clause-no_sharer c = refl
