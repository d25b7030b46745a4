use Rattle.std.proofs.Common.{refl}
use Rattle.clap.proofs.OnLiterals.{clap_on_literals}
use Rattle.sb_words.specs.Words.{form_in}
use Rattle.sb_words.proofs.laws.worked_drills.Goals as goal

pub returns-clause-drills : goal.returns-clause-drills
unfolding form_in clap_on_literals
returns-clause-drills c = refl

pub returns-clause-no_drill : goal.returns-clause-no_drill
unfolding form_in clap_on_literals
returns-clause-no_drill c = refl
