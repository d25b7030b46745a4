use Rattle.std.proofs.Common.{refl}
use Rattle.clap.proofs.OnLiterals.{clap_on_literals}
use Rattle.sb_words.specs.Words.{form_in}
use Rattle.sb_words.proofs.laws.worked_checkpoints.Goals as goal

pub returns-clause-checkpoints : goal.returns-clause-checkpoints
unfolding form_in clap_on_literals
returns-clause-checkpoints c = refl

pub returns-clause-no_checkpoint : goal.returns-clause-no_checkpoint
unfolding form_in clap_on_literals
returns-clause-no_checkpoint c = refl

pub returns-clause-savers : goal.returns-clause-savers
unfolding form_in clap_on_literals
returns-clause-savers c = refl

pub returns-clause-no_saver : goal.returns-clause-no_saver
unfolding form_in clap_on_literals
returns-clause-no_saver c = refl
