use Rattle.std.proofs.Common.{refl}
use Rattle.sb_codec.specs.Acts.{any_act}
use Rattle.sb_codec.specs.Bytes.{sized}
use Rattle.sb_codec.specs.Choices.{which, how, filter_text}
use Rattle.sb_codec.specs.EventBytes.{a_call, event, read_event}
use Rattle.sb_codec.specs.Forms.{chosen_at}
use Rattle.sb_codec.specs.Messages.{system, signed64, value, property, conditions, message}
use Rattle.sb_codec.specs.Pieces.{path, token, by, description}
use Rattle.sb_codec.specs.Readers.{number_at}
use Rattle.sb_codec.specs.Steps.{step}
use Rattle.sb_codec.proofs.worked.worked_bytes.Goals as goal

pub returns-clause-ticked : goal.returns-clause-ticked
unfolding event
returns-clause-ticked c = refl

pub returns-clause-made : goal.returns-clause-made
unfolding event a_call any_act description sized
returns-clause-made c = (refl, refl)

pub returns-clause-entities : goal.returns-clause-entities
unfolding event a_call any_act path description filter_text conditions system property value signed64 sized
returns-clause-entities c = refl

pub returns-clause-copies : goal.returns-clause-copies
unfolding event a_call any_act path token which how message system property value signed64 sized
returns-clause-copies c = refl

pub returns-clause-sessions : goal.returns-clause-sessions
unfolding event a_call any_act by path token sized
returns-clause-sessions c = refl

pub returns-clause-together : goal.returns-clause-together
unfolding event a_call any_act step path token which how message sized
returns-clause-together c = refl

pub returns-clause-read : goal.returns-clause-read
unfolding read_event event chosen_at number_at
returns-clause-read c = refl

pub returns-clause-short : goal.returns-clause-short
unfolding read_event event chosen_at number_at
returns-clause-short c = refl

pub returns-clause-long : goal.returns-clause-long
unfolding read_event event chosen_at number_at
returns-clause-long c = refl

pub returns-clause-other : goal.returns-clause-other
unfolding read_event event chosen_at
returns-clause-other c = refl
