use Rattle.std.proofs.Common.{refl}
use Rattle.std.specs.Str.{is_utf8, chars}
use Rattle.sb_codec.specs.Acts.{any_act}
use Rattle.sb_codec.specs.Bytes.{sized}
use Rattle.sb_codec.specs.Choices.{how}
use Rattle.sb_codec.specs.Forms.{chosen_at, coded_at}
use Rattle.sb_codec.specs.Messages.{system, conditions, message}
use Rattle.sb_codec.specs.Pieces.{path, token, description}
use Rattle.sb_codec.specs.Readers.{number_at, sized_at, optional_at, items_at, listed_at}
use Rattle.sb_snapshot.specs.Base.{gathered, parts, state_of}
use Rattle.sb_snapshot.specs.Copies.{hold, standing, copy}
use Rattle.sb_snapshot.specs.Entities.{filter, rule, accepted, about, head}
use Rattle.sb_snapshot.specs.Lists.{byte_at, listed64_at}
use Rattle.sb_snapshot.specs.Replies.{receipt, showing, delivery, shown, step_reply, answer, kept}
use Rattle.sb_snapshot.specs.Sessions.{key, leaf, holder, session}
use Rattle.sb_snapshot.specs.Transactions.{operation, transaction}
use Rattle.sb_snapshot.proofs.worked.worked_bases.Goals as goal

pub returns-clause-empty : goal.returns-clause-empty
unfolding parts
returns-clause-empty c = λ salt. refl

pub returns-clause-small : goal.returns-clause-small
unfolding parts head about path description accepted leaf key copy standing hold message session holder transaction operation kept any_act answer sized
returns-clause-small c = refl

pub returns-clause-standings : goal.returns-clause-standings
unfolding standing hold
returns-clause-standings c = refl

pub returns-clause-rules : goal.returns-clause-rules
unfolding rule filter conditions system sized
returns-clause-rules c = refl

pub returns-clause-operations : goal.returns-clause-operations
unfolding operation path token how message sized
returns-clause-operations c = refl

pub returns-clause-replies : goal.returns-clause-replies
unfolding answer receipt step_reply shown delivery showing token message sized
returns-clause-replies c = refl

pub returns-clause-reads_empty : goal.returns-clause-reads_empty
unfolding state_of gathered parts listed64_at items_at number_at
returns-clause-reads_empty c = λ salt. refl

pub returns-clause-reads_small : goal.returns-clause-reads_small
unfolding state_of gathered parts listed64_at items_at listed_at number_at sized_at optional_at chosen_at coded_at byte_at head about path description accepted leaf key copy standing hold message session holder transaction operation kept any_act answer is_utf8 chars lib.Utf8.encode
returns-clause-reads_small c = refl

pub returns-clause-short : goal.returns-clause-short
unfolding state_of gathered parts listed64_at items_at number_at
returns-clause-short c = λ salt. refl

pub returns-clause-long : goal.returns-clause-long
unfolding state_of gathered parts listed64_at items_at number_at
returns-clause-long c = λ salt. refl
