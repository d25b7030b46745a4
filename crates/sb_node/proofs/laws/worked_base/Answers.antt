use Rattle.std.proofs.Common.{refl}
use Rattle.sb_journal.specs.Choosing.{headed}
use Rattle.sb_journal.specs.Framing.{framing, head_fault, is_record, payloads_in}
use Rattle.std.specs.Str.{is_utf8, chars}
use Rattle.sb_codec.specs.Acts.{any_act}
use Rattle.sb_codec.specs.EventBytes.{a_call, event, read_event}
use Rattle.sb_codec.specs.Forms.{chosen_at, coded_at}
use Rattle.sb_codec.specs.Pieces.{description}
use Rattle.sb_codec.specs.Readers.{number_at, sized_at, optional_at, items_at}
use Rattle.sb_snapshot.specs.Base.{gathered, parts, state_of}
use Rattle.sb_snapshot.specs.Lists.{listed64_at}
use Rattle.sb_snapshot.specs.Replies.{kept}
use Rattle.sb_node.proofs.laws.worked_base.Goals as goal

pub returns-clause-empty : goal.returns-clause-empty
unfolding framing headed head_fault is_record payloads_in state_of gathered parts listed64_at items_at number_at
returns-clause-empty c = refl

pub returns-clause-no_end_gate : goal.returns-clause-no_end_gate
unfolding framing headed head_fault is_record payloads_in state_of gathered parts listed64_at items_at number_at
returns-clause-no_end_gate c = refl

pub returns-clause-cut : goal.returns-clause-cut
unfolding framing headed head_fault is_record payloads_in
returns-clause-cut c = (refl, refl)

pub returns-clause-short : goal.returns-clause-short
unfolding framing headed head_fault is_record payloads_in state_of gathered parts listed64_at items_at number_at
returns-clause-short c = refl

pub returns-clause-long : goal.returns-clause-long
unfolding framing headed head_fault is_record payloads_in state_of gathered parts listed64_at items_at number_at
returns-clause-long c = refl

pub returns-clause-unspelled : goal.returns-clause-unspelled
unfolding framing headed head_fault is_record payloads_in state_of gathered parts listed64_at items_at number_at sized_at kept
returns-clause-unspelled c = refl

pub returns-clause-inconsistent : goal.returns-clause-inconsistent
unfolding framing headed head_fault is_record payloads_in state_of gathered parts listed64_at items_at number_at
returns-clause-inconsistent c = refl

pub returns-clause-moment : goal.returns-clause-moment
unfolding framing headed head_fault is_record payloads_in state_of gathered parts listed64_at items_at number_at
returns-clause-moment c = refl

pub returns-clause-event : goal.returns-clause-event
unfolding framing headed head_fault is_record payloads_in state_of gathered parts listed64_at items_at number_at read_event event a_call any_act description chosen_at coded_at sized_at optional_at is_utf8 chars lib.Utf8.encode
returns-clause-event c = refl

pub returns-clause-earlier : goal.returns-clause-earlier
unfolding framing headed head_fault is_record payloads_in state_of gathered parts listed64_at items_at number_at read_event event a_call any_act description chosen_at coded_at sized_at optional_at is_utf8 chars lib.Utf8.encode
returns-clause-earlier c = refl
