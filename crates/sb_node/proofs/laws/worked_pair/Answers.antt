use Rattle.std.proofs.Common.{refl}
use Rattle.sb_journal.specs.Choosing.{headed}
use Rattle.sb_journal.specs.Framing.{framing, head_fault, is_record, payloads_in}
use Rattle.std.specs.Str.{is_utf8, chars}
use Rattle.sb_codec.specs.Acts.{any_act}
use Rattle.sb_codec.specs.EventBytes.{a_call, event, read_event}
use Rattle.sb_codec.specs.Forms.{chosen_at, coded_at}
use Rattle.sb_codec.specs.Pieces.{description}
use Rattle.sb_codec.specs.Readers.{number_at, sized_at, optional_at}
use Rattle.sb_node.proofs.laws.worked_pair.Goals as goal

pub returns-clause-greater : goal.returns-clause-greater
unfolding framing headed head_fault is_record payloads_in read_event event a_call any_act description chosen_at coded_at number_at sized_at optional_at is_utf8 chars lib.Utf8.encode
returns-clause-greater c = (refl, refl)

pub returns-clause-beside : goal.returns-clause-beside
unfolding framing headed head_fault is_record payloads_in read_event event a_call any_act description chosen_at coded_at number_at sized_at optional_at is_utf8 chars lib.Utf8.encode
returns-clause-beside c = (refl, refl, refl)

pub returns-clause-same : goal.returns-clause-same
unfolding framing headed head_fault is_record payloads_in
returns-clause-same c = refl

pub returns-clause-heads : goal.returns-clause-heads
unfolding framing headed head_fault is_record payloads_in
returns-clause-heads c = (refl, refl, refl)

pub returns-clause-first_byte : goal.returns-clause-first_byte
unfolding framing headed head_fault is_record payloads_in
returns-clause-first_byte c = (refl, refl)

pub returns-clause-records : goal.returns-clause-records
unfolding framing headed head_fault is_record payloads_in read_event event a_call any_act description chosen_at coded_at number_at sized_at optional_at is_utf8 chars lib.Utf8.encode
returns-clause-records c = (refl, refl)
