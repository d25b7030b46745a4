use Rattle.std.proofs.Common.{refl}
use Rattle.sb_journal.specs.Choosing.{headed}
use Rattle.sb_journal.specs.Framing.{framing, head_fault, is_record, payloads_in}
use Rattle.std.specs.Str.{is_utf8, chars}
use Rattle.sb_codec.specs.Acts.{any_act}
use Rattle.sb_codec.specs.EventBytes.{a_call, event, read_event}
use Rattle.sb_codec.specs.Forms.{chosen_at, coded_at}
use Rattle.sb_codec.specs.Pieces.{description}
use Rattle.sb_codec.specs.Readers.{number_at, sized_at, optional_at}
use Rattle.sb_snapshot.specs.Base.{parts, state_of}
use Rattle.sb_node.proofs.laws.worked_journal.Goals as goal

pub returns-clause-length : goal.returns-clause-length
returns-clause-length c = refl

pub returns-clause-whole : goal.returns-clause-whole
unfolding framing headed head_fault is_record payloads_in read_event event a_call any_act description chosen_at coded_at number_at sized_at optional_at is_utf8 chars lib.Utf8.encode
returns-clause-whole c = refl

pub returns-clause-no_end_gate : goal.returns-clause-no_end_gate
unfolding framing headed head_fault is_record payloads_in read_event event a_call any_act description chosen_at coded_at number_at sized_at optional_at is_utf8 chars lib.Utf8.encode
returns-clause-no_end_gate c = refl

pub returns-clause-gate_closed : goal.returns-clause-gate_closed
unfolding framing headed head_fault is_record payloads_in
returns-clause-gate_closed c = refl

pub returns-clause-no_journal : goal.returns-clause-no_journal
unfolding framing headed head_fault is_record payloads_in
returns-clause-no_journal c = (refl, refl)

pub returns-clause-first_byte : goal.returns-clause-first_byte
unfolding framing headed head_fault is_record payloads_in
returns-clause-first_byte c = (refl, refl, refl)

pub returns-clause-magic : goal.returns-clause-magic
unfolding framing headed head_fault is_record payloads_in
returns-clause-magic c = refl

pub returns-clause-version : goal.returns-clause-version
unfolding framing headed head_fault is_record payloads_in
returns-clause-version c = refl

pub returns-clause-generation : goal.returns-clause-generation
unfolding framing headed head_fault is_record payloads_in
returns-clause-generation c = (refl, refl)

pub returns-clause-first : goal.returns-clause-first
unfolding framing headed head_fault is_record payloads_in
returns-clause-first c = (refl, refl)

pub returns-clause-base : goal.returns-clause-base
unfolding framing headed head_fault is_record payloads_in state_of parts number_at
returns-clause-base c = refl

pub returns-clause-base_cut : goal.returns-clause-base_cut
unfolding framing headed head_fault is_record payloads_in
returns-clause-base_cut c = refl

pub returns-clause-cut : goal.returns-clause-cut
unfolding framing headed head_fault is_record payloads_in
returns-clause-cut c = (refl, refl)

pub returns-clause-too_long : goal.returns-clause-too_long
unfolding framing headed head_fault is_record payloads_in
returns-clause-too_long c = refl

pub returns-clause-number : goal.returns-clause-number
unfolding framing headed head_fault is_record payloads_in
returns-clause-number c = refl

pub returns-clause-no_event : goal.returns-clause-no_event
unfolding framing headed head_fault is_record payloads_in read_event event a_call any_act description chosen_at coded_at number_at sized_at optional_at is_utf8 chars lib.Utf8.encode
returns-clause-no_event c = refl

pub returns-clause-refused : goal.returns-clause-refused
unfolding framing headed head_fault is_record payloads_in read_event event a_call any_act description chosen_at coded_at number_at sized_at optional_at is_utf8 chars lib.Utf8.encode
returns-clause-refused c = refl

pub returns-clause-late : goal.returns-clause-late
unfolding framing headed head_fault is_record payloads_in read_event event a_call any_act description chosen_at coded_at number_at sized_at optional_at is_utf8 chars lib.Utf8.encode
returns-clause-late c = refl

pub returns-clause-gate_open : goal.returns-clause-gate_open
unfolding framing headed head_fault is_record payloads_in read_event event a_call any_act description chosen_at coded_at number_at sized_at optional_at is_utf8 chars lib.Utf8.encode
returns-clause-gate_open c = refl

pub returns-clause-idle : goal.returns-clause-idle
unfolding framing headed head_fault is_record payloads_in read_event event a_call any_act description chosen_at coded_at number_at sized_at optional_at is_utf8 chars lib.Utf8.encode
returns-clause-idle c = refl
