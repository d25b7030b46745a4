use Rattle.std.proofs.Common.{refl}
use Rattle.std.specs.Fmt.{digits}
use Rattle.sb_rest.specs.Expositions.{about, help_line, type_line, first_label, label, value_text, labelled_line, bare_line, lone_text}
use Rattle.sb_rest.specs.ServerNumbers.{server_text, and_number, and_text, journal_keys, bytes_key, records_key, syncs_key, version_key, calls_text, calls_about, calls_line, act_label, bucket_of, bucket_line, journal_text, syncs_text, records_text, bytes_text}
use Rattle.sb_rest.proofs.worked.worked_server_numbers.Goals as goal

pub returns-clause-server : goal.returns-clause-server
unfolding server_text and_number and_text journal_keys bytes_key records_key syncs_key version_key digits
returns-clause-server c calls spent = refl

pub returns-clause-calls : goal.returns-clause-calls
unfolding calls_text calls_about calls_line act_label about help_line type_line first_label label value_text digits
returns-clause-calls c = refl

pub returns-clause-bucket : goal.returns-clause-bucket
unfolding bucket_of bucket_line labelled_line first_label value_text digits
returns-clause-bucket c = refl

pub returns-clause-journal : goal.returns-clause-journal
unfolding journal_text syncs_text records_text bytes_text lone_text about help_line type_line bare_line digits
returns-clause-journal c = refl
