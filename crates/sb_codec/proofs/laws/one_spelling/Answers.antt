use Rattle.std.proofs.Common.{[], sym, ◌∙◌}
use Rattle.std.proofs.lemmas.List.{append-nil}
use Rattle.sb_codec.specs.EventBytes.{event_bytes}
use Rattle.sb_codec.proofs.Spelling.{spelled_once, read_event_again, spellable}
use Rattle.sb_codec.proofs.laws.one_spelling.Goals as goal

pub returns-clause-once : goal.returns-clause-once
returns-clause-once c = spelled_once

pub returns-clause-apart : goal.returns-clause-apart
returns-clause-apart c a b x f g e = (spelled_once a b x [] f g (e ∙ sym (append-nil (event_bytes b)))).1

pub returns-clause-reads_back : goal.returns-clause-reads_back
returns-clause-reads_back c = read_event_again

pub returns-clause-again : goal.returns-clause-again
returns-clause-again c = spellable
