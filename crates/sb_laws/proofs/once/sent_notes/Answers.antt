use Rattle.sb_laws.proofs.SentNotes.{sent_notes}
use Rattle.sb_laws.proofs.once.sent_notes.Goals as goal

pub returns : goal.returns
returns c s h consistent legal = sent_notes s h consistent legal
