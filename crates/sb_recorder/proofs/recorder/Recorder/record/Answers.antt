use Rattle.std.proofs.Common.{[], ◌∷◌}
use Rattle.sb_journal.specs.Journals.{journal_disks}
use Rattle.sb_codec.specs.EventBytes.{event_of}
use Rattle.sb_recorder.proofs.Events.{sealed_moments, staged_moments}
use Rattle.sb_recorder.proofs.recorder.Recorder.record.Goals as goal

pub returns-in-Ok-seal_events-clause-logged : goal.returns-in-Ok-seal_events-clause-logged
returns-in-Ok-seal_events-clause-logged g c file holds =
    let staged = c.in-Ok.ensures.staged file [] holds in
    record {
      payload = staged.payload;
      holds = c.in-Ok-seal_events.ensures.sealed file (staged.payload ∷ []) staged.holds;
      reads = staged.reads;
      number = c.in-Ok-seal_events.ensures.number file (staged.payload ∷ []) staged.holds;
    }

pub returns-in-Ok-seal_events-clause-any_moment : goal.returns-in-Ok-seal_events-clause-any_moment
returns-in-Ok-seal_events-clause-any_moment g c file holds =
    let staged = c.in-Ok.ensures.staged file [] holds in
    sealed_moments c.args.self.now.journal c.stage.new.self.journal c.seal_events.new.self.journal file staged.payload (event_of c.args.event.now) staged.reads c.stage.ensures.aside c.seal_events.ensures.aside
    (c.stage.ensures.any_moment file [] holds) (c.seal_events.ensures.any_moment file (staged.payload ∷ []) staged.holds)

pub returns-in-Err-seal_events-clause-any_moment : goal.returns-in-Err-seal_events-clause-any_moment
returns-in-Err-seal_events-clause-any_moment g c file holds =
    let staged = c.in-Ok.ensures.staged file [] holds in
    sealed_moments c.args.self.now.journal c.stage.new.self.journal c.seal_events.new.self.journal file staged.payload (event_of c.args.event.now) staged.reads c.stage.ensures.aside c.seal_events.ensures.aside
    (c.stage.ensures.any_moment file [] holds) (c.seal_events.ensures.any_moment file (staged.payload ∷ []) staged.holds)

pub returns-in-Err-clause-any_moment : goal.returns-in-Err-clause-any_moment
returns-in-Err-clause-any_moment g c file holds = staged_moments (journal_disks c.args.self.now.journal) (journal_disks c.stage.new.self.journal) file (event_of c.args.event.now) (c.stage.ensures.any_moment file [] holds)
