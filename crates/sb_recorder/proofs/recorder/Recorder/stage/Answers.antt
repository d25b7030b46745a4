use Rattle.std.proofs.Common.{◌≤◌, sym, ◌∙◌, ap, length, subst, List, ℕ}
use Rattle.sb_journal.specs.Journals.{journal_disks}
use Rattle.sb_journal.specs.Opened.{FindsFile}
use Rattle.sb_journal.specs.Text.{max_payload}
use Rattle.sb_journal.proofs.Pairs.{started_pair}
use Rattle.sb_codec.specs.EventBytes.{event_bytes, event_of, read_event}
use Rattle.sb_recorder.proofs.Events.{roomy, spelled}
use Rattle.sb_recorder.proofs.recorder.Recorder.stage.Goals as goal

pub add-requires : goal.add-requires
add-requires g c =
    let text = event_bytes (event_of c.args.event.now) in
    let bytes = spelled c.deref.result.now _ _ text c.deref.ensures.value c.in-Ok.ensures.puts.0 c.clear.ensures.items in
    record {
      short = subst (λ (l : List ℕ). length l ≤ max_payload) (sym bytes) (c.requires.short c.in-Ok.ensures.spelled);
      running = c.requires.running;
    }

pub returns-clause-staged : goal.returns-clause-staged
returns-clause-staged g c file staged holds =
    let text = event_bytes (event_of c.args.event.now) in
    let bytes = spelled c.deref.result.now _ _ text c.deref.ensures.value c.in-Ok.ensures.puts.0 c.clear.ensures.items in
    record {
      payload = c.deref.result.now;
      holds = c.in-Ok-add.ensures.ok file staged holds;
      reads = ap read_event bytes ∙ c.in-Ok.ensures.reads_back;
    }

pub returns-in_default-clause-any_moment : goal.returns-in_default-clause-any_moment
returns-in_default-clause-any_moment g c file staged holds = started_pair (journal_disks c.args.self.now.journal) (FindsFile file) holds.leaves

pub returns-in_default-clause-free : goal.returns-in_default-clause-free
returns-in_default-clause-free g c few =
    absurd (roomy _ _ _ c.in_default.ensures.puts.0 c.clear.ensures.len (subst (λ (n : ℕ). max_payload ≤ n) (sym c.clear.ensures.capacity) c.args.self.now.buffer_fits) few)
