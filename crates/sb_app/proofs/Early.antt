-- What a run that ended early leads to.
use Rattle.std.proofs.Common.{◌≡◌, ◌≢◌, ℕ, List, [], ◌++◌, Option, Some, None, refl, sym, ◌∙◌, ap, subst}
use Rattle.sb_machine.specs.Consistent.{IsConsistent}
use Rattle.sb_machine.specs.History.{Log, IsLegal, IsLegalFrom, after_entries, fresh_log, state_after}
use Rattle.sb_machine.specs.declared.history.Entry.{Entry}
use Rattle.sb_machine.specs.declared.state.State.{State}
use Rattle.sb_laws.proofs.Histories.{goes_on}
use Rattle.sb_desk.specs.Spared.{Spares, SparesFrom}
use Rattle.sb_desk.proofs.Sparing.{spares_faultless, spares_on}
use Rattle.sb_journal.specs.Disks.{Disks, AreHonest}
use Rattle.sb_node.specs.Recovery.{Recovers, recovered_on}
use Rattle.sb_node.specs.Nodes.{IsDurable}
use Rattle.sb_node.specs.Steps.{is_spared}
use Rattle.sb_app.specs.Outside.{Outside}
use Rattle.sb_app.specs.declared.script_line.ScriptLine.{ScriptLine}
use Rattle.sb_app.specs.declared.script_line.ScriptLine.TheVariants.{Blank, Malformed, Request}
use Rattle.sb_app.specs.declared.ending.RunEnd.{RunEnd}
use Rattle.sb_app.specs.declared.ending.RunEnd.TheVariants.{DiskFault}
use Rattle.sb_app.specs.Runs.{state_after_all, history_of, FollowTo}
use Rattle.sb_app.specs.Endings.{LastLine, IsUndecided, IsAnswer, EndsAt, IsCutRun, entries_by, entries_of_last, line_of_last, history_to}
use Rattle.sb_app.specs.Tops.{IsEarlyRun}
use Rattle.sb_app.specs.Openings.{IsOpened}
use Rattle.sb_app.proofs.Lawful.{lawful}
use Rattle.sb_app.proofs.Whole.{after_append, led_log, led_to, legal_history, moments_of, opened}

-- ---- the history

-- behind the lines that were answered it goes on as from their state
state_to : (s : State) (ls : List ScriptLine) (more : List Entry) → state_after s (history_of s ls ++ more) ≡ state_after (state_after_all s ls) more
state_to s ls more =
    ap (λ (l : Log). l.state) (after_append (fresh_log s) (history_of s ls) more) ∙ ap (λ (l : Log). (after_entries l more).state) (led_log s ls)

legal_on : (s : State) (ls : List ScriptLine) (more : List Entry) → IsConsistent s → IsLegal (state_after_all s ls) more → IsLegal s (history_of s ls ++ more)
legal_on s ls more consistent here = goes_on (fresh_log s) (history_of s ls) more (legal_history s ls consistent).0 (subst (λ (l : Log). IsLegalFrom l more) (sym (led_log s ls)) here)

legal_to : (s : State) (ls : List ScriptLine) (last : Option LastLine) (part : List ℕ) (before now : ℕ) (end : RunEnd) → IsConsistent s → EndsAt (state_after_all s ls) last part before now end → IsLegal s (history_to s ls last)
legal_to s ls None part before now end consistent ends = legal_on s ls [] consistent refl
legal_to s ls (Some last) part before now end consistent ends = at_line last.line ends.0
  where
    at_line : (x : ScriptLine) → IsAnswer (state_after_all s ls) x last.tick last.answer → IsLegal s (history_of s ls ++ entries_by x last.tick last.answer)
    at_line Blank is = absurd is
    at_line (Malformed part key) is = legal_on s ls [] consistent refl
    at_line (Request a form) is = legal_on s ls (entries_by (Request a form) last.tick last.answer) consistent is.1

spares_all : (s : State) (ls : List ScriptLine) (more : List Entry) → IsConsistent s → Spares is_spared (state_after_all s ls) more → Spares is_spared s (history_of s ls ++ more)
spares_all s ls more consistent here =
    spares_on is_spared (fresh_log s) (history_of s ls) more (spares_faultless is_spared (fresh_log s) (history_of s ls) (legal_history s ls consistent).1)
    (subst (λ (l : Log). SparesFrom is_spared l more) (sym (led_log s ls)) here)

spares_to : (s : State) (ls : List ScriptLine) (last : Option LastLine) (part : List ℕ) (before now : ℕ) (end : RunEnd) → IsConsistent s → EndsAt (state_after_all s ls) last part before now end → Spares is_spared s (history_to s ls last)
spares_to s ls None part before now end consistent ends = spares_all s ls [] consistent tt
spares_to s ls (Some last) part before now end consistent ends = at_line last.line ends.0
  where
    at_line : (x : ScriptLine) → IsAnswer (state_after_all s ls) x last.tick last.answer → Spares is_spared s (history_of s ls ++ entries_by x last.tick last.answer)
    at_line Blank is = absurd is
    at_line (Malformed part key) is = spares_all s ls [] consistent tt
    at_line (Request a form) is = spares_all s ls (entries_by (Request a form) last.tick last.answer) consistent is.2

-- ---- the run

pub early_run : (clock : ℕ → Type 0) (days : ℕ) (Safe : Type 0) (salt : ℕ) (was now : Outside) (ready : Disks) (start state : State) (end : RunEnd) → IsOpened Safe salt was.disks ready start → IsCutRun clock days Safe start (opened was ready) now state end
    → (AreHonest was.disks → end ≢ DiskFault → Recovers (recovered_on now.disks salt) state) → (AreHonest was.disks → end ≢ DiskFault → IsDurable now.disks state) → IsEarlyRun clock days salt was now end
early_run clock days Safe salt was now ready start state end opening run kept durable =
    let leads : state ≡ state_after start (history_to start run.lines run.last) =
    run.leads ∙ sym (state_to start run.lines (entries_of_last run.last))
    in
    let legal = legal_to start run.lines run.last run.part was.output.faults now.output.faults end opening.consistent run.ends in
    record {
      start = start;
      found = record { recovers = opening.found; consistent = opening.consistent };
      lines = run.lines;
      last = run.last;
      first = run.first;
      taken = run.taken;
      within = run.within;
      long = run.long;
      part = run.part;
      ends = run.ends;
      jump = run.jump;
      written = run.written;
      chronicle = record { legal = legal; laws = lawful start (history_to start run.lines run.last) opening.consistent legal };
      spares = spares_to start run.lines run.last run.part was.output.faults now.output.faults end opening.consistent run.ends;
      backed = λ honest sound. record { recovers = subst (Recovers (recovered_on now.disks salt)) leads (kept honest sound); durable = subst (IsDurable now.disks) leads (durable honest sound) };
      undecided = λ honest failed. subst (λ (y : State). IsUndecided now.disks y run.last) (led_to start run.lines) (run.undecided (opening.safe honest) failed);
      moments = moments_of Safe salt start (FollowTo start run.lines (line_of_last run.last)) was.disks ready now.disks opening run.moments;
    }
