-- What a whole run leads to.
use Rattle.std.proofs.Common.{◌≡◌, ℕ, List, [], ◌∷◌, ◌++◌, Bool, true, false, refl, sym, ◌∙◌, ap, subst}
use Rattle.sb_outside.specs.declared.disk.Disk.{Ghosts as Disk}
use Rattle.sb_machine.specs.Answers.{answer_of, moment_of}
use Rattle.sb_machine.specs.Consistent.{IsConsistent}
use Rattle.sb_machine.specs.Due.{is_due}
use Rattle.sb_machine.specs.History.{Log, IsFaultless, IsLegal, advanced, after_entries, after_entry, entries_at, fresh_log, is_disk_fault, is_spent, state_after, stops}
use Rattle.sb_machine.specs.declared.call.Call.{Call}
use Rattle.sb_machine.specs.declared.history.Entry.{Entry}
use Rattle.sb_machine.specs.declared.state.State.{State}
use Rattle.sb_laws.proofs.Orders.{answers_legally, consistent_is_orderly}
use Rattle.sb_laws.proofs.Outcomes.{answers_no_fault}
use Rattle.sb_node.specs.declared.node.Node.{Node}
use Rattle.sb_journal.proofs.Holding.{aside_kept}
use Rattle.sb_journal.proofs.Pairs.{kept_aside, opened_counts}
use Rattle.sb_journal.specs.Choosing.{sided, turned}
use Rattle.sb_journal.specs.Disks.{Disks, disks_of, opened_on, AreHonest, KeepFound, KeepsAside, KeepsOn}
use Rattle.sb_journal.specs.Framing.{framing}
use Rattle.sb_journal.specs.Journals.{journal_side}
use Rattle.sb_journal.specs.Opened.{Opened, Stands, Damage, opened_alone, placed}
use Rattle.sb_journal.specs.Text.{File}
use Rattle.sb_journal.specs.declared.found.Side.{Side}
use Rattle.sb_node.specs.Recovery.{Recovers, recovers, recovered_on}
use Rattle.sb_node.proofs.Keeping.{kept_recovers as last_recovers}
use Rattle.sb_node.specs.Nodes.{node_aside, node_disk_a, node_disk_b, node_state, node_journal, node_last, node_disks, IsKept, IsDurable}
use Rattle.sb_app.specs.Outside.{Outside}
use Rattle.sb_node.proofs.Crashes.{found_leads, kept_leads}
use Rattle.sb_app.specs.declared.script_line.ScriptLine.{ScriptLine}
use Rattle.sb_app.specs.declared.script_line.ScriptLine.TheVariants.{Blank, Malformed, Request}
use Rattle.sb_app.specs.Lines.{script_lines}
use Rattle.sb_app.specs.Runs.{IsScriptRun, FollowLines, state_after_all, calls_in, history_of, status_by}
use Rattle.sb_app.specs.Tops.{HasMoments, IsWholeRun}
use Rattle.sb_app.specs.Openings.{IsOpened}
use Rattle.sb_app.proofs.Lawful.{lawful}
use Rattle.sb_app.proofs.Steps.{going_on, no_disk_fault}

-- ---- the history of lines

pub after_append : (l : Log) (h more : List Entry) → after_entries l (h ++ more) ≡ after_entries (after_entries l h) more
after_append l [] more = refl
after_append l (e ∷ h) more = after_append (after_entry l e) h more

-- what the machine answers leaves the namespace running, with no tick left over
machine_goes : (s : State) (reading : ℕ) (call : Call) → after_entries (fresh_log s) (entries_at 0 s reading call) ≡ fresh_log (state_after s (entries_at 0 s reading call))
machine_goes s reading call = by_tests (is_due t s.space) (is_spent s t) refl refl
  where
    t : ℕ
    t = moment_of s reading

    goes : (y : State) → stops (answer_of y t call) ≡ false
    goes y = going_on (answer_of y t call) (answers_no_fault y t call)

    sound : (y : State) → is_disk_fault (answer_of y t call) ≡ false
    sound y = no_disk_fault (answer_of y t call) (answers_no_fault y t call)

    by_tests : (b c : Bool) → is_due t s.space ≡ b → is_spent s t ≡ c → after_entries (fresh_log s) (entries_at 0 s reading call) ≡ fresh_log (state_after s (entries_at 0 s reading call))
    by_tests false c calm any = rw (calm, goes s, sound s) refl
    by_tests true true due spent = rw (due, spent) refl
    by_tests true false due room = rw (due, room, goes (advanced s t), sound (advanced s t)) refl

-- the history of lines leads to the state after them
pub led_log : (s : State) (ls : List ScriptLine) → after_entries (fresh_log s) (history_of s ls) ≡ fresh_log (state_after_all s ls)
led_log s [] = refl
led_log s (Blank ∷ ls) = led_log s ls
led_log s (Malformed part key ∷ ls) = led_log s ls
led_log s (Request a form ∷ ls) =
    let here = entries_at 0 s a.reading a.call in
    let after = state_after s here in
    after_append (fresh_log s) here (history_of after ls) ∙ ap (λ (l : Log). after_entries l (history_of after ls)) (machine_goes s a.reading a.call) ∙ led_log after ls

pub led_to : (s : State) (ls : List ScriptLine) → state_after_all s ls ≡ state_after s (history_of s ls)
led_to s ls = sym (ap (λ (l : Log). l.state) (led_log s ls))

pub legal_history : (s : State) (ls : List ScriptLine) → IsConsistent s → IsLegal s (history_of s ls) × IsFaultless (history_of s ls)
legal_history s ls consistent = answers_legally 0 s (calls_in ls) (consistent_is_orderly s consistent)

-- ---- a node that is kept

-- what holds a state recovers it
pub kept_recovers : {D : Type 0} {disk : Disk D} (node : Node D disk) (salt : ℕ) → IsKept node → Recovers (recovered_on (node_disks node) salt) (node_state node)
kept_recovers node salt kept = found_leads kept.file (node_state node) (node_disks node).a.held.seen (node_disks node).b.held.seen kept.holds.reads kept.leads salt

pub kept_numbers : {D : Type 0} {disk : Disk D} (node : Node D disk) (salt : ℕ) → IsKept node → recovered_on (node_disks node) salt ≡ recovers (node_state node) (node_last node)
kept_numbers node salt kept = last_recovers (node_journal node) (node_last node) (node_state node) salt kept

-- and so does what a crash leaves of its disks
pub kept_durable : {D : Type 0} {disk : Disk D} (node : Node D disk) → IsKept node → IsDurable (node_disks node) (node_state node)
kept_durable node kept = kept_leads (node_journal node) (node_last node) (node_state node) kept

-- ---- a whole run

-- the outside where the journal is open
abbrev pub opened : Outside → Disks → Outside
opened was ready = record was { disks = ready }

pub moments_of : (Safe : Type 0) (salt : ℕ) (start : State) (Follows : (was now : Disks) → Type 0) (was ready now : Disks) → IsOpened Safe salt was ready start → (Safe → Follows ready now) → AreHonest was → HasMoments salt start Follows was now
moments_of Safe salt start Follows was ready now opening follows honest = record {
  ready = ready;
  opens = opening.opens honest;
  holds = opening.holds honest;
  follows = follows (opening.safe honest);
}

pub whole_run : (clock : ℕ → Type 0) (days : ℕ) (Safe : Type 0) (salt : ℕ) (was now : Outside) (ready : Disks) (start state : State) (refused : Bool) (status : ℕ) → IsOpened Safe salt was.disks ready start → IsScriptRun clock days Safe start (opened was ready) now state refused
    → (AreHonest was.disks → Recovers (recovered_on now.disks salt) state) → (AreHonest was.disks → IsDurable now.disks state) → status ≡ status_by refused → IsWholeRun clock days salt was now status
whole_run clock days Safe salt was now ready start state refused status opening run kept durable is =
    let leads : state ≡ state_after start (history_of start (script_lines run.input)) = run.leads ∙ led_to start (script_lines run.input) in
    let legal = legal_history start (script_lines run.input) opening.consistent in
    record {
      start = start;
      found = record { recovers = opening.found; consistent = opening.consistent };
      input = run.input;
      took = run.took;
      ended = run.ended;
      within = run.within;
      written = run.written;
      chronicle = record { legal = legal.0; laws = lawful start (history_of start (script_lines run.input)) opening.consistent legal.0 };
      faultless = legal.1;
      backed = λ honest. record { recovers = subst (Recovers (recovered_on now.disks salt)) leads (kept honest); durable = subst (IsDurable now.disks) leads (durable honest) };
      says = is ∙ ap status_by run.says;
      moments = moments_of Safe salt start (FollowLines start (script_lines run.input)) was.disks ready now.disks opening run.moments;
    }

-- of two that count it is one
placed_once : (side at : Side) (r : Opened) (file : File) → placed side r ≡ Stands at file → side ≡ at
placed_once side at (Stands s g) file e = cc
placed_once side at (Damage s place) file e = absurd cc

-- the disk that doesn't count, from the opening on until the disks come back
pub closed_aside : {D : Type 0} {B : Disk D} (first last : Node D B) (a b : D) (salt : ℕ) (was : Disks) → node_aside last ≡ node_aside first → a ≡ node_disk_a last → b ≡ node_disk_b last
    → (file : File) × (opened_on was salt ≡ Stands (journal_side (node_journal first)) file) → KeepFound salt was (node_disks first) → KeepsAside salt was (disks_of B a b)
closed_aside {D} {B} first last a b salt was same is_a is_b stands kept side counts =
    let there : disks_of B a b ≡ node_disks last = λ i. disks_of B (is_a i) (is_b i) in
    let x = was.a.held.seen in
    let y = was.b.held.seen in
    let is : side ≡ journal_side (node_journal first) = placed_once side (journal_side (node_journal first)) (opened_alone salt (framing (sided side x y))) stands.0 (sym (opened_counts salt x y side counts) ∙ stands.1) in
    let was_kept = subst (λ (s : Side). KeepsOn salt (turned s) was (node_disks first)) is (kept_aside salt side was (node_disks first) counts kept) in
    let is_kept = subst (λ (s : Side). KeepsOn salt (turned s) was (node_disks last)) (sym is) (aside_kept (node_journal first) (node_journal last) salt was same was_kept) in
    subst (λ (d : Disks). KeepsOn salt (turned side) was d) (sym there) is_kept
