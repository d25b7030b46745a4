-- The end of a server: a checkpoint, where one is asked for.
use Rattle.std.proofs.Common.{◌≡◌, ◌≢◌, ◌⊎◌, inl, inr, ℕ, zero, suc, List, Bool, true, false, Option, Some, None, Err, refl, sym, ◌∙◌, subst, arith}
use Rattle.std.specs.Prelude.{is_some}
use Rattle.sb_outside.specs.declared.disk.Disk.{Ghosts as Disk}
use Rattle.sb_journal.specs.Disks.{Disks, AreHonest}
use Rattle.sb_journal.specs.declared.found.OpenWhy.{OpenWhy}
use Rattle.sb_node.specs.declared.node.Node.{Node}
use Rattle.sb_node.specs.Nodes.{node_disks, IsKept}
use Rattle.sb_desk.specs.Desks.{Open}
use Rattle.sb_desk.specs.declared.report.Report.{Report}
use Rattle.sb_server.specs.Serves.{Worker}
use Rattle.sb_server.specs.declared.ending.ServeEnding.{ServeEnding}
use Rattle.sb_words.specs.Words.{command_in, form_in}
use Rattle.sb_words.specs.declared.command.Command.TheVariants.{Serve}
use Rattle.sb_words.specs.declared.command.WordsFault.{WordsFault}
use Rattle.sb_words.specs.declared.command.WordsFault.TheVariants.{BadWords, OutOfMemory as WordsUnread}
use Rattle.sb_app.specs.Calls.{IsCall, IsNamed}
use Rattle.sb_app.specs.Checkpoints.{EndsCheckpoint, HasCheckpoint}
use Rattle.sb_app.specs.Clients.{Exchanges}
use Rattle.sb_app.specs.Held.{IsJumpStatus}
use Rattle.sb_app.specs.Openings.{IsFailed}
use Rattle.sb_app.specs.Outside.{Output, Outside}
use Rattle.sb_app.specs.declared.jump.Jump.{Jump}
use Rattle.sb_app.specs.Servings.{serve_status, IsServeCall, IsServer}
use Rattle.sb_app.specs.Stages.{ServerEnded}
use Rattle.sb_app.specs.declared.task.Task.{Task}
use Rattle.sb_app.proofs.Calls.{no_form, IsBadWords}
use Rattle.sb_app.proofs.Checkpoints.{ended_usage, failed_low}
use Rattle.sb_app.proofs.Servings.{failed_call, no_two_serve, unserved_at_once}

-- ---- without one

-- with another status than 0 there is none
pub unmade : {R : Type 0} (checkpoint : Bool) (clock : ℕ → Type 0) (days : ℕ) (goes_on : Bool) (Works : Open → Worker R → Type 0) (count : R → ℕ) (salt : ℕ) (was now : Outside) (doors doors_now : List R) (status : ℕ) → status ≢ 0
    → IsServeCall clock days goes_on Works count salt was now doors doors_now status → IsServer checkpoint clock days goes_on Works count salt was now doors doors_now status
unmade false clock days goes_on Works count salt was now doors doors_now status other call = call
unmade true clock days goes_on Works count salt was now doors doors_now status other call =
    record { served = now.disks; served_status = status; call = call; whole = λ is. absurd (other is); early = λ same. (refl, refl) }

-- memory was wanting at once
pub unserved_server : {R : Type 0} (checkpoint : Bool) (clock : ℕ → Type 0) (days : ℕ) (goes_on : Bool) (Works : Open → Worker R → Type 0) (count : R → ℕ) (salt : ℕ) (was : Outside) (doors : List R) → IsServer checkpoint clock days goes_on Works count salt was was doors doors 7
unserved_server checkpoint clock days goes_on Works count salt was doors =
    unmade checkpoint clock days goes_on Works count salt was was doors doors 7 (λ is. absurd cc) (unserved_at_once clock days goes_on Works count salt was doors)

-- the journal wasn't opened
pub failed_server : {R : Type 0} (checkpoint : Bool) (clock : ℕ → Type 0) (days : ℕ) (goes_on : Bool) (Works : Open → Worker R → Type 0) (count : R → ℕ) (salt : ℕ) (was : Outside) (disks : Disks) (output : Output) (doors : List R) (why : OpenWhy) (status : ℕ) → IsFailed salt was.disks disks was.output output why status
    → IsServer checkpoint clock days goes_on Works count salt was (record was { output = output; disks = disks }) doors doors status
failed_server checkpoint clock days goes_on Works count salt was disks output doors why status fails =
    let low = failed_low status fails.known in
    unmade checkpoint clock days goes_on Works count salt was (record was { output = output; disks = disks }) doors doors status (λ is. absurd (omega (arith, low, is))) (failed_call clock days goes_on Works count salt was disks output doors why status fails)

-- the clock is too far ahead, or memory was wanting to say so
pub not_served : (jump : Jump) (was now : Output) (status : ℕ) → IsJumpStatus jump was now status → status ≢ 0
not_served jump was now status (inl told) is = let fourteen = told.0 in omega (arith, fourteen, is)
not_served jump was now status (inr none) is = let seven = none.0 in omega (arith, seven, is)

-- ---- with one

-- a server that ended at 0 has not stopped
pub served_runs : (o : Option ℕ) (ending : ServeEnding) (told : ℕ) → serve_status (is_some o) ending told ≡ 0 → o ≡ None
served_runs None ending told is = refl
served_runs (Some n) ending told is = absurd cc

-- behind a server over this node
pub ended_server : {R D : Type 0} {B : Disk D} (checkpoint : Bool) (clock : ℕ → Type 0) (days : ℕ) (goes_on : Bool) (Works : Open → Worker R → Type 0) (count : R → ℕ) (salt : ℕ) (was now : Outside) (doors doors_now : List R) (ending : ServeEnding) (report : Report) (last : Node D B) (disks : Disks) (status : ℕ)
    → (ended : ServerEnded checkpoint ending report last disks was.output now.output status)
    → IsServeCall clock days goes_on Works count salt was (record now { disks = node_disks last }) doors doors_now ended.served
    → (AreHonest (node_disks last) → ended.served ≡ 0 → IsKept last)
    → IsServer checkpoint clock days goes_on Works count salt was (record now { disks = disks }) doors doors_now status
ended_server {R} {D} {B} checkpoint clock days goes_on Works count salt was now doors doors_now ending report last disks status ended call kept = by_words checkpoint ended.unasked ended.ends ended.has
  where
    by_words : (c : Bool) → (c ≡ false → (status ≡ ended.served) × (disks ≡ node_disks last))
        → (c ≡ true → ended.served ≡ 0 → EndsCheckpoint (node_disks last) disks ended.served status)
        → (c ≡ true → ended.served ≡ 0 → IsKept last → (s : ℕ) → HasCheckpoint s (node_disks last) disks ended.served status)
        → IsServer c clock days goes_on Works count salt was (record now { disks = disks }) doors doors_now status
    by_words false unasked ends has =
        let same = unasked refl in
        subst (λ (n : ℕ). IsServeCall clock days goes_on Works count salt was (record now { disks = disks }) doors doors_now n) (sym same.0)
        (subst (λ (d : Disks). IsServeCall clock days goes_on Works count salt was (record now { disks = d }) doors doors_now ended.served) (sym same.1) call)
    by_words true unasked ends has = record {
      served = node_disks last;
      served_status = ended.served;
      call = call;
      whole = λ is. record { ends = ends refl is; has = λ honest. has refl is (kept honest is) salt; honesty = ended.honesty };
      early = ended.early;
    }

-- ---- words that couldn't be read

-- they name a server, so memory was wanting, and nothing was done
pub unread_server : {R : Type 0} (checkpoint : Bool) (clock : ℕ → Type 0) (days : ℕ) (goes_on : Bool) (Works : Open → Worker R → Type 0) (count : R → ℕ) (words : List (List ℕ)) (fault : WordsFault) (salt : ℕ) (was now : Outside) (link link_now : Exchanges) (doors : List R) (status : ℕ) → (fault ≡ BadWords → form_in words ≡ None)
    → command_in words ≡ Some Serve → ((task : Option Task) (days : ℕ) → IsNamed task days (Err fault) → IsCall clock days task salt was now link link_now status) → (status ≡ 2 → IsBadWords (Err fault)) → IsServer checkpoint clock days goes_on Works count salt was now doors doors status
unread_server checkpoint clock days goes_on Works count words BadWords salt was now link link_now doors status bad serves done usage = let other : None ≡ Some Serve = sym (no_form words (bad refl)) ∙ serves in absurd cc
unread_server checkpoint clock days goes_on Works count words WordsUnread salt was now link link_now doors status bad serves done usage = by_end (((done None days tt).carried_out (λ is. absurd cc) (λ is. absurd cc) (λ is. absurd cc)).unnamed refl)
  where
    by_end : (status ≡ 2) ⊎ ((status ≡ 7) × (now ≡ was)) → IsServer checkpoint clock days goes_on Works count salt was now doors doors status
    by_end (inl two) = let other = usage two in absurd cc
    by_end (inr (seven, same)) =
        subst (λ (n : ℕ). IsServer checkpoint clock days goes_on Works count salt was now doors doors n) (sym seven)
        (subst (λ (o : Outside). IsServer checkpoint clock days goes_on Works count salt was o doors doors 7) (sym same) (unserved_server checkpoint clock days goes_on Works count salt was doors))

-- ---- no status 2

pub no_two_server : {R : Type 0} (checkpoint : Bool) (clock : ℕ → Type 0) (days : ℕ) (goes_on : Bool) (Works : Open → Worker R → Type 0) (count : R → ℕ) (salt : ℕ) (was now : Outside) (doors doors_now : List R) (status : ℕ) → IsServer checkpoint clock days goes_on Works count salt was now doors doors_now status → status ≢ 2
no_two_server false clock days goes_on Works count salt was now doors doors_now status call two = no_two_serve status call.known two
no_two_server true clock days goes_on Works count salt was now doors doors_now status made two = by_status made.served_status refl
  where
    by_status : (n : ℕ) → made.served_status ≡ n → ⊥
    by_status zero is = ended_usage made.served now.disks made.served_status status (made.whole is).ends (omega (arith, is)) two
    by_status (suc n) is = no_two_serve made.served_status made.call.known (sym (made.early (λ none. absurd (omega (arith, none, is)))).0 ∙ two)
