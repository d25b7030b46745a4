-- A server's call from its stages.
use Rattle.std.proofs.Common.{◌≡◌, ◌≢◌, inl, inr, ℕ, List, [], Bool, true, false, sym, ◌∙◌, ap, ap₂, subst}
use Rattle.std.specs.Prelude.{is_some}
use Rattle.sb_outside.specs.declared.disk.Disk.{Ghosts as Disk}
use Rattle.sb_machine.specs.declared.state.State.{State}
use Rattle.sb_journal.specs.Disks.{Disks, disks_of, AreHonest, SameHonesty}
use Rattle.sb_node.specs.declared.node.Node.{Node}
use Rattle.sb_node.specs.Nodes.{node_disk_a, node_disk_b, node_disks, node_state, node_stopped, IsKept}
use Rattle.sb_node.specs.Recovery.{Recovers, recovered_on}
use Rattle.sb_node.specs.Serving.{node_goes_on, opened_disks, origin_of, StandsFor}
use Rattle.sb_node.proofs.Standing.{same_found}
use Rattle.sb_desk.specs.Desks.{Open}
use Rattle.sb_desk.specs.declared.report.Origin.{Origin}
use Rattle.sb_desk.specs.declared.report.Report.{Report}
use Rattle.sb_engine.specs.declared.summary.Summary.{Summary}
use Rattle.sb_server.specs.Serves.{Worker}
use Rattle.sb_server.specs.declared.ending.ServeEnding.{ServeEnding}
use Rattle.sb_app.specs.Checkpoints.{EndsCheckpoint, HasCheckpoint}
use Rattle.sb_app.specs.Checks.{IsLineTold}
use Rattle.sb_app.specs.Held.{IsJumpStatus, IsOvertaken}
use Rattle.sb_app.specs.Jumps.{IsSettled}
use Rattle.sb_app.specs.Openings.{IsOpened}
use Rattle.sb_app.specs.Outside.{Output, Outside}
use Rattle.sb_app.specs.Servings.{report_line, serve_status, IsServeCall, IsServer}
use Rattle.sb_app.specs.Stages.{DeskServed, IsHeldBack, MayNotServe, MayServe, ServerEnded}
use Rattle.sb_app.specs.declared.jump.Jump.{Jump}
use Rattle.sb_app.proofs.Ends.{ended_server, failed_server, not_served, served_runs, unmade}
use Rattle.sb_app.proofs.Servings.{IsClosed, Tells, closed_node, jumped_call, served_call, unserved_call}
use Rattle.sb_app.proofs.Whole.{kept_recovers}

-- ---- opened

-- a node that was opened, and whose moment isn't too far behind the clock, may serve
pub may_serve : {D : Type 0} {B : Disk D} (clock : ℕ → Type 0) (days salt : ℕ) (was : Disks) (n : Node D B) (summary : Summary) → IsOpened (IsKept n) salt was (node_disks n) (node_state n) → StandsFor n (node_state n) [] → opened_disks n ≡ node_disks n → summary.now ≡ (node_state n).now → IsSettled clock days summary.now
    → MayServe clock days salt was n
may_serve clock days salt was n summary opened stands origin moment settled = record {
  opened = opened;
  stands = stands;
  origin = origin;
  settled = subst (λ (m : ℕ). IsSettled clock days m) moment settled;
}

-- where it is too far behind, it was held back
pub held_back : {D : Type 0} {B : Disk D} (clock : ℕ → Type 0) (days salt : ℕ) (was : Disks) (out out_told out_after : Output) (n : Node D B) (summary : Summary) (jump : Jump) (a b : D) (status : ℕ) → IsOpened (IsKept n) salt was (node_disks n) (node_state n) → out_told ≡ out → summary.now ≡ (node_state n).now → IsOvertaken clock days summary.now jump
    → IsJumpStatus jump out_told out_after status → a ≡ node_disk_a n → b ≡ node_disk_b n → MayNotServe clock days salt was (disks_of B a b) out out_after status
held_back {D} {B} clock days salt was out out_told out_after n summary jump a b status opened unsaid moment far told is_a is_b =
    subst (λ (d : Disks). MayNotServe clock days salt was d out out_after status) there (inr held)
  where
    there : node_disks n ≡ disks_of B a b
    there i = disks_of B (sym is_a i) (sym is_b i)

    held : IsHeldBack clock days salt was (node_disks n) out out_after status
    held = record {
      start = node_state n;
      opened = record {
        found = opened.found;
        opens = opened.opens;
        holds = opened.holds;
        safe = λ honest. kept_recovers n salt (opened.safe honest);
        consistent = opened.consistent;
        quiet = opened.quiet;
        honesty = opened.honesty;
      };
      jump = jump;
      far = subst (λ (m : ℕ). IsOvertaken clock days m jump) moment far;
      told = subst (λ (o : Output). IsJumpStatus jump o out_after status) unsaid told;
    }

-- none may serve
pub unopened_server : {R : Type 0} (checkpoint : Bool) (clock : ℕ → Type 0) (days : ℕ) (goes_on : Bool) (Works : Open → Worker R → Type 0) (count : R → ℕ) (salt : ℕ) (was : Outside) (disks : Disks) (output : Output) (doors : List R) (status : ℕ) → MayNotServe clock days salt was.disks disks was.output output status
    → IsServer checkpoint clock days goes_on Works count salt was (record was { output = output; disks = disks }) doors doors status
unopened_server checkpoint clock days goes_on Works count salt was disks output doors status (inl fails) = failed_server checkpoint clock days goes_on Works count salt was disks output doors fails.0 status fails.1
unopened_server checkpoint clock days goes_on Works count salt was disks output doors status (inr held) =
    let call = jumped_call clock days goes_on Works count (Recovers (recovered_on disks salt) held.start) salt was disks output doors held.start held.jump status held.opened (λ safe. safe) held.far held.told in
    unmade checkpoint clock days goes_on Works count salt was (record was { output = output; disks = disks }) doors doors status (not_served held.jump was.output output status held.told) call

-- ---- served

-- memory was wanting for a desk
pub deskless_server : {R D : Type 0} {B : Disk D} (checkpoint : Bool) (clock : ℕ → Type 0) (days : ℕ) (goes_on : Bool) (Works : Open → Worker R → Type 0) (count : R → ℕ) (salt : ℕ) (was : Outside) (doors doors_now : List R) (n : Node D B) (a b : D) → MayServe clock days salt was.disks n → doors_now ≡ doors → a ≡ node_disk_a n → b ≡ node_disk_b n
    → IsServer checkpoint clock days goes_on Works count salt was (record was { disks = disks_of B a b }) doors doors_now 7
deskless_server {R} {D} {B} checkpoint clock days goes_on Works count salt was doors doors_now n a b may same is_a is_b =
    subst (λ (ds : List R). IsServer checkpoint clock days goes_on Works count salt was (record was { disks = disks_of B a b }) doors ds 7) (sym same)
    (subst (λ (d : Disks). IsServer checkpoint clock days goes_on Works count salt was (record was { disks = d }) doors doors 7) there
    (unmade checkpoint clock days goes_on Works count salt was (record was { disks = node_disks n }) doors doors 7 (λ is. absurd cc) (unserved_call clock days goes_on Works count (IsKept n) salt was (node_disks n) doors (node_state n) may.opened (kept_recovers n salt))))
  where
    there : node_disks n ≡ disks_of B a b
    there i = disks_of B (sym is_a i) (sym is_b i)

-- The doors were served over a node that is the opened one but for when it goes on with new files.
pub served_server : {R D : Type 0} {B : Disk D} (checkpoint : Bool) (clock : ℕ → Type 0) (days : ℕ) (goes_on : Bool) (Works : Open → Worker R → Type 0) (count : R → ℕ) (salt : ℕ) (was now : Outside) (doors doors_now : List R) (n first last : Node D B) (report : Report) (ending : ServeEnding) (status : ℕ)
    → ((desk : Open) → Tells (Works desk) count) → MayServe clock days salt was.disks n → node_goes_on first ≡ goes_on → node_state first ≡ node_state n → opened_disks first ≡ opened_disks n → now.input ≡ was.input
    → DeskServed Works first last doors doors_now report ending → ServerEnded checkpoint ending report last now.disks was.output now.output status → IsServer checkpoint clock days goes_on Works count salt was now doors doors_now status
served_server {R} {D} {B} checkpoint clock days goes_on Works count salt was now doors doors_now n first last report ending status tells may goes_on_is state_is found_is unread served ended =
    ended_server checkpoint clock days goes_on Works count salt was now doors doors_now ending report last now.disks status ended call kept
  where
    stopped : Bool
    stopped = is_some (node_stopped last)

    by_itself : node_goes_on last ≡ goes_on
    by_itself = ap (λ (o : Origin). o.goes_on) served.same ∙ goes_on_is

    found : opened_disks first ≡ node_disks n
    found = found_is ∙ may.origin

    from_here : opened_disks last ≡ node_disks n
    from_here = same_found (node_goes_on last) (node_goes_on first) (opened_disks first) (opened_disks last) served.same ∙ found

    start : served.desk.start ≡ node_state n
    start = served.start ∙ state_is

    opening : IsOpened (IsKept n) salt was.disks (node_disks n) served.desk.start
    opening = subst (IsOpened (IsKept n) salt was.disks (node_disks n)) (sym start) may.opened

    settled : IsSettled clock days served.desk.start.now
    settled = subst (λ (s : State). IsSettled clock days s.now) (sym start) may.settled

    closed : IsClosed goes_on salt served.desk.start served.history (node_disks n) (node_disks last) stopped
    closed =
        subst (λ (b : Bool). IsClosed b salt served.desk.start served.history (node_disks n) (node_disks last) stopped) by_itself
        (subst (λ (d : Disks). IsClosed (node_goes_on last) salt served.desk.start served.history d (node_disks last) stopped) from_here (closed_node last salt served.desk.start served.history served.stands))

    origin : served.desk.origin ≡ origin_of goes_on (node_disks n)
    origin = served.origin ∙ ap₂ (λ (b : Bool) (d : Disks). origin_of b d) goes_on_is found

    call : IsServeCall clock days goes_on Works count salt was (record now { disks = node_disks last }) doors doors_now ended.served
    call = subst (IsServeCall clock days goes_on Works count salt was (record now { disks = node_disks last }) doors doors_now) (sym ended.says)
        (served_call clock days goes_on Works count (IsKept n) salt was (record now { disks = node_disks last }) (node_disks n) doors doors_now served.history served.desk served.passes served.passes_now ending report stopped ended.told (tells served.desk) opening settled origin served.worked served.counts closed ended.line unread)

    kept : AreHonest (node_disks last) → ended.served ≡ 0 → IsKept last
    kept honest is = served.stands.kept honest (served_runs (node_stopped last) ending ended.told (sym ended.says ∙ is))

-- ---- ended

-- the numbers were told of this node, which came to that one
pub server_ended : {D : Type 0} {B : Disk D} (checkpoint : Bool) (ending : ServeEnding) (report : Report) (last after : Node D B) (a b : D) (out out_after : Output) (told served status : ℕ) → IsLineTold (report_line report) out out_after told → served ≡ serve_status (is_some (node_stopped last)) ending told
    → (checkpoint ≡ false → (status ≡ served) × (node_disks after ≡ node_disks last))
    → (served ≢ 0 → (status ≡ served) × (node_disks after ≡ node_disks last))
    → (checkpoint ≡ true → served ≡ 0 → EndsCheckpoint (node_disks last) (node_disks after) served status)
    → (checkpoint ≡ true → served ≡ 0 → IsKept last → (s : ℕ) → HasCheckpoint s (node_disks last) (node_disks after) served status)
    → SameHonesty (node_disks last) (node_disks after)
    → a ≡ node_disk_a after → b ≡ node_disk_b after
    → ServerEnded checkpoint ending report last (disks_of B a b) out out_after status
server_ended {D} {B} checkpoint ending report last after a b out out_after told served status line says unasked early ends has honesty is_a is_b =
    subst (λ (d : Disks). ServerEnded checkpoint ending report last d out out_after status) there
    (record { told = told; line = line; served = served; says = says; unasked = unasked; early = early; ends = ends; has = has; honesty = honesty })
  where
    there : node_disks after ≡ disks_of B a b
    there i = disks_of B (sym is_a i) (sym is_b i)
