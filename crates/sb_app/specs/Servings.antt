-- What a server's call does: the connections of its doors are served over one history, whose numbers are told at the end; and then a
-- checkpoint is made, where that is asked for.
use Rattle.std.specs.Prelude.{◌≡◌, ◌≢◌, ◌⊎◌, ℕ, ◌*◌, List, [], ◌∷◌, ◌++◌, codes, length, map, max, nat_lt, Bool, true, false}
use Rattle.std.specs.Fmt.{decimal}
use Rattle.sb_outside.specs.Causes.{Rose, RoseByOne}
use Rattle.sb_outside.specs.declared.conn.Conn.{Ghosts as Conn}
use Rattle.sb_outside.specs.declared.door.Door.{Ghosts as Door}
use Rattle.sb_machine.specs.History.{after_entries, fresh_log, state_after, stops}
use Rattle.sb_machine.specs.declared.history.Entry.{Entry}
use Rattle.sb_machine.specs.declared.history.Entry.TheVariants.{Ticked, Answered as Replied}
use Rattle.sb_machine.specs.declared.state.State.{State}
use Rattle.sb_journal.specs.Disks.{Disks, AreHonest, KeepFound, HaveFailed, AreQuiet, SameHonesty}
use Rattle.sb_node.specs.Nodes.{IsDurable}
use Rattle.sb_node.specs.Recovery.{recovered_on}
use Rattle.sb_node.specs.Groups.{FollowByGroups}
use Rattle.sb_node.specs.Serving.{origin_of, IsLeft}
use Rattle.sb_node.specs.Steps.{is_spared}
use Rattle.sb_desk.specs.Desks.{IsKeptIn, IsNew, Open, Sitting, below}
use Rattle.sb_desk.specs.Entries.{IsReport}
use Rattle.sb_desk.specs.Lists.{Each, HaveSeatsBelow}
use Rattle.sb_desk.specs.Spared.{Spares}
use Rattle.sb_desk.specs.declared.report.Report.{Report}
use Rattle.sb_rest.specs.declared.access.Access.{Access}
use Rattle.sb_server.specs.Serves.{AllServedOrNone, Worker, WorkerDid}
use Rattle.sb_server.specs.Works.{ConnectionServed}
use Rattle.sb_server.specs.declared.limits.Limits.{Limits}
use Rattle.sb_server.specs.declared.ending.ServeEnding.{ServeEnding}
use Rattle.sb_server.specs.declared.ending.ServeEnding.TheVariants.{Done, DoorFault, OutOfMemory}
use Rattle.sb_words.specs.Words.{checkpoint_after_in, checkpoint_in, connections_in, idle_time_in, max_jump_in, request_time_in}
use Rattle.sb_app.specs.Backing.{IsBacked, IsChronicle, IsFound}
use Rattle.sb_app.specs.Checkpoints.{IsCheckpointed}
use Rattle.sb_app.specs.Checks.{IsLineTold}
use Rattle.sb_app.specs.Endings.{IsLineWritten, status_of_end}
use Rattle.sb_app.specs.Jumps.{jumps, jump_line, IsSettled}
use Rattle.sb_app.specs.Outside.{Outside}
use Rattle.sb_app.specs.Tops.{IsBroken, IsQuiet, IsRefused, IsUnopened}
use Rattle.sb_app.specs.declared.ending.RunEnd.{RunEnd}

-- ---- the limits of time

-- so many seconds for a request, and for a connection without one
abbrev pub limits_for : ℕ → ℕ → Limits
limits_for request_time idle_time = record { request_ms = request_time * 1000; idle_ms = idle_time * 1000 }

-- as words name them; 0 where they are no form
abbrev pub limits_in : List (List ℕ) → Limits
limits_in words = limits_for (request_time_in words) (idle_time_in words)

-- ---- the report and the status

-- the numbers of a history, keys in byte order
abbrev pub report_line : Report → List ℕ
report_line r =
    codes "{\"changing\":" ++ (decimal r.changing
    ++ (codes ",\"entries\":" ++ (decimal r.entries
    ++ (codes ",\"ok\":\"report\",\"refused\":" ++ (decimal r.refused ++ codes "}\n")))))

-- The first that came: a disk failed, a door failed, a worker wanted memory; else what became of the report: 0, 4 or 7.
abbrev pub serve_status : (has_stopped : Bool) → ServeEnding → (told : ℕ) → ℕ
serve_status true ending told = 5
serve_status false DoorFault told = 8
serve_status false OutOfMemory told = 7
serve_status false Done told = told

-- a pass for each door, and one at least
abbrev pub passes_for : ℕ → ℕ
passes_for doors = max doors 1

-- ---- causes

-- behind this history the namespace acts no more
abbrev pub has_stopped : State → List Entry → Bool
has_stopped start h = (after_entries (fresh_log start) h).stopped

-- no answer of it says so
abbrev pub NoneStops : List Entry → Type 0
NoneStops [] = Unit {0}
NoneStops (Ticked seat t ∷ es) = NoneStops es
NoneStops (Replied seat reading call answer ∷ es) = (stops answer ≡ false) × NoneStops es

-- the count of faults of one of these doors rose
abbrev pub HasDoorRisen : {R : Type 0} → (R → ℕ) → (doors doors_now : List R) → Type 0
HasDoorRisen count [] doors_now = ⊥
HasDoorRisen count (d ∷ ds) [] = ⊥
HasDoorRisen count (d ∷ ds) (e ∷ es) = Rose (count d) (count e) ⊎ HasDoorRisen count ds es

-- ---- the call

-- The doors were served over one history, from the state that the disks stood for, a consistent one: each door by a worker with a pass
-- of its own (`serves` says what was read and written). What a pass has seen is a front of that history with all entries of its seat,
-- and no other seat has any. The history is legal, so it has the laws; none of its calls that is spared was answered with want of memory;
-- its numbers were told; and what a crash leaves of the disks leads to
-- the state behind it, or to that with the events which a failed disk left undecided. By `goes_on` the server makes checkpoints by itself.
pub record IsServed {R : Type 0} (reads : ℕ → Type 0) (days : ℕ) (goes_on : Bool) (WorkedSo : Open → Worker R → Type 0) (salt : ℕ) (was now : Outside) (doors doors_now : List R) (status : ℕ) : Type 0 where
  pub start : State
  pub found : IsFound salt was.disks start
  -- the clock, read behind the opening, wasn't too far ahead
  pub settled : IsSettled reads days start.now
  pub history : List Entry
  pub chronicle : IsChronicle start history
  pub spares : Spares is_spared start history
  pub desk : Open
  pub begins : desk.start ≡ start
  pub many : desk.passes ≡ passes_for (length doors)
  pub passes : List Sitting
  pub passes_now : List Sitting
  pub fresh : Each (IsNew desk) passes
  pub seats : map (λ p. p.seat) passes ≡ below desk.passes
  pub seen : Each (IsKeptIn history) passes_now
  pub seated : HaveSeatsBelow desk.passes history
  pub ending : ServeEnding
  pub serves : AllServedOrNone (WorkedSo desk) passes passes_now doors doors_now ending
  pub report : Report
  pub counts : IsReport start history report
  pub told : ℕ
  pub line : IsLineTold (report_line report) was.output now.output told
  pub says : status ≡ serve_status (has_stopped start history) ending told
  -- at 0 no answer of it is that of a failed disk
  pub running : status ≡ 0 → NoneStops history
  -- What stood there when the journal was open, which leads to the first state; a crash before that leaves what was found. No call of a
  -- disk had failed.
  pub ready : Disks
  pub origin : desk.origin ≡ origin_of goes_on ready
  pub opens : AreHonest was.disks → KeepFound salt was.disks ready
  pub holds : AreHonest was.disks → IsDurable ready start
  pub unfailed : AreQuiet was.disks ready
  pub as_honest : SameHonesty was.disks ready
  -- a crash at any moment since leads to the state after a front of the history, which has all that was answered by then; in a checkpoint
  -- to just the state that is written
  pub follows : AreHonest was.disks → FollowByGroups goes_on start history ready now.disks
  -- unless a disk failed, the disks stand for the state behind the history, also after a crash
  pub backed : AreHonest was.disks → status ≢ 5 → IsBacked salt now.disks (state_after start history)
  -- whatever the status
  pub left : AreHonest was.disks → IsLeft now.disks start history

-- The namespace was opened and, for want of memory, not served.
pub record IsUnserved (salt : ℕ) (was now : Outside) : Type 0 where
  pub start : State
  pub found : IsFound salt was.disks start
  pub unsaid : now.output ≡ was.output
  pub backed : AreHonest was.disks → IsBacked salt now.disks start
  pub opens : AreHonest was.disks → KeepFound salt was.disks now.disks
  pub quiet : AreQuiet was.disks now.disks

-- The namespace was opened and, as the clock read too far ahead of its moment, not served: so much of the line that says so was written,
-- and the disks are as the opening left them.
pub record HasJumped (reads : ℕ → Type 0) (days salt : ℕ) (was now : Outside) : Type 0 where
  pub start : State
  pub found : IsFound salt was.disks start
  pub reading : ℕ
  pub read : reads reading
  pub far : jumps days start.now reading ≡ true
  pub told : IsLineWritten (jump_line start.now reading) was.output now.output
  pub backed : AreHonest was.disks → IsBacked salt now.disks start
  pub opens : AreHonest was.disks → KeepFound salt was.disks now.disks
  pub quiet : AreQuiet was.disks now.disks

-- the journal wasn't opened, or is damaged, or memory was wanting to serve it, or the clock is too far ahead of it, and no door was used; or
-- the doors were served
abbrev pub IsServing : {R : Type 0} → (reads : ℕ → Type 0) → (days : ℕ) → (goes_on : Bool) → (Open → Worker R → Type 0) → (salt : ℕ) → (was now : Outside) → (doors doors_now : List R) → (status : ℕ) → Type 0
IsServing reads days goes_on WorkedSo salt was now doors doors_now status =
    ((doors_now ≡ doors) × (end : RunEnd) × (status ≡ status_of_end end) × IsUnopened salt was now end)
    ⊎ ((doors_now ≡ doors) × (status ≡ 6) × IsRefused salt was now)
    ⊎ ((doors_now ≡ doors) × (status ≡ 7) × IsUnserved salt was now)
    ⊎ ((doors_now ≡ doors) × (status ≡ 14) × HasJumped reads days salt was now)
    ⊎ IsServed reads days goes_on WorkedSo salt was now doors doors_now status

-- all that makes a server end well once its workers have ended, but for memory, and for a clock that is too far ahead
pub record IsFreeServing {R : Type 0} (count : R → ℕ) (salt : ℕ) (was now : Outside) (doors doors_now : List R) : Type 0 where
  pub sound : IsBroken (recovered_on was.disks salt) → ⊥
  pub disk_quiet : HaveFailed was.disks now.disks → ⊥
  pub door_quiet : HasDoorRisen count doors doors_now → ⊥
  pub output_quiet : IsQuiet was.output.faults now.output.faults

-- the statuses that a server's call may end with
abbrev pub IsServeStatus : ℕ → Type 0
IsServeStatus status = (status ≡ 0) ⊎ (status ≡ 4) ⊎ (status ≡ 5) ⊎ (status ≡ 6) ⊎ (status ≡ 7) ⊎ (status ≡ 8) ⊎ (status ≡ 14)

-- A server's call, with this status. Each status other than 0 and 7 has its cause; the input isn't read.
pub record IsServeCall {R : Type 0} (reads : ℕ → Type 0) (days : ℕ) (goes_on : Bool) (WorkedSo : Open → Worker R → Type 0) (count : R → ℕ) (salt : ℕ) (was now : Outside) (doors doors_now : List R) (status : ℕ) : Type 0 where
  pub serving : IsServing reads days goes_on WorkedSo salt was now doors doors_now status
  pub known : IsServeStatus status
  pub write_fault : status ≡ 4 → RoseByOne was.output.faults now.output.faults
  pub write_quiet : status ≡ 0 → now.output.faults ≡ was.output.faults
  pub disk_fault : status ≡ 5 → HaveFailed was.disks now.disks
  pub disk_quiet : status ≢ 5 → AreQuiet was.disks now.disks
  pub broken : status ≡ 6 → IsRefused salt was now
  pub jump : status ≡ 14 → (doors_now ≡ doors) × HasJumped reads days salt was now
  pub door_fault : status ≡ 8 → HasDoorRisen count doors doors_now
  pub door_quiet : status ≢ 5 → status ≢ 8 → map count doors_now ≡ map count doors
  pub complete : AreHonest was.disks → IsFreeServing count salt was now doors doors_now → (status ≡ 0) ⊎ (status ≡ 7) ⊎ (status ≡ 14)
  pub unread : now.input ≡ was.input
  pub honesty : SameHonesty was.disks now.disks

-- ---- a server with a checkpoint at its end

-- The doors were served as any server does, which left the disks so, with this status. Then, where that was 0, a checkpoint was made, and
-- nothing more was read or written.
pub record IsCheckpointServer {R : Type 0} (reads : ℕ → Type 0) (days : ℕ) (goes_on : Bool) (WorkedSo : Open → Worker R → Type 0) (count : R → ℕ) (salt : ℕ) (was now : Outside) (doors doors_now : List R) (status : ℕ) : Type 0 where
  pub served : Disks
  pub served_status : ℕ
  pub call : IsServeCall reads days goes_on WorkedSo count salt was (record now { disks = served }) doors doors_now served_status
  pub whole : served_status ≡ 0 → IsCheckpointed salt served now.disks served_status status
  pub early : served_status ≢ 0 → (status ≡ served_status) × (now.disks ≡ served)

-- A server's call, by whether it makes a checkpoint at its end.
abbrev pub IsServer : {R : Type 0} → (checkpoint : Bool) → (reads : ℕ → Type 0) → (days : ℕ) → (goes_on : Bool) → (Open → Worker R → Type 0) → (count : R → ℕ) → (salt : ℕ) → (was now : Outside) → (doors doors_now : List R) → (status : ℕ) → Type 0
IsServer false reads days goes_on WorkedSo count salt was now doors doors_now status = IsServeCall reads days goes_on WorkedSo count salt was now doors doors_now status
IsServer true reads days goes_on WorkedSo count salt was now doors doors_now status = IsCheckpointServer reads days goes_on WorkedSo count salt was now doors doors_now status

-- A server's call as words name it: over doors and connections that tell this, by a clock that may read this, and to whom `access` lets in.
abbrev pub IsNamedServer : {R X : Type 0} → Door R X → Conn X → (reads : ℕ → Type 0) → Access → (words : List (List ℕ)) → (salt : ℕ) → (was now : Outside) → (doors doors_now : List R) → (status : ℕ) → Type 0
IsNamedServer door conn reads access words salt was now doors doors_now status =
    IsServer (checkpoint_in words) reads (max_jump_in words) (nat_lt 0 (checkpoint_after_in words)) (λ desk. WorkerDid door (ConnectionServed conn reads access (limits_in words)) desk (connections_in words)) door.count salt was now doors doors_now status
