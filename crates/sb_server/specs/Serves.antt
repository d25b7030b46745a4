-- Workers at several doors (listening sockets).
use Rattle.std.specs.Prelude.{◌≡◌, ◌⊎◌, ℕ, List, [], ◌∷◌, ◌++◌, map, Bool, true, false, Option, Some, None, if◌then◌else◌}
use Rattle.std.specs.List.{list_all, list_any}
use Rattle.sb_desk.specs.Desks.{Open, Sitting, IsOf}
use Rattle.sb_desk.specs.Lists.{Each}
use Rattle.sb_outside.specs.declared.conn.Conn.{Ghosts as Conn}
use Rattle.sb_outside.specs.declared.door.Door.{Ghosts as Door}
use Rattle.sb_rest.specs.declared.access.Access.{Access}
use Rattle.sb_server.specs.declared.limits.Limits.{Limits}
use Rattle.sb_server.specs.declared.ending.ServeEnding.{ServeEnding}
use Rattle.sb_server.specs.declared.ending.ServeEnding.TheVariants.{Done, DoorFault, OutOfMemory}
use Rattle.sb_server.specs.declared.job.Job.{Job}
use Rattle.sb_server.specs.declared.seat.Seat.{Seat}
use Rattle.sb_server.specs.declared.seat.Seat.TheVariants.{Free, Posts}
use Rattle.sb_server.specs.declared.stage.Stage.TheVariants.{Wants}
use Rattle.sb_server.specs.declared.work.Stop.{Stop}
use Rattle.sb_server.specs.declared.work.Stop.TheVariants.{Fault, Stopped, OutOfMemory as NoMemory}
use Rattle.sb_server.specs.Doings.{sitting_of}
use Rattle.sb_server.specs.Stages.{IsAt, IsSound, stop_at, is_over}
use Rattle.sb_server.specs.Works.{ServedConnection, DoorServed, StopsBy, is_stop}

-- a worker: its pass and its door, before and after it worked, and why it ended
pub record Worker (D : Type 0) : Type 0 where
  pub pass : Sitting
  pub door : D
  pub pass_after : Sitting
  pub door_after : D
  pub stop : Stop

-- What a worker did: it served connections of its door so, one after the other. It stopped with the namespace only where its pass has
-- seen that.
pub record WorkerDid {D X : Type 0} (door : Door D X) (ServedSo : Sitting → ServedConnection X → Sitting → Type 0) (desk : Open) (most : ℕ) (w : Worker D) : Type 0 where
  pub of : IsOf desk w.pass_after
  pub connections : List (ServedConnection X)
  pub served : DoorServed door ServedSo w.pass w.door w.pass_after w.door_after connections
  pub stops : StopsBy w.stop most connections (door.ended w.door_after) (door.count w.door) (door.count w.door_after)
  pub out_is : door.out w.door_after ≡ door.out w.door
  pub stopped : w.stop ≡ Stopped → list_any is_stop w.pass_after.seen ≡ true

-- ---- one job

-- the worker has a pass of the desk, and has served nobody yet of so many
pub record HasPass {D X : Type 0} (desk : Open) (most : ℕ) (job : Job D X) : Type 0 where
  pub pass : Sitting
  pub has : job.seat ≡ Some (Free pass)
  pub of : IsOf desk pass
  pub fresh : job.stage ≡ Wants most

-- its worker did this
pub record Did {D X : Type 0} (WorkedSo : Worker D → Type 0) (old new : Job D X) : Type 0 where
  pub worker : Worker D
  pub had : old.seat ≡ Some (Free worker.pass)
  pub at : old.door ≡ worker.door
  pub has : new.seat ≡ Some (Free worker.pass_after)
  pub left : new.door ≡ worker.door_after
  pub stop : new.stop ≡ worker.stop
  pub over : is_over new.stage ≡ true
  pub does : WorkedSo worker

-- a worker that goes on: a pass of the desk, or a call that is posted with one, and its door's connection where it has one
pub record IsAtWork {D X : Type 0} (out : D → ℕ) (desk : Open) (job : Job D X) : Type 0 where
  pub seat : Seat
  pub has : job.seat ≡ Some seat
  pub of : IsOf desk (sitting_of seat)
  pub sound : IsSound seat job.stage (out job.door)

-- a worker as far as it has come, from how it began
pub record HasCome {D X : Type 0} (door : Door D X) (conn : Conn X) (IsReading : ℕ → Type 0) (access : Access) (limits : Limits) (most : ℕ) (began now : Job D X) : Type 0 where
  pub pass : Sitting
  pub seat : Seat
  pub had : began.seat ≡ Some (Free pass)
  pub has : now.seat ≡ Some seat
  pub at : IsAt door conn IsReading access limits most pass began.door seat now.door now.stage
  pub stop_is : now.stop ≡ stop_at now.stage now.stop

-- each worker is over
abbrev pub are_over : {D X : Type 0} → List (Job D X) → Bool
are_over jobs = list_all (λ job. is_over job.stage) jobs

-- ---- all jobs, which stand the last door first

-- a worker is at the door
abbrev pub IsManned : {D X : Type 0} → ℕ → Job D X → Type 0
IsManned most job = (pass : Sitting) × (job.seat ≡ Some (Free pass)) × (job.stage ≡ Wants most)

-- the pass, where there is one, before these
abbrev pub and_pass : Option Seat → List Sitting → List Sitting
and_pass None passes = passes
and_pass (Some (Free pass)) passes = pass ∷ passes
and_pass (Some (Posts sent)) passes = passes

-- the passes of their workers, in the order of the doors
abbrev pub passes_in : {D X : Type 0} → List (Job D X) → List Sitting
passes_in [] = []
passes_in (job ∷ jobs) = passes_in jobs ++ and_pass job.seat []

-- the doors, in their order
abbrev pub doors_in : {D X : Type 0} → List (Job D X) → List D
doors_in [] = []
doors_in (job ∷ jobs) = doors_in jobs ++ job.door ∷ []

-- how each worker ended
abbrev pub stops_in : {D X : Type 0} → List (Job D X) → List Stop
stops_in jobs = map (λ job. job.stop) jobs

-- ---- how serving ended

-- a worker ended since a call failed
abbrev pub is_fault : Stop → Bool
is_fault Fault = true
is_fault _ = false

-- a worker ended for want of memory
abbrev pub is_lost : Stop → Bool
is_lost NoMemory = true
is_lost _ = false

-- a fault of a door, else want of memory, where a worker ended for that
abbrev pub serve_ending : List Stop → ServeEnding
serve_ending stops = if list_any is_fault stops then DoorFault else (if list_any is_lost stops then OutOfMemory else Done)

-- Each door had a worker with a pass of its own; the passes before these stayed as they were.
pub record AllServed {D : Type 0} (WorkedSo : Worker D → Type 0) (passes passes_after : List Sitting) (doors doors_after : List D) (ending : ServeEnding) : Type 0 where
  pub spare : List Sitting
  pub workers : List (Worker D)
  pub passes_are : passes ≡ spare ++ map (λ w. w.pass) workers
  pub passes_then : passes_after ≡ spare ++ map (λ w. w.pass_after) workers
  pub doors_are : doors ≡ map (λ w. w.door) workers
  pub doors_then : doors_after ≡ map (λ w. w.door_after) workers
  pub each : Each WorkedSo workers
  pub ending_is : ending ≡ serve_ending (map (λ w. w.stop) workers)

-- all were served, or there was no memory to begin
abbrev pub AllServedOrNone : {D : Type 0} → (WorkedSo : Worker D → Type 0) → (passes passes_after : List Sitting) → (doors doors_after : List D) → ServeEnding → Type 0
AllServedOrNone WorkedSo passes passes_after doors doors_after ending =
    AllServed WorkedSo passes passes_after doors doors_after ending ⊎ ((ending ≡ OutOfMemory) × (passes_after ≡ passes) × (doors_after ≡ doors))
