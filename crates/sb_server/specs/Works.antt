-- What a worker did: the connections of its door, one after the other.
use Rattle.std.specs.Prelude.{◌≡◌, ◌≢◌, ◌≤◌, ℕ, List, [], ◌∷◌, ◌++◌, Bool, true, false, Option, Some, None, length}
use Rattle.sb_machine.specs.History.{stops}
use Rattle.sb_machine.specs.declared.history.Entry.{Entry}
use Rattle.sb_machine.specs.declared.history.Entry.TheVariants.{Ticked, Answered as Replied}
use Rattle.sb_desk.specs.Desks.{Sitting}
use Rattle.sb_desk.specs.Lists.{Each}
use Rattle.sb_outside.specs.Causes.{Rose}
use Rattle.sb_outside.specs.Streams.{Gains}
use Rattle.sb_outside.specs.declared.conn.Conn.{Ghosts as Conn}
use Rattle.sb_outside.specs.declared.door.Door.{Ghosts as Door}
use Rattle.sb_rest.specs.declared.access.Access.{Access}
use Rattle.sb_server.specs.declared.limits.Limits.{Limits}
use Rattle.sb_server.specs.declared.ending.Ending.{Ending}
use Rattle.sb_server.specs.declared.ending.Ending.TheVariants.{Closed, BadHead, HeadTooLarge, BodyTooLarge, Truncated, LongConnection, ReadFault, Gone, WriteFault, Slow, Stopped as NodeStopped, OutOfMemory as NoMemory}
use Rattle.sb_server.specs.declared.work.Stop.{Stop}
use Rattle.sb_server.specs.declared.work.Stop.TheVariants.{Enough, Ended, Fault, Stopped, OutOfMemory}
use Rattle.sb_server.specs.Reads.{Stand, IsReadTo}
use Rattle.sb_server.specs.Talks.{Ends, here_at, start_of}

-- a connection that was served: as it was given, as it was taken back, and how it ended
pub record ServedConnection (X : Type 0) : Type 0 where
  pub before : X
  pub after : X
  pub ending : Ending

-- It was served with this pass within these limits of time, by a clock that may read what `IsReading` holds of,
-- and it has left what wasn't read of it.
abbrev pub ConnectionServed : {X : Type 0} → Conn X → (IsReading : ℕ → Type 0) → Access → Limits → Sitting → ServedConnection X → Sitting → Type 0
ConnectionServed conn IsReading access limits p v q =
    (stand : Stand) × IsReadTo stand (conn.left v.after) × Ends IsReading (start_of conn access limits p v.before) (here_at conn q stand v.after) v.ending

-- connections were served one after the other, from pass to pass
abbrev pub ServedInTurn : {X : Type 0} → (Sitting → ServedConnection X → Sitting → Type 0) → Sitting → List (ServedConnection X) → Sitting → Type 0
ServedInTurn ServedSo p [] q = q ≡ p
ServedInTurn ServedSo p (v ∷ vs) q = (mid : Sitting) × ServedSo p v mid × ServedInTurn ServedSo mid vs q

-- what each was before
abbrev pub befores : {X : Type 0} → List (ServedConnection X) → List X
befores [] = []
befores (v ∷ vs) = v.before ∷ befores vs

-- what was left of each
abbrev pub afters : {X : Type 0} → List (ServedConnection X) → List X
afters [] = []
afters (v ∷ vs) = v.after ∷ afters vs

-- the door gave these, in order
abbrev pub HasGiven : {X : Type 0} → Option (List X) → List X → Option (List X) → Type 0
HasGiven None given after = Unit {0}
HasGiven (Some before) given after = (rest : List _) × (after ≡ Some rest) × (before ≡ given ++ rest)

-- These connections of a door were served so, one after the other, and taken back.
pub record DoorServed {D X : Type 0} (door : Door D X) (ServedSo : Sitting → ServedConnection X → Sitting → Type 0) (p : Sitting) (d : D) (q : Sitting) (e : D) (vs : List (ServedConnection X)) : Type 0 where
  pub in_turn : ServedInTurn ServedSo p vs q
  pub gave : HasGiven (door.left d) (befores vs) (door.left e)
  pub took : Gains (door.taken d) (door.taken e) (afters vs)

-- whether a worker ends behind a connection that ended so
abbrev pub stop_of : Ending → Option Stop
stop_of NodeStopped = Some Stopped
stop_of NoMemory = Some OutOfMemory
stop_of Closed = None
stop_of BadHead = None
stop_of HeadTooLarge = None
stop_of BodyTooLarge = None
stop_of Truncated = None
stop_of LongConnection = None
stop_of ReadFault = None
stop_of Gone = None
stop_of WriteFault = None
stop_of Slow = None

-- a worker goes on behind it
abbrev pub GoesOn : {X : Type 0} → ServedConnection X → Type 0
GoesOn v = stop_of v.ending ≡ None

-- the last one ended so, and none before it ended the worker
abbrev pub EndsAt : {X : Type 0} → List (ServedConnection X) → Ending → Type 0
EndsAt vs ending = (front : List (ServedConnection _)) × (v : ServedConnection _) × (vs ≡ front ++ v ∷ []) × (v.ending ≡ ending) × Each GoesOn front

-- why a worker ends
abbrev pub IsCause : {X : Type 0} → Stop → ℕ → List (ServedConnection X) → Bool → Type 0
IsCause Enough most vs ended = (length vs ≡ most) × Each GoesOn vs
IsCause Ended most vs ended = (ended ≡ true) × Each GoesOn vs
IsCause Fault most vs ended = Each GoesOn vs
IsCause Stopped most vs ended = EndsAt vs NodeStopped
IsCause OutOfMemory most vs ended = EndsAt vs NoMemory

-- a fault of the door is told, and nothing else is told as one
abbrev pub TellsFault : Stop → ℕ → ℕ → Type 0
TellsFault Enough before now = now ≡ before
TellsFault Ended before now = now ≡ before
TellsFault Fault before now = Rose before now
TellsFault Stopped before now = now ≡ before
TellsFault OutOfMemory before now = now ≡ before

-- a worker that serves so many connections at most ends so
pub record StopsBy {X : Type 0} (stop : Stop) (most : ℕ) (vs : List (ServedConnection X)) (ended : Bool) (before now : ℕ) : Type 0 where
  pub few : length vs ≤ most
  pub cause : IsCause stop most vs ended
  pub faults : TellsFault stop before now

-- a call was answered that the namespace acts no more
abbrev pub is_stop : Entry → Bool
is_stop (Ticked seat t) = false
is_stop (Replied seat reading call answer) = stops answer

-- behind one connection it goes on, or it ends, then or before it had one
abbrev pub MayStopBy : {X : Type 0} → Option Stop → List (ServedConnection X) → Bool → ℕ → ℕ → Type 0
MayStopBy None vs ended before now = (length vs ≡ 1) × Each GoesOn vs × (now ≡ before)
MayStopBy (Some stop) vs ended before now = (stop ≢ Enough) × StopsBy stop 1 vs ended before now
