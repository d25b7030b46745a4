-- A worker as far as it has come.
use Rattle.std.specs.Prelude.{◌≡◌, ℕ, ◌+◌, ◌≤◌, List, length, Bool, true, false, Option, Some, None}
use Rattle.sb_desk.specs.Desks.{Sitting}
use Rattle.sb_desk.specs.Lists.{Each}
use Rattle.sb_outside.specs.Doors.{GivesInOrder}
use Rattle.sb_outside.specs.Streams.{Stays}
use Rattle.sb_outside.specs.declared.conn.Conn.{Ghosts as Conn}
use Rattle.sb_outside.specs.declared.door.Door.{Ghosts as Door}
use Rattle.sb_outside.specs.declared.door.Given.TheVariants.{One}
use Rattle.sb_rest.specs.declared.access.Access.{Access}
use Rattle.sb_server.specs.declared.limits.Limits.{Limits}
use Rattle.sb_server.specs.declared.seat.Seat.{Seat}
use Rattle.sb_server.specs.declared.stage.Guest.{Guest}
use Rattle.sb_server.specs.declared.stage.Stage.{Stage}
use Rattle.sb_server.specs.declared.stage.Stage.TheVariants.{Wants, Serves, Over}
use Rattle.sb_server.specs.declared.work.Stop.{Stop}
use Rattle.sb_server.specs.Doings.{IsDoingAt, IsFree, IsInOrderAt, sitting_of}
use Rattle.sb_server.specs.Talks.{Here, here_with, start_of}
use Rattle.sb_server.specs.Times.{IsSince}
use Rattle.sb_server.specs.Works.{ServedConnection, DoorServed, ConnectionServed, GoesOn, StopsBy}

-- a worker that has a connection has it of its door, and the call of what waits is in order; one that has none has posted nothing
abbrev pub IsSound : {X : Type 0} → Seat → Stage X → ℕ → Type 0
IsSound seat (Wants left) out = IsFree seat
IsSound seat (Serves left guest) out = (1 ≤ out) × IsInOrderAt seat guest.doing
IsSound seat (Over stop) out = IsFree seat

-- where a worker stands behind a connection, if it may serve so many more
abbrev pub stage_behind : {X : Type 0} → Option Stop → ℕ → Stage X
stage_behind None left = Wants left
stage_behind (Some stop) left = Over stop

-- why it ended, as its worker says, where that one is over
abbrev pub stop_at : {X : Type 0} → Stage X → Stop → Stop
stop_at (Over stop) other = stop
stop_at (Wants left) other = other
stop_at (Serves left guest) other = other

-- whether it has a connection
abbrev pub has_conn : {X : Type 0} → Stage X → Bool
has_conn (Over stop) = false
has_conn (Wants left) = false
has_conn (Serves left guest) = true

-- whether it serves no more
abbrev pub is_over : {X : Type 0} → Stage X → Bool
is_over (Over stop) = true
is_over (Wants left) = false
is_over (Serves left guest) = false

-- where the connection stands that is being served
abbrev pub here_of : {X : Type 0} → Conn X → Sitting → Guest X → Here
here_of conn pass guest = here_with conn pass guest.inbox guest.conn

-- By the ghost values of a door and of its connections, within limits of time by a clock that may read what `IsReading` holds of: a
-- worker serves `most` connections; it began with the pass p at the door d.
module _ {D X : Type 0} (door : Door D X) (conn : Conn X) (IsReading : ℕ → Type 0) (access : Access) (limits : Limits) (most : ℕ) (p : Sitting) (d : D) where
  -- it wants a connection: these were served, one after the other, and it goes on behind each
  pub record IsWanting (q : Sitting) (e : D) (left : ℕ) : Type 0 where
    pub connections : List (ServedConnection X)
    pub served : DoorServed door (ConnectionServed conn IsReading access limits) p d q e connections
    pub on : Each GoesOn connections
    pub few : length connections + left ≡ most
    pub count_is : door.count e ≡ door.count d
    pub out_is : door.out e ≡ door.out d

  -- it serves a connection, the first of those that the door had left behind these, as it stood then (`before`)
  pub record IsServing (seat : Seat) (e : D) (left : ℕ) (guest : Guest X) : Type 0 where
    pub connections : List (ServedConnection X)
    pub mid : Sitting
    pub before : D
    pub first : X
    pub served : DoorServed door (ConnectionServed conn IsReading access limits) p d mid before connections
    pub gives : GivesInOrder (door.left before) (door.left e) (One first)
    pub stays : Stays (door.taken before) (door.taken e)
    pub on : Each GoesOn connections
    pub few : length connections + left + 1 ≡ most
    pub count_is : door.count e ≡ door.count d
    pub out_is : door.out e ≡ door.out d + 1
    pub doing : IsDoingAt IsReading (start_of conn access limits mid first) (here_of conn (sitting_of seat) guest) seat guest.doing
    pub since : IsSince IsReading guest.since

  -- it is over
  pub record IsOver (q : Sitting) (e : D) (stop : Stop) : Type 0 where
    pub connections : List (ServedConnection X)
    pub served : DoorServed door (ConnectionServed conn IsReading access limits) p d q e connections
    pub stops : StopsBy stop most connections (door.ended e) (door.count d) (door.count e)
    pub out_is : door.out e ≡ door.out d

  -- it is where its stage says, over this door with this pass, or with a call that is posted with it
  abbrev pub IsAt : Seat → D → Stage X → Type 0
  IsAt seat e (Wants left) = IsWanting (sitting_of seat) e left
  IsAt seat e (Serves left guest) = IsServing seat e left guest
  IsAt seat e (Over stop) = IsOver (sitting_of seat) e stop
