-- A worker goes on.
use Rattle.std.proofs.Common.{◌≡◌, ℕ, ◌+◌, ◌-◌, ◌≤◌, List, [], ◌∷◌, ◌++◌, length, length-append, sym, refl, ap, ◌∙◌, subst, arith, Bool, true, Option, Some, None}
use Rattle.std.specs.Prelude.{IfSome}
use Rattle.sb_desk.specs.Desks.{Sitting}
use Rattle.sb_desk.specs.Lists.{Each}
use Rattle.sb_outside.specs.Causes.{RoseByOne}
use Rattle.sb_outside.specs.Doors.{GivesInOrder}
use Rattle.sb_outside.specs.Streams.{Gains, Stays}
use Rattle.sb_outside.specs.declared.conn.Conn.{Ghosts as Conn}
use Rattle.sb_outside.specs.declared.door.Door.{Ghosts as Door}
use Rattle.sb_outside.specs.declared.door.Given.TheVariants.{One, NoneYet, End}
use Rattle.sb_http.specs.Streams.{Requests}
use Rattle.sb_rest.specs.declared.access.Access.{Access}
use Rattle.sb_server.specs.declared.limits.Limits.{Limits}
use Rattle.sb_server.specs.declared.doing.Doing.TheVariants.{Reads}
use Rattle.sb_server.specs.declared.ending.Ending.{Ending}
use Rattle.sb_server.specs.declared.limits.Since.TheVariants.{Never}
use Rattle.sb_server.specs.declared.ending.Ending.TheVariants.{OutOfMemory as NoMemory}
use Rattle.sb_server.specs.declared.seat.Seat.{Seat}
use Rattle.sb_server.specs.declared.seat.Seat.TheVariants.{Free}
use Rattle.sb_server.specs.declared.stage.Guest.{Guest}
use Rattle.sb_server.specs.declared.stage.Stage.{Stage}
use Rattle.sb_server.specs.declared.stage.Stage.TheVariants.{Wants, Serves, Over}
use Rattle.sb_server.specs.declared.work.Stop.{Stop}
use Rattle.sb_server.specs.declared.work.Stop.TheVariants.{Enough, Ended, Fault, OutOfMemory}
use Rattle.sb_server.specs.Doings.{IsDoing, IsDoingAt, IsFree, sitting_of}
use Rattle.sb_server.specs.Reads.{Stand, IsReadTo, stand_of}
use Rattle.sb_server.specs.Stages.{here_of, IsWanting, IsServing, IsAt, IsSound, stage_behind, stop_at, is_over}
use Rattle.sb_server.specs.Talks.{Start, Ends, here_at, start_of}
use Rattle.sb_server.specs.Times.{IsSince}
use Rattle.sb_server.specs.Works.{ServedConnection, DoorServed, ConnectionServed, GoesOn, MayStopBy, stop_of}
use Rattle.sb_server.proofs.Turning.{talks_from, no_inbox, unread}
use Rattle.sb_server.proofs.Working.{served_none, served_on, served_one, served_failed, served_ended, each_both, may_end, may_fail, may_stop, stops_after, gone_more, gone_enough, GoneOn}

-- a stage that serves has one connection
pub serves_same : {X : Type 0} (left less : ℕ) (g h : Guest X) → ◌≡◌ {A = Stage X} (Serves left g) (Serves less h) → g ≡ h
serves_same {X = X} left less g h e = ap (λ (s : Stage X). elim s [ Serves n z ↦ z | Wants n ↦ g | Over stop ↦ g ]) e

-- a worker that is over is so for what it says
pub over_at : {X : Type 0} (stage : Stage X) (stop other : Stop) → is_over stage ≡ true → stop ≡ stop_at stage other → stage ≡ Over stop
over_at (Wants left) stop other e is = absurd cc
over_at (Serves left guest) stop other e is = absurd cc
over_at (Over s) stop other e is = ap Over (sym is)

-- and has posted nothing
pub free_over : {X : Type 0} (seat : Seat) (stage : Stage X) (out : ℕ) → is_over stage ≡ true → IsSound seat stage out → IsFree seat
free_over seat (Wants left) out e sound = sound
free_over seat (Serves left guest) out e sound = absurd cc
free_over seat (Over stop) out e sound = sound

-- a pass is one that has posted nothing
pub free_if : {T : Type 0} (o : Option T) (pass : Sitting) → IfSome o (λ _. IsFree (Free pass))
free_if None pass = tt
free_if (Some x) pass = (pass, refl)

-- nor has one that goes on behind a connection
pub sound_behind : (X : Type 0) (seat : Seat) (stop : Option Stop) (left out : ℕ) → IsFree seat → IsSound {X = X} seat (stage_behind stop left) out
sound_behind X seat None left out free = free
sound_behind X seat (Some stop) left out free = free

module _ {D X : Type 0} (door : Door D X) (conn : Conn X) (IsReading : ℕ → Type 0) (access : Access) (limits : Limits) (most : ℕ) (p : Sitting) (d : D) where
  abbrev At : Seat → D → Stage X → Type 0
  At seat e stage = IsAt door conn IsReading access limits most p d seat e stage

  abbrev Wanting : Sitting → D → ℕ → Type 0
  Wanting q e left = IsWanting door conn IsReading access limits most p d q e left

  abbrev Serving : Seat → D → ℕ → Guest X → Type 0
  Serving seat e left guest = IsServing door conn IsReading access limits most p d seat e left guest

  abbrev By : Sitting → ServedConnection X → Sitting → Type 0
  By = ConnectionServed conn IsReading access limits

  -- how it begins
  pub at_first : At (Free p) d (Wants most)
  at_first = record { connections = []; served = served_none door By p d; on = tt; few = omega arith; count_is = refl; out_is = refl }

  -- enough were served
  pub at_enough : (q : Sitting) (e : D) (left : ℕ) → Wanting q e left → left ≡ 0 → At (Free q) e (Over Enough)
  at_enough q e left w none = record {
    connections = w.connections;
    served = w.served;
    stops = gone_enough w.connections (length w.connections) most (door.ended e) (door.count d) (door.count e) (omega (arith, w.few, none)) (record { size = refl; on = w.on; count = w.count_is });
    out_is = w.out_is;
  }

  -- no connection was given
  ends_with : (q : Sitting) (e f : D) (left : ℕ) (stop : Stop) (r : Option Stop) → Wanting q e left → 1 ≤ left → DoorServed door By q e q f [] → r ≡ Some stop → MayStopBy {X = X} r [] (door.ended f) (door.count e) (door.count f) → door.out f ≡ door.out e → At (Free q) f (Over stop)
  ends_with q e f left stop r w some served is may same = record {
    connections = w.connections ++ [];
    served = served_on door By p q q d e f w.connections [] w.served served;
    stops = stops_after stop r most (length w.connections) w.connections [] (door.ended f) (door.count d) (door.count e) (door.count f) is may refl (omega (arith, w.few, some)) w.on w.count_is;
    out_is = same ∙ w.out_is;
  }

  pub at_fault : (q : Sitting) (e f : D) (left : ℕ) → Wanting q e left → 1 ≤ left → Stays (door.left e) (door.left f) → Stays (door.taken e) (door.taken f) → RoseByOne (door.count e) (door.count f) → door.out f ≡ door.out e → At (Free q) f (Over Fault)
  at_fault q e f left w some a b rose same = ends_with q e f left Fault (Some Fault) w some (served_failed door By q e f a b) refl (may_fail (door.ended f) (door.count e) (door.count f) (omega (arith, rose))) same

  pub at_end : (q : Sitting) (e f : D) (left : ℕ) → Wanting q e left → 1 ≤ left → GivesInOrder (door.left e) (door.left f) End → Stays (door.taken e) (door.taken f) → door.ended f ≡ true → door.count f ≡ door.count e → door.out f ≡ door.out e → At (Free q) f (Over Ended)
  at_end q e f left w some a b is counts same = ends_with q e f left Ended (Some Ended) w some (served_ended door By q e f a b) refl (may_end [] (door.ended f) (door.count e) (door.count f) refl is counts) same

  none_yet : (a b : Option (List X)) → GivesInOrder a b NoneYet → Stays a b
  none_yet None b g = tt
  none_yet (Some l) b g = g

  -- none was given yet
  pub at_none_yet : (q : Sitting) (e f : D) (left : ℕ) → Wanting q e left → GivesInOrder (door.left e) (door.left f) NoneYet → Stays (door.taken e) (door.taken f) → door.count f ≡ door.count e → door.out f ≡ door.out e → At (Free q) f (Wants left)
  at_none_yet q e f left w a b counts same = record {
    connections = w.connections ++ [];
    served = served_on door By p q q d e f w.connections [] w.served (served_failed door By q e f (none_yet (door.left e) (door.left f) a) b);
    on = each_both GoesOn w.connections [] w.on tt;
    few = omega (arith, length-append w.connections [], w.few);
    count_is = counts ∙ w.count_is;
    out_is = same ∙ w.out_is;
  }

  -- one was given
  pub at_one : (q : Sitting) (e f : D) (left : ℕ) (guest : Guest X) → Wanting q e left → 1 ≤ left → GivesInOrder (door.left e) (door.left f) (One guest.conn) → Stays (door.taken e) (door.taken f) → door.count f ≡ door.count e → door.out f ≡ door.out e + 1
      → Requests [] [] guest.inbox.incoming.left → ((l : Option (List ℕ)) → stand_of guest.inbox l ≡ record { left = guest.inbox.incoming.left; fed = 0; unfed = []; there = l }) → guest.doing ≡ Reads → guest.since ≡ Never → At (Free q) f (Serves (left - 1) guest)
  at_one q e f left guest w some a b counts more requests stand reading never = record {
    connections = w.connections;
    mid = q;
    before = e;
    first = guest.conn;
    served = w.served;
    gives = a;
    stays = b;
    on = w.on;
    few = omega (arith, w.few, some);
    count_is = counts ∙ w.count_is;
    out_is = omega (arith, more, w.out_is);
    doing = subst (λ (x : _). IsDoing IsReading (start_of conn access limits q guest.conn) (here_of conn q guest) x) (sym reading) (talks_from IsReading (start_of conn access limits q guest.conn) guest.inbox.incoming.left (stand_of guest.inbox (conn.left guest.conn)) requests (stand (conn.left guest.conn)));
    since = subst (IsSince IsReading) (sym never) tt;
  }

  -- a connection is over and was given back
  behind : (q r : Sitting) (e f : D) (left : ℕ) (vs : List (ServedConnection X)) (v : ServedConnection X) (o : D) (stop : Option Stop) → DoorServed door By p d q o vs → Each GoesOn vs → length vs + left + 1 ≡ most → door.count e ≡ door.count d
      → DoorServed door By q o r f (v ∷ []) → MayStopBy stop (v ∷ []) (door.ended f) (door.count e) (door.count f) → door.out f ≡ door.out d → At (Free r) f (stage_behind stop left)
  behind q r e f left vs v o stop served on few counts one may same = by stop refl
    where
      all : DoorServed door By p d r f (vs ++ v ∷ [])
      all = served_on door By p q r d o f vs (v ∷ []) served one

      by : (s : Option Stop) → stop ≡ s → At (Free r) f (stage_behind s left)
      by None is =
          let g : GoneOn (vs ++ v ∷ []) (length vs + 1) (door.count d) (door.count f) = gone_more stop vs (v ∷ []) (length vs) (door.ended f) (door.count d) (door.count e) (door.count f) is (record { size = refl; on = on; count = counts }) may in
          record { connections = vs ++ v ∷ []; served = all; on = g.on; few = omega (arith, g.size, few); count_is = g.count; out_is = same }
      by (Some s) is = record { connections = vs ++ v ∷ []; served = all; stops = stops_after s stop most (length vs) vs (v ∷ []) (door.ended f) (door.count d) (door.count e) (door.count f) is may refl (omega (arith, few)) on counts; out_is = same }

  -- one was given, and there was no memory to serve it
  pub at_lost : (q : Sitting) (e f g : D) (left : ℕ) (lost : X) → Wanting q e left → 1 ≤ left → GivesInOrder (door.left e) (door.left f) (One lost) → Stays (door.taken e) (door.taken f) → door.count f ≡ door.count e → door.out f ≡ door.out e + 1
      → Stays (door.left f) (door.left g) → Gains (door.taken f) (door.taken g) (lost ∷ []) → door.count g ≡ door.count f → door.out g ≡ door.out f - 1 → At (Free q) g (Over OutOfMemory)
  at_lost q e f g left lost w some a b counts more stays gains later less =
      let v : ServedConnection X = record { before = lost; after = lost; ending = NoMemory } in
      behind q q e g (left - 1) w.connections v e (Some OutOfMemory) w.served w.on (omega (arith, w.few, some)) w.count_is
      (served_one door By q q e f g v a stays b gains (_, unread (conn.left lost), no_inbox IsReading (start_of conn access limits q lost)))
      (may_stop v (door.ended g) (door.count e) (door.count f) (door.count g) (Some OutOfMemory) refl later counts) (omega (arith, more, less, w.out_is))

  -- a step was made
  pub at_step : (seat now : Seat) (e : D) (left : ℕ) (old new : Guest X) → Serving seat e left old
      → ((s : Start) → s.access ≡ access → s.limits ≡ limits → IsSince IsReading old.since → IsDoingAt IsReading s (here_of conn (sitting_of seat) old) seat old.doing → IsDoingAt IsReading s (here_of conn (sitting_of now) new) now new.doing)
      → (IsSince IsReading old.since → IsSince IsReading new.since) → At now e (Serves left new)
  at_step seat now e left old new w steps since = record {
    connections = w.connections;
    mid = w.mid;
    before = w.before;
    first = w.first;
    served = w.served;
    gives = w.gives;
    stays = w.stays;
    on = w.on;
    few = w.few;
    count_is = w.count_is;
    out_is = w.out_is;
    doing = steps (start_of conn access limits w.mid w.first) refl refl w.since w.doing;
    since = since w.since;
  }

  -- the connection ended with it
  pub at_over : (seat : Seat) (r : Sitting) (e f : D) (left : ℕ) (old : Guest X) (stand : Stand) (last : X) (ending : Ending) → Serving seat e left old
      → ((s : Start) → s.access ≡ access → s.limits ≡ limits → IsSince IsReading old.since → IsDoingAt IsReading s (here_of conn (sitting_of seat) old) seat old.doing → Ends IsReading s (here_at conn r stand last) ending) → IsReadTo stand (conn.left last)
      → Stays (door.left e) (door.left f) → Gains (door.taken e) (door.taken f) (last ∷ []) → door.count f ≡ door.count e → door.out f ≡ door.out e - 1 → At (Free r) f (stage_behind (stop_of ending) left)
  at_over seat r e f left old stand last ending w steps read stays gains later less =
      let v : ServedConnection X = record { before = w.first; after = last; ending = ending } in
      behind w.mid r e f left w.connections v w.before (stop_of ending) w.served w.on w.few w.count_is
      (served_one door By w.mid r w.before e f v w.gives stays w.stays gains (stand, read, steps (start_of conn access limits w.mid w.first) refl refl w.since w.doing))
      (may_stop v (door.ended f) (door.count e) (door.count e) (door.count f) (stop_of ending) refl later refl) (omega (arith, less, w.out_is))
