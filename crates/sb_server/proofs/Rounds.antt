-- A thread goes round its workers.
use Rattle.std.proofs.Common.{◌≡◌, ℕ, zero, suc, ◌<◌, List, [], ◌∷◌, length, sym, refl, ap, ◌∙◌, subst, arith, Bool, true, false, ◌&&◌, Option, Some, None}
use Rattle.std.specs.Prelude.{All, slice_index_or, slice_set}
use Rattle.std.specs.List.{list_all}
use Rattle.sb_desk.specs.Desks.{Open, Sitting, IsOf}
use Rattle.sb_outside.specs.declared.conn.Conn.{Ghosts as Conn}
use Rattle.sb_outside.specs.declared.door.Door.{Ghosts as Door}
use Rattle.sb_rest.specs.declared.access.Access.{Access}
use Rattle.sb_server.specs.declared.limits.Limits.{Limits}
use Rattle.sb_server.specs.declared.job.Job.{Job}
use Rattle.sb_server.specs.declared.seat.Seat.{Seat}
use Rattle.sb_server.specs.declared.seat.Seat.TheVariants.{Free}
use Rattle.sb_server.specs.declared.stage.Stage.{Stage}
use Rattle.sb_server.specs.declared.stage.Stage.TheVariants.{Wants, Serves, Over}
use Rattle.sb_server.specs.declared.work.Stop.{Stop}
use Rattle.sb_server.specs.Serves.{Worker, WorkerDid, HasPass, Did, IsAtWork, HasCome}
use Rattle.sb_server.specs.Doings.{IsFree, sitting_of}
use Rattle.sb_server.specs.Stages.{IsAt, IsSound, IsOver, stop_at, is_over}
use Rattle.sb_server.specs.Works.{ConnectionServed}
use Rattle.sb_server.proofs.Attending.{at_first, free_over}
use Rattle.sb_server.proofs.Outcomes.{stopped_seen}

-- a fact of each, of which one was changed
pub set_each : {T : Type 0} (P : ℕ → T → Type 0) (xs : List T) (i : ℕ) (v d : T) → P i v → ((k : ℕ) → k < length xs → P k (slice_index_or xs k d)) → (k : ℕ) → k < length xs → P k (slice_index_or (slice_set xs i v) k d)
set_each P [] i v d pv all k lt = absurd (omega (arith, lt))
set_each P (x ∷ xs) zero v d pv all zero lt = pv
set_each P (x ∷ xs) zero v d pv all (suc k) lt = all (suc k) lt
set_each P (x ∷ xs) (suc i) v d pv all zero lt = all 0 (omega arith)
set_each P (x ∷ xs) (suc i) v d pv all (suc k) lt = set_each (λ j y. P (suc j) y) xs i v d pv (λ j h. all (suc j) (omega (arith, h))) k (omega (arith, lt))

pub set_length : {T : Type 0} (xs : List T) (i : ℕ) (v : T) → length (slice_set xs i v) ≡ length xs
set_length [] i v = refl
set_length (x ∷ xs) zero v = refl
set_length (x ∷ xs) (suc i) v = omega (arith, set_length xs i v)

and_first : (a b : Bool) → (a && b) ≡ true → a ≡ true
and_first true b e = refl
and_first false b e = e

and_second : (a b : Bool) → (a && b) ≡ true → b ≡ true
and_second true b e = e
and_second false b e = absurd cc

pub all_of : {T : Type 0} (p : T → Bool) (xs : List T) → list_all p xs ≡ true → All (λ x. p x ≡ true) xs
all_of p [] e k d lt = absurd (omega (arith, lt))
all_of p (x ∷ xs) e zero d lt = and_first (p x) (list_all p xs) e
all_of p (x ∷ xs) e (suc k) d lt = all_of p xs (and_second (p x) (list_all p xs) e) k d (omega (arith, lt))

some_same : (p q : Seat) → Some p ≡ Some q → p ≡ q
some_same p q e = ap (λ (o : Option Seat). elim o [ Some z ↦ z | None ↦ p ]) e

module _ {D X : Type 0} (door : Door D X) (conn : Conn X) (IsReading : ℕ → Type 0) (access : Access) (limits : Limits) (most : ℕ) where
  abbrev Come : Job D X → Job D X → Type 0
  Come began now = HasCome door conn IsReading access limits most began now

  -- how it begins
  pub come_first : (desk : Open) (job : Job D X) → HasPass desk most job → Come job job
  come_first desk job h = record {
    pass = h.pass;
    seat = Free h.pass;
    had = h.has;
    has = h.has;
    at = subst (λ (s : Stage X). IsAt door conn IsReading access limits most h.pass job.door (Free h.pass) job.door s) (sym h.fresh) (at_first door conn IsReading access limits most h.pass job.door);
    stop_is = sym (ap (λ (s : Stage X). stop_at s job.stop) h.fresh);
  }

  -- one worker made a step
  pub come_on : (began old new : Job D X) (seat after : Seat) → Come began old → old.seat ≡ Some seat → new.seat ≡ Some after
      → ((p : Sitting) (d : D) → IsAt door conn IsReading access limits most p d seat old.door old.stage → IsAt door conn IsReading access limits most p d after new.door new.stage)
      → new.stop ≡ stop_at new.stage new.stop → Come began new
  come_on began old new seat after c had has goes stop = record {
    pass = c.pass;
    seat = after;
    had = c.had;
    has = has;
    at = goes c.pass began.door (subst (λ (p : Seat). IsAt door conn IsReading access limits most c.pass began.door p old.door old.stage) (some_same c.seat seat (sym c.has ∙ had)) c.at);
    stop_is = stop;
  }

  -- it is looked at again at another reading
  pub come_again : (began now : Job D X) (again : ℕ) → Come began now → Come began (record now { again = again })
  come_again began now again c = record { pass = c.pass; seat = c.seat; had = c.had; has = c.has; at = c.at; stop_is = c.stop_is }

  -- it is over
  pub come_over : (desk : Open) (began now : Job D X) → Come began now → IsAtWork door.out desk now → is_over now.stage ≡ true → Did (WorkerDid door (ConnectionServed conn IsReading access limits) desk most) began now
  come_over desk began now c w over = by now.stage refl over
    where
      same : w.seat ≡ c.seat
      same = some_same w.seat c.seat (sym w.has ∙ c.has)

      free : IsFree c.seat
      free = free_over c.seat now.stage (door.out now.door) over (subst (λ (s : Seat). IsSound s now.stage (door.out now.door)) same w.sound)

      by : (stage : Stage X) → now.stage ≡ stage → is_over stage ≡ true → Did (WorkerDid door (ConnectionServed conn IsReading access limits) desk most) began now
      by (Wants left) is e = absurd cc
      by (Serves left guest) is e = absurd cc
      by (Over stop) is e =
          let pass : Sitting = free.0 in
          let at : IsAt door conn IsReading access limits most c.pass began.door (Free pass) now.door now.stage = subst (λ (s : Seat). IsAt door conn IsReading access limits most c.pass began.door s now.door now.stage) free.1 c.at in
          let o : IsOver door conn IsReading access limits most c.pass began.door pass now.door stop = subst (λ (s : Stage X). IsAt door conn IsReading access limits most c.pass began.door (Free pass) now.door s) is at in
          let worker : Worker D = record { pass = c.pass; door = began.door; pass_after = pass; door_after = now.door; stop = stop } in
          record {
            worker = worker;
            had = c.had;
            at = refl;
            has = c.has ∙ ap (λ (s : Seat). Some s) free.1;
            left = refl;
            over = over;
            stop = c.stop_is ∙ ap (λ (s : Stage X). stop_at s now.stop) is;
            does = record {
              of = subst (λ (s : Seat). IsOf desk (sitting_of s)) (same ∙ free.1) w.of;
              connections = o.connections;
              served = o.served;
              stops = o.stops;
              out_is = o.out_is;
              stopped = stopped_seen conn IsReading access limits c.pass pass o.connections stop most (door.ended now.door) (door.count began.door) (door.count now.door) o.served.in_turn o.stops;
            };
          }

pub stop_twice : {X : Type 0} (stage : Stage X) (stop other : Stop) → stop ≡ stop_at stage other → stop ≡ stop_at stage stop
stop_twice (Wants left) stop other e = refl
stop_twice (Serves left guest) stop other e = refl
stop_twice (Over s) stop other e = e

pub work_first : {D X : Type 0} (out : D → ℕ) (desk : Open) (most : ℕ) (job : Job D X) → HasPass desk most job → IsAtWork out desk job
work_first {X = X} out desk most job h = record { seat = Free h.pass; has = h.has; of = h.of; sound = subst (λ (s : Stage X). IsSound (Free h.pass) s (out job.door)) (sym h.fresh) (h.pass, refl) }

pub work_again : {D X : Type 0} (out : D → ℕ) (desk : Open) (job : Job D X) (again : ℕ) → IsAtWork out desk job → IsAtWork out desk (record job { again = again })
work_again out desk job again w = record { seat = w.seat; has = w.has; of = w.of; sound = w.sound }

-- what it makes its calls with
pub seat_at : {D X : Type 0} (out : D → ℕ) (desk : Open) (job : Job D X) (seat : Seat) → IsAtWork out desk job → job.seat ≡ Some seat → IsOf desk (sitting_of seat) × IsSound seat job.stage (out job.door)
seat_at out desk job seat w is =
    let same : w.seat ≡ seat = some_same w.seat seat (sym w.has ∙ is) in
    (subst (λ (s : Seat). IsOf desk (sitting_of s)) same w.of, subst (λ (s : Seat). IsSound s job.stage (out job.door)) same w.sound)
