-- One connection after the other.
use Rattle.std.proofs.Common.{◌≡◌, ℕ, ◌+◌, ◌≤◌, ◌<◌, List, [], ◌∷◌, ◌++◌, length, sym, refl, ap, ◌∙◌, subst, arith, append_assoc, append-nil, Bool, true, Option, Some, None, length-append}
use Rattle.sb_desk.specs.Desks.{Sitting}
use Rattle.sb_desk.specs.Lists.{Each}
use Rattle.sb_outside.specs.Causes.{Rose}
use Rattle.sb_outside.specs.Streams.{Gains, Stays}
use Rattle.sb_outside.specs.Doors.{GivesInOrder}
use Rattle.sb_outside.specs.declared.door.Door.{Ghosts as Door}
use Rattle.sb_outside.specs.declared.door.Given.TheVariants.{One, End}
use Rattle.sb_server.specs.declared.ending.Ending.{Ending}
use Rattle.sb_server.specs.declared.ending.Ending.TheVariants.{Closed, BadHead, HeadTooLarge, BodyTooLarge, Truncated, LongConnection, ReadFault, Gone, WriteFault, Slow, Stopped as NodeStopped, OutOfMemory as NoMemory}
use Rattle.sb_server.specs.declared.work.Stop.{Stop}
use Rattle.sb_server.specs.declared.work.Stop.TheVariants.{Enough, Ended, Fault, Stopped, OutOfMemory}
use Rattle.sb_server.specs.Works.{ServedConnection, DoorServed, ServedInTurn, befores, afters, HasGiven, GoesOn, EndsAt, MayStopBy, StopsBy, stop_of}

stays_gain : {X : Type 0} (a b : Option (List X)) → Stays a b → Gains a b []
stays_gain None b s = tt
stays_gain (Some l) b s = s ∙ ap Some (sym (append-nil l))

stays_given : {X : Type 0} (a b : Option (List X)) → Stays a b → HasGiven a [] b
stays_given None b s = tt
stays_given (Some l) b s = (l, s, refl)

same_stays : {X : Type 0} (a : Option (List X)) → Stays a a
same_stays None = tt
same_stays (Some l) = refl

gains_on : {X : Type 0} (a b c : Option (List X)) (x y : List X) → Gains a b x → Gains b c y → Gains a c (x ++ y)
gains_on None b c x y f s = tt
gains_on {X = X} (Some l) b c x y f s = subst (λ (o : Option (List X)). Gains o c y) f s ∙ ap Some (append_assoc l x y)

given_on : {X : Type 0} (a b c : Option (List X)) (x y : List X) → HasGiven a x b → HasGiven b y c → HasGiven a (x ++ y) c
given_on None b c x y f s = tt
given_on {X = X} (Some l) b c x y f s =
    let t : HasGiven (Some f.0) y c = subst (λ (o : Option (List X)). HasGiven o y c) f.1 s in
    (t.0, t.1, f.2 ∙ (ap (λ (r : List X). x ++ r) t.2 ∙ sym (append_assoc x y t.0)))

first_given : {X : Type 0} (a b : Option (List X)) (x : X) → GivesInOrder a b (One x) → HasGiven a (x ∷ []) b
first_given None b x g = tt
first_given (Some []) b x g = absurd g
first_given {X = X} (Some (y ∷ ys)) b x g = (ys, g.1, ap (λ (z : X). z ∷ ys) (sym g.0))

none_given : {X : Type 0} (a b : Option (List X)) → GivesInOrder a b End → HasGiven a [] b
none_given None b g = tt
none_given (Some []) b g = ([], g, refl)
none_given (Some (y ∷ ys)) b g = absurd g

in_turn_on : {X : Type 0} (ServedSo : Sitting → ServedConnection X → Sitting → Type 0) (p q r : Sitting) (vs ws : List (ServedConnection X)) → ServedInTurn ServedSo p vs q → ServedInTurn ServedSo q ws r → ServedInTurn ServedSo p (vs ++ ws) r
in_turn_on ServedSo p q r [] ws w x = subst (λ (s : Sitting). ServedInTurn ServedSo s ws r) w x
in_turn_on ServedSo p q r (v ∷ vs) ws w x = (w.0, w.1, in_turn_on ServedSo w.0 q r vs ws w.2 x)

befores_on : {X : Type 0} (vs ws : List (ServedConnection X)) → befores (vs ++ ws) ≡ befores vs ++ befores ws
befores_on [] ws = refl
befores_on {X = X} (v ∷ vs) ws = ap (λ (l : List X). v.before ∷ l) (befores_on vs ws)

afters_on : {X : Type 0} (vs ws : List (ServedConnection X)) → afters (vs ++ ws) ≡ afters vs ++ afters ws
afters_on [] ws = refl
afters_on {X = X} (v ∷ vs) ws = ap (λ (l : List X). v.after ∷ l) (afters_on vs ws)

-- connections of a door, by its ghost values
module _ {D X : Type 0} (door : Door D X) (ServedSo : Sitting → ServedConnection X → Sitting → Type 0) where
  pub served_on : (p q r : Sitting) (d e f : D) (vs ws : List (ServedConnection X)) → DoorServed door ServedSo p d q e vs → DoorServed door ServedSo q e r f ws → DoorServed door ServedSo p d r f (vs ++ ws)
  served_on p q r d e f vs ws a b = record {
    in_turn = in_turn_on ServedSo p q r vs ws a.in_turn b.in_turn;
    gave = subst (λ (l : List X). HasGiven (door.left d) l (door.left f)) (sym (befores_on vs ws)) (given_on (door.left d) (door.left e) (door.left f) (befores vs) (befores ws) a.gave b.gave);
    took = subst (λ (l : List X). Gains (door.taken d) (door.taken f) l) (sym (afters_on vs ws)) (gains_on (door.taken d) (door.taken e) (door.taken f) (afters vs) (afters ws) a.took b.took);
  }

  pub served_none : (p : Sitting) (d : D) → DoorServed door ServedSo p d p d []
  served_none p d = record { in_turn = refl; gave = stays_given (door.left d) (door.left d) (same_stays (door.left d)); took = stays_gain (door.taken d) (door.taken d) (same_stays (door.taken d)) }

  -- no connection was given
  pub served_failed : (p : Sitting) (d e : D) → Stays (door.left d) (door.left e) → Stays (door.taken d) (door.taken e) → DoorServed door ServedSo p d p e []
  served_failed p d e a b = record { in_turn = refl; gave = stays_given (door.left d) (door.left e) a; took = stays_gain (door.taken d) (door.taken e) b }

  pub served_ended : (p : Sitting) (d e : D) → GivesInOrder (door.left d) (door.left e) End → Stays (door.taken d) (door.taken e) → DoorServed door ServedSo p d p e []
  served_ended p d e a b = record { in_turn = refl; gave = none_given (door.left d) (door.left e) a; took = stays_gain (door.taken d) (door.taken e) b }

  -- one was
  pub served_one : (p q : Sitting) (d e f : D) (v : ServedConnection X)
      → GivesInOrder (door.left d) (door.left e) (One v.before) → Stays (door.left e) (door.left f) → Stays (door.taken d) (door.taken e) → Gains (door.taken e) (door.taken f) (v.after ∷ []) → ServedSo p v q → DoorServed door ServedSo p d q f (v ∷ [])
  served_one p q d e f v gives left stays gains served = record {
    in_turn = (q, served, refl);
    gave = given_on (door.left d) (door.left e) (door.left f) (v.before ∷ []) [] (first_given (door.left d) (door.left e) v.before gives) (stays_given (door.left e) (door.left f) left);
    took = gains_on (door.taken d) (door.taken e) (door.taken f) [] (v.after ∷ []) (stays_gain (door.taken d) (door.taken e) stays) gains;
  }

-- ---- why a worker ends

pub each_both : {A : Type 0} (P : A → Type 0) (xs ys : List A) → Each P xs → Each P ys → Each P (xs ++ ys)
each_both P [] ys e f = f
each_both P (x ∷ xs) ys e f = (e.0, each_both P xs ys e.1 f)

pub may_end : {X : Type 0} (vs : List (ServedConnection X)) (ended : Bool) (before now : ℕ) → vs ≡ [] → ended ≡ true → now ≡ before → MayStopBy (Some Ended) vs ended before now
may_end {X = X} vs ended before now none is same =
    (λ e. absurd cc, record { few = omega (arith, ap length none); cause = (is, subst (λ (l : List (ServedConnection X)). Each GoesOn l) (sym none) tt); faults = same })

pub may_fail : {X : Type 0} (ended : Bool) (before now : ℕ) → Rose before now → MayStopBy {X = X} (Some Fault) [] ended before now
may_fail ended before now rose = (λ e. absurd cc, record { few = omega arith; cause = tt; faults = rose })

pub may_stop : {X : Type 0} (conn : ServedConnection X) (ended : Bool) (before mid now : ℕ) (r : Option Stop) → r ≡ stop_of conn.ending → now ≡ mid → mid ≡ before → MayStopBy r (conn ∷ []) ended before now
may_stop {X = X} conn ended before mid now r is later first = subst (λ (o : Option Stop). MayStopBy o (conn ∷ []) ended before now) (sym is) (by conn.ending refl)
  where
    same : now ≡ before
    same = later ∙ first

    goes : stop_of conn.ending ≡ None → MayStopBy None (conn ∷ []) ended before now
    goes on = (refl, (on, tt), same)

    by : (e : Ending) → conn.ending ≡ e → MayStopBy (stop_of e) (conn ∷ []) ended before now
    by NodeStopped is = (λ e. absurd cc, record { few = omega arith; cause = ([], conn, refl, is, tt); faults = same })
    by NoMemory is = (λ e. absurd cc, record { few = omega arith; cause = ([], conn, refl, is, tt); faults = same })
    by Closed is = goes (ap stop_of is)
    by BadHead is = goes (ap stop_of is)
    by HeadTooLarge is = goes (ap stop_of is)
    by BodyTooLarge is = goes (ap stop_of is)
    by Truncated is = goes (ap stop_of is)
    by LongConnection is = goes (ap stop_of is)
    by ReadFault is = goes (ap stop_of is)
    by Gone is = goes (ap stop_of is)
    by WriteFault is = goes (ap stop_of is)
    by Slow is = goes (ap stop_of is)

last_on : {X : Type 0} (vs ws : List (ServedConnection X)) (e : Ending) → Each GoesOn vs → EndsAt ws e → EndsAt (vs ++ ws) e
last_on {X = X} vs ws e on l = (vs ++ l.0, l.1, ap (λ (k : List (ServedConnection X)). vs ++ k) l.2 ∙ sym (append_assoc vs l.0 (l.1 ∷ [])), l.3, each_both GoesOn vs l.0 on l.4)

-- it ended behind these, all of which it went on behind
pub stops_after : {X : Type 0} (s : Stop) (r : Option Stop) (most n : ℕ) (vs ws : List (ServedConnection X)) (ended : Bool) (start before now : ℕ) → r ≡ Some s → MayStopBy r ws ended before now
    → length vs ≡ n → n < most → Each GoesOn vs → before ≡ start → StopsBy s most (vs ++ ws) ended start now
stops_after {X = X} s r most n vs ws ended start before now is m len lt on same = by s (subst (λ (o : Option Stop). MayStopBy o ws ended before now) is m)
  where
    few : length ws ≤ 1 → length (vs ++ ws) ≤ most
    few one = omega (arith, length-append vs ws, one, len, lt)

    by : (s : Stop) → MayStopBy (Some s) ws ended before now → StopsBy s most (vs ++ ws) ended start now
    by Enough y = absurd (y.0 refl)
    by Ended y = record { few = few y.1.few; cause = (y.1.cause.0, each_both GoesOn vs ws on y.1.cause.1); faults = y.1.faults ∙ same }
    by Fault y = record { few = few y.1.few; cause = each_both GoesOn vs ws on y.1.cause; faults = omega (arith, same, y.1.faults) }
    by Stopped y = record { few = few y.1.few; cause = last_on vs ws NodeStopped on y.1.cause; faults = y.1.faults ∙ same }
    by OutOfMemory y = record { few = few y.1.few; cause = last_on vs ws NoMemory on y.1.cause; faults = y.1.faults ∙ same }

-- what a worker served so far, when it goes on
pub record GoneOn {X : Type 0} (vs : List (ServedConnection X)) (n : ℕ) (before now : ℕ) : Type 0 where
  pub size : length vs ≡ n
  pub on : Each GoesOn vs
  pub count : now ≡ before

pub gone_none : {X : Type 0} (before : ℕ) → GoneOn {X = X} [] 0 before before
gone_none before = record { size = refl; on = tt; count = refl }

pub gone_more : {X : Type 0} (r : Option Stop) (vs ws : List (ServedConnection X)) (n : ℕ) (ended : Bool) (start before now : ℕ) → r ≡ None → GoneOn vs n start before → MayStopBy r ws ended before now → GoneOn (vs ++ ws) (n + 1) start now
gone_more {X = X} r vs ws n ended start before now is g m =
    let one : MayStopBy None ws ended before now = subst (λ (o : Option Stop). MayStopBy o ws ended before now) is m in
    record { size = omega (arith, length-append vs ws, one.0, g.size); on = each_both GoesOn vs ws g.on one.1; count = one.2 ∙ g.count }

pub gone_enough : {X : Type 0} (vs : List (ServedConnection X)) (n most : ℕ) (ended : Bool) (before now : ℕ) → n ≡ most → GoneOn vs n before now → StopsBy Enough most vs ended before now
gone_enough vs n most ended before now all g = record { few = omega (arith, g.size, all); cause = (g.size ∙ all, g.on); faults = g.count }
