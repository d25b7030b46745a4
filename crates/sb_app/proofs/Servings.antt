-- A server's call, on each of its ways, up to the end of its workers.
use Rattle.std.proofs.Common.{◌≡◌, ◌≢◌, ◌≤◌, ◌<◌, ◌⊎◌, inl, inr, ℕ, List, [], ◌∷◌, map, Bool, true, false, Option, Some, None, refl, sym, ◌∙◌, ap, ap₂, subst, ⊎_elim, arith}
use Rattle.std.specs.Prelude.{if◌then◌else◌, is_some, ◌||◌}
use Rattle.std.specs.List.{list_any}
use Rattle.sb_outside.specs.declared.disk.Disk.{Ghosts}
use Rattle.sb_machine.specs.History.{Log, IsLegal, after_entries, after_entry, fresh_log, state_after, stops}
use Rattle.sb_machine.specs.declared.history.Entry.{Entry}
use Rattle.sb_machine.specs.declared.history.Entry.TheVariants.{Ticked, Answered as Replied}
use Rattle.sb_machine.specs.declared.state.State.{State}
use Rattle.sb_journal.specs.Disks.{Disks, AreHonest, AreQuiet, HaveFailed, SameHonesty}
use Rattle.sb_journal.proofs.Pairs.{still_honest}
use Rattle.sb_journal.specs.declared.found.OpenWhy.{OpenWhy}
use Rattle.sb_node.specs.declared.node.Node.{Node}
use Rattle.sb_node.specs.Nodes.{node_disks, node_state, node_stopped, IsDurable}
use Rattle.sb_node.specs.Recovery.{Recovers, recovered_on}
use Rattle.sb_node.specs.Groups.{FollowByGroups}
use Rattle.sb_node.specs.Serving.{node_goes_on, opened_disks, origin_of, IsLeft, StandsFor}
use Rattle.sb_node.specs.Steps.{is_spared}
use Rattle.sb_node.proofs.Whole.{honest_on, quiet_on}
use Rattle.sb_desk.specs.Desks.{IsNew, IsOf, Open, Sitting}
use Rattle.sb_desk.specs.Entries.{IsReport}
use Rattle.sb_desk.specs.Lists.{Each}
use Rattle.sb_desk.specs.Spared.{Spares}
use Rattle.sb_desk.specs.declared.report.Report.{Report}
use Rattle.sb_server.specs.Serves.{AllServedOrNone, Worker, is_fault, is_lost, serve_ending}
use Rattle.sb_server.specs.Works.{TellsFault}
use Rattle.sb_server.specs.declared.ending.ServeEnding.{ServeEnding}
use Rattle.sb_server.specs.declared.ending.ServeEnding.TheVariants.{Done, DoorFault, OutOfMemory}
use Rattle.sb_server.specs.declared.work.Stop.{Stop}
use Rattle.sb_server.specs.declared.work.Stop.TheVariants.{Enough, Ended, Fault, Stopped, OutOfMemory as NoMemory}
use Rattle.sb_app.specs.Checks.{IsLineTold}
use Rattle.sb_app.specs.Endings.{IsLineWritten}
use Rattle.sb_app.specs.Held.{IsJumpStatus, IsOvertaken}
use Rattle.sb_app.specs.Jumps.{jumps, jump_line, IsSettled}
use Rattle.sb_app.specs.declared.jump.Jump.{Jump}
use Rattle.sb_app.specs.Outside.{Output, Outside}
use Rattle.sb_app.specs.Openings.{IsOpened, IsFailed, IsFailedStatus}
use Rattle.sb_app.specs.Servings.{HasDoorRisen, HasJumped, IsFreeServing, IsServeCall, IsServed, IsServeStatus, NoneStops, has_stopped, passes_for, report_line, serve_status}
use Rattle.sb_app.specs.Stages.{IsWorked}
use Rattle.sb_app.specs.declared.ending.RunEnd.TheVariants.{DiskFault, OutOfMemory as WantsMemory}
use Rattle.sb_app.proofs.Carried.{nothing_done, refused_by, rose_of, told_fault, told_quiet, told_status, unopened_by}
use Rattle.sb_app.proofs.Faults.{failed_on}
use Rattle.sb_app.proofs.Lawful.{lawful}
use Rattle.sb_app.proofs.Whole.{kept_durable, kept_recovers}

-- ---- memory was wanting at once

pub unserved_at_once : {R : Type 0} (clock : ℕ → Type 0) (days : ℕ) (goes_on : Bool) (Works : Open → Worker R → Type 0) (count : R → ℕ) (salt : ℕ) (was : Outside) (doors : List R) → IsServeCall clock days goes_on Works count salt was was doors doors 7
unserved_at_once clock days goes_on Works count salt was doors = record {
  serving = inl (refl, WantsMemory, refl, nothing_done salt was);
  known = inr (inr (inr (inr (inl refl))));
  write_fault = λ four. absurd cc;
  write_quiet = λ none. refl;
  disk_fault = λ five. absurd cc;
  disk_quiet = λ other. (refl, refl);
  broken = λ six. absurd cc;
  jump = λ jumped. absurd cc;
  door_fault = λ eight. absurd cc;
  door_quiet = λ other last. refl;
  complete = λ honest free. inr (inl refl);
  unread = refl;
  honesty = (refl, refl);
}

-- ---- an opening that failed

pub failed_call : {R : Type 0} (clock : ℕ → Type 0) (days : ℕ) (goes_on : Bool) (Works : Open → Worker R → Type 0) (count : R → ℕ) (salt : ℕ) (was : Outside) (disks : Disks) (output : Output) (doors : List R) (why : OpenWhy) (status : ℕ) → IsFailed salt was.disks disks was.output output why status
    → IsServeCall clock days goes_on Works count salt was (record was { output = output; disks = disks }) doors doors status
failed_call {R} clock days goes_on Works count salt was disks output doors why status fails = by_status fails.known
  where
    by_status : IsFailedStatus status → IsServeCall clock days goes_on Works count salt was (record was { output = output; disks = disks }) doors doors status
    by_status (inl five) = record {
      serving = inl (refl, DiskFault, five, unopened_by salt was disks output why status fails DiskFault five);
      known = inr (inr (inl five));
      write_fault = λ four. absurd (omega (arith, five, four));
      write_quiet = λ none. absurd (omega (arith, five, none));
      disk_fault = λ same. fails.cause (fails.failed five);
      disk_quiet = λ other. absurd (other five);
      broken = λ six. absurd (omega (arith, five, six));
      jump = λ jumped. absurd (omega (arith, five, jumped));
      door_fault = λ eight. absurd (omega (arith, five, eight));
      door_quiet = λ other last. refl;
      complete = λ honest free. absurd (free.disk_quiet (fails.cause (fails.failed five)));
      unread = refl;
      honesty = fails.honesty;
    }
    by_status (inr (inl six)) =
        let refused = refused_by salt was disks output why fails.broken fails.untouched fails.rests (fails.damage six) in
        record {
          serving = inr (inl (refl, six, refused));
          known = inr (inr (inr (inl six)));
          write_fault = λ four. absurd (omega (arith, six, four));
          write_quiet = λ none. absurd (omega (arith, six, none));
          disk_fault = λ five. absurd (omega (arith, six, five));
          disk_quiet = λ other. fails.quiet (fails.other other);
          broken = λ same. refused;
          jump = λ jumped. absurd (omega (arith, six, jumped));
          door_fault = λ eight. absurd (omega (arith, six, eight));
          door_quiet = λ other last. refl;
          complete = λ honest free. absurd (free.sound (refused.side, refused.place, refused.broken honest));
          unread = refl;
          honesty = fails.honesty;
        }
    by_status (inr (inr seven)) = record {
      serving = inl (refl, WantsMemory, seven, unopened_by salt was disks output why status fails WantsMemory seven);
      known = inr (inr (inr (inr (inl seven))));
      write_fault = λ four. absurd (omega (arith, seven, four));
      write_quiet = λ none. absurd (omega (arith, seven, none));
      disk_fault = λ five. absurd (omega (arith, seven, five));
      disk_quiet = λ other. fails.quiet (fails.other other);
      broken = λ six. absurd (omega (arith, seven, six));
      jump = λ jumped. absurd (omega (arith, seven, jumped));
      door_fault = λ eight. absurd (omega (arith, seven, eight));
      door_quiet = λ other last. refl;
      complete = λ honest free. inr (inl seven);
      unread = refl;
      honesty = fails.honesty;
    }

-- ---- no memory for a desk

pub unserved_call : {R : Type 0} (clock : ℕ → Type 0) (days : ℕ) (goes_on : Bool) (Works : Open → Worker R → Type 0) (count : R → ℕ) (Safe : Type 0) (salt : ℕ) (was : Outside) (ready : Disks) (doors : List R) (start : State) → IsOpened Safe salt was.disks ready start
    → (Safe → Recovers (recovered_on ready salt) start) → IsServeCall clock days goes_on Works count salt was (record was { disks = ready }) doors doors 7
unserved_call clock days goes_on Works count Safe salt was ready doors start opening recovers = record {
  serving = inr (inr (inl (
    refl,
    refl,
    record {
      start = start;
      found = record { recovers = opening.found; consistent = opening.consistent };
      unsaid = refl;
      backed = λ honest. record { recovers = recovers (opening.safe honest); durable = opening.holds honest };
      opens = opening.opens;
      quiet = opening.quiet;
    },
  )));
  known = inr (inr (inr (inr (inl refl))));
  write_fault = λ four. absurd cc;
  write_quiet = λ none. refl;
  disk_fault = λ five. absurd cc;
  disk_quiet = λ other. opening.quiet;
  broken = λ six. absurd cc;
  jump = λ jumped. absurd cc;
  door_fault = λ eight. absurd cc;
  door_quiet = λ other last. refl;
  complete = λ honest free. inr (inl refl);
  unread = refl;
  honesty = opening.honesty;
}

-- ---- the clock is too far ahead

pub jumped_call : {R : Type 0} (clock : ℕ → Type 0) (days : ℕ) (goes_on : Bool) (Works : Open → Worker R → Type 0) (count : R → ℕ) (Safe : Type 0) (salt : ℕ) (was : Outside) (ready : Disks) (output : Output) (doors : List R) (start : State) (jump : Jump) (status : ℕ) → IsOpened Safe salt was.disks ready start
    → (Safe → Recovers (recovered_on ready salt) start) → IsOvertaken clock days start.now jump → IsJumpStatus jump was.output output status → IsServeCall clock days goes_on Works count salt was (record was { output = output; disks = ready }) doors doors status
jumped_call {R} clock days goes_on Works count Safe salt was ready output doors start jump status opening recovers far (inl (is, told)) =
    let jumped : HasJumped clock days salt was (record was { output = output; disks = ready }) =
    record {
      start = start;
      found = record { recovers = opening.found; consistent = opening.consistent };
      reading = jump.reading;
      read = far.read;
      far = subst (λ (m : ℕ). jumps days m jump.reading ≡ true) far.at far.far;
      told = subst (λ (m : ℕ). IsLineWritten (jump_line m jump.reading) was.output output) far.at told;
      backed = λ honest. record { recovers = recovers (opening.safe honest); durable = opening.holds honest };
      opens = opening.opens;
      quiet = opening.quiet;
    }
    in
    record {
      serving = inr (inr (inr (inl (refl, is, jumped))));
      known = inr (inr (inr (inr (inr (inr is)))));
      write_fault = λ four. absurd (omega (arith, is, four));
      write_quiet = λ none. absurd (omega (arith, is, none));
      disk_fault = λ five. absurd (omega (arith, is, five));
      disk_quiet = λ other. opening.quiet;
      broken = λ six. absurd (omega (arith, is, six));
      jump = λ same. (refl, jumped);
      door_fault = λ eight. absurd (omega (arith, is, eight));
      door_quiet = λ other last. refl;
      complete = λ honest free. inr (inr is);
      unread = refl;
      honesty = opening.honesty;
    }
jumped_call clock days goes_on Works count Safe salt was ready output doors start jump status opening recovers far (inr (is, same)) =
    subst (λ (n : ℕ). IsServeCall clock days goes_on Works count salt was (record was { output = output; disks = ready }) doors doors n) (sym is)
    (subst (λ (o : Output). IsServeCall clock days goes_on Works count salt was (record was { output = o; disks = ready }) doors doors 7) (sym same) (unserved_call clock days goes_on Works count Safe salt was ready doors start opening recovers))

-- ---- what stops

-- what has stopped stays so
stays : (l : Log) (h : List Entry) → l.stopped ≡ true → (after_entries l h).stopped ≡ true
stays l [] is = is
stays l (Ticked seat t ∷ es) is = stays (after_entry l (Ticked seat t)) es is
stays l (Replied seat reading call answer ∷ es) is =
    stays (after_entry l (Replied seat reading call answer)) es (ap (λ (b : Bool). if b then true else stops answer) is)

none_stops : (l : Log) (h : List Entry) → (after_entries l h).stopped ≡ false → NoneStops h
none_stops l [] is = tt
none_stops l (Ticked seat t ∷ es) is = none_stops (after_entry l (Ticked seat t)) es is
none_stops l (Replied seat reading call answer ∷ es) is = (by_answer (stops answer) refl, none_stops (after_entry l (Replied seat reading call answer)) es is)
  where
    either : (b : Bool) → (if b then true else true) ≡ true
    either false = refl
    either true = refl

    by_answer : (b : Bool) → stops answer ≡ b → stops answer ≡ false
    by_answer false goes = goes
    by_answer true stopped =
        let here : (after_entry l (Replied seat reading call answer)).stopped ≡ true = ap (λ (b : Bool). if l.stopped then true else b) stopped ∙ either l.stopped in
        let other : true ≡ false = sym (stays (after_entry l (Replied seat reading call answer)) es here) ∙ is in
        absurd cc

-- ---- what a status says of the end

-- of telling the report
abbrev IsToldStatus : ℕ → Type 0
IsToldStatus told = (told ≡ 0) ⊎ ((told ≡ 4) ⊎ (told ≡ 7))

serve_known : (stopped : Bool) (ending : ServeEnding) (told : ℕ) → IsToldStatus told → IsServeStatus (serve_status stopped ending told)
serve_known true ending told is = inr (inr (inl refl))
serve_known false DoorFault told is = inr (inr (inr (inr (inr (inl refl)))))
serve_known false OutOfMemory told is = inr (inr (inr (inr (inl refl))))
serve_known false Done told (inl none) = inl none
serve_known false Done told (inr (inl four)) = inr (inl four)
serve_known false Done told (inr (inr seven)) = inr (inr (inr (inr (inl seven))))

-- it is just one of these
no_other : (n k : ℕ) (P : Type 0) → IsToldStatus n → n ≡ k → (k ≡ 5) ⊎ ((k ≡ 6) ⊎ (k ≡ 8)) → P
no_other n k P (inl a) is (inl b) = absurd (omega (arith, a, is, b))
no_other n k P (inl a) is (inr (inl b)) = absurd (omega (arith, a, is, b))
no_other n k P (inl a) is (inr (inr b)) = absurd (omega (arith, a, is, b))
no_other n k P (inr (inl a)) is (inl b) = absurd (omega (arith, a, is, b))
no_other n k P (inr (inl a)) is (inr (inl b)) = absurd (omega (arith, a, is, b))
no_other n k P (inr (inl a)) is (inr (inr b)) = absurd (omega (arith, a, is, b))
no_other n k P (inr (inr a)) is (inl b) = absurd (omega (arith, a, is, b))
no_other n k P (inr (inr a)) is (inr (inl b)) = absurd (omega (arith, a, is, b))
no_other n k P (inr (inr a)) is (inr (inr b)) = absurd (omega (arith, a, is, b))

stopped_at_five : (stopped : Bool) (ending : ServeEnding) (told : ℕ) → IsToldStatus told → serve_status stopped ending told ≡ 5 → stopped ≡ true
stopped_at_five true ending told known five = refl
stopped_at_five false DoorFault told known five = absurd cc
stopped_at_five false OutOfMemory told known five = absurd cc
stopped_at_five false Done told known five = no_other told 5 _ known five (inl refl)

goes_elsewhere : (stopped : Bool) (ending : ServeEnding) (told : ℕ) → serve_status stopped ending told ≢ 5 → stopped ≡ false
goes_elsewhere true ending told other = absurd (other refl)
goes_elsewhere false ending told other = refl

never_six : (stopped : Bool) (ending : ServeEnding) (told : ℕ) → IsToldStatus told → serve_status stopped ending told ≢ 6
never_six true ending told known six = absurd cc
never_six false DoorFault told known six = absurd cc
never_six false OutOfMemory told known six = absurd cc
never_six false Done told known six = no_other told 6 _ known six (inr (inl refl))

never_jumped : (stopped : Bool) (ending : ServeEnding) (told : ℕ) → IsToldStatus told → serve_status stopped ending told ≢ 14
never_jumped true ending told known jumped = absurd cc
never_jumped false DoorFault told known jumped = absurd cc
never_jumped false OutOfMemory told known jumped = absurd cc
never_jumped false Done told (inl none) jumped = omega (arith, none, jumped)
never_jumped false Done told (inr (inl four)) jumped = omega (arith, four, jumped)
never_jumped false Done told (inr (inr seven)) jumped = omega (arith, seven, jumped)

door_at_eight : (stopped : Bool) (ending : ServeEnding) (told : ℕ) → IsToldStatus told → serve_status stopped ending told ≡ 8 → ending ≡ DoorFault
door_at_eight true ending told known eight = absurd cc
door_at_eight false DoorFault told known eight = refl
door_at_eight false OutOfMemory told known eight = absurd cc
door_at_eight false Done told known eight = no_other told 8 _ known eight (inr (inr refl))

no_door_else : (stopped : Bool) (ending : ServeEnding) (told : ℕ) → serve_status stopped ending told ≢ 5 → serve_status stopped ending told ≢ 8 → ending ≢ DoorFault
no_door_else true ending told other last is = other refl
no_door_else false ending told other last is = last (ap (λ (e : ServeEnding). serve_status false e told) is)

told_at : (stopped : Bool) (ending : ServeEnding) (told n : ℕ) → serve_status stopped ending told ≡ n → n ≤ 4 → told ≡ n
told_at true ending told n is low = absurd (omega (arith, is, low))
told_at false DoorFault told n is low = absurd (omega (arith, is, low))
told_at false OutOfMemory told n is low = absurd (omega (arith, is, low))
told_at false Done told n is low = is

-- ---- counts of the doors

-- what a worker tells of its door's count
abbrev pub Tells : {R : Type 0} → (Worker R → Type 0) → (R → ℕ) → Type 0
Tells Work count = (w : Worker _) → Work w → TellsFault w.stop (count w.door) (count w.door_after)

fault_of : (stop : Stop) → is_fault stop ≡ true → stop ≡ Fault
fault_of Fault is = refl
fault_of Enough is = absurd cc
fault_of Ended is = absurd cc
fault_of Stopped is = absurd cc
fault_of NoMemory is = absurd cc

quiet_of : (stop : Stop) (before now : ℕ) → is_fault stop ≡ false → TellsFault stop before now → now ≡ before
quiet_of Fault before now is tells = absurd cc
quiet_of Enough before now is tells = tells
quiet_of Ended before now is tells = tells
quiet_of Stopped before now is tells = tells
quiet_of NoMemory before now is tells = tells

one_risen : {R : Type 0} (Work : Worker R → Type 0) (count : R → ℕ) → Tells Work count → (ws : List (Worker R)) → Each Work ws → list_any is_fault (map (λ w. w.stop) ws) ≡ true → HasDoorRisen count (map (λ w. w.door) ws) (map (λ w. w.door_after) ws)
one_risen Work count tells [] each any = absurd cc
one_risen {R} Work count tells (w ∷ ws) each any = by_stop (is_fault w.stop) refl (one_risen Work count tells ws each.1)
  where
    rest : List Stop
    rest = map (λ (v : Worker R). v.stop) ws

    by_stop : (b : Bool) → is_fault w.stop ≡ b → (list_any is_fault rest ≡ true → HasDoorRisen count (map (λ v. v.door) ws) (map (λ v. v.door_after) ws)) → HasDoorRisen count (map (λ v. v.door) (w ∷ ws)) (map (λ v. v.door_after) (w ∷ ws))
    by_stop true is later = inl (subst (λ (s : Stop). TellsFault s (count w.door) (count w.door_after)) (fault_of w.stop is) (tells w each.0))
    by_stop false is later = inr (later (sym (ap (λ (b : Bool). b || list_any is_fault rest) is) ∙ any))

none_risen : {R : Type 0} (Work : Worker R → Type 0) (count : R → ℕ) → Tells Work count → (ws : List (Worker R)) → Each Work ws → list_any is_fault (map (λ w. w.stop) ws) ≡ false → map count (map (λ w. w.door_after) ws) ≡ map count (map (λ w. w.door) ws)
none_risen Work count tells [] each none = refl
none_risen {R} Work count tells (w ∷ ws) each none = by_stop (is_fault w.stop) refl (none_risen Work count tells ws each.1)
  where
    rest : List Stop
    rest = map (λ (v : Worker R). v.stop) ws

    by_stop : (b : Bool) → is_fault w.stop ≡ b → (list_any is_fault rest ≡ false → map count (map (λ v. v.door_after) ws) ≡ map count (map (λ v. v.door) ws)) → map count (map (λ v. v.door_after) (w ∷ ws)) ≡ map count (map (λ v. v.door) (w ∷ ws))
    by_stop true is later = let other : true ≡ false = sym (ap (λ (b : Bool). b || list_any is_fault rest) is) ∙ none in absurd cc
    by_stop false is later = ap₂ (λ (n : ℕ) (ns : List ℕ). n ∷ ns) (quiet_of w.stop (count w.door) (count w.door_after) is (tells w each.0)) (later (sym (ap (λ (b : Bool). b || list_any is_fault rest) is) ∙ none))

-- the ending says so just where one worker ended for a fault
any_fault : (stops : List Stop) → DoorFault ≡ serve_ending stops → list_any is_fault stops ≡ true
any_fault stops is = by_faults (list_any is_fault stops) refl
  where
    by_lost : (b : Bool) → DoorFault ≡ (if b then OutOfMemory else Done) → ⊥
    by_lost false e = absurd cc
    by_lost true e = absurd cc

    by_faults : (b : Bool) → list_any is_fault stops ≡ b → list_any is_fault stops ≡ true
    by_faults true e = e
    by_faults false e = absurd (by_lost (list_any is_lost stops) (is ∙ ap (λ (b : Bool). if b then DoorFault else (if list_any is_lost stops then OutOfMemory else Done)) e))

no_fault : (stops : List Stop) → serve_ending stops ≢ DoorFault → list_any is_fault stops ≡ false
no_fault stops other = by_faults (list_any is_fault stops) refl
  where
    by_faults : (b : Bool) → list_any is_fault stops ≡ b → list_any is_fault stops ≡ false
    by_faults true e = absurd (other (ap (λ (b : Bool). if b then DoorFault else (if list_any is_lost stops then OutOfMemory else Done)) e))
    by_faults false e = e

door_risen : {R : Type 0} (Work : Worker R → Type 0) (count : R → ℕ) (passes passes_now : List Sitting) (doors doors_now : List R) (ending : ServeEnding) → Tells Work count → AllServedOrNone Work passes passes_now doors doors_now ending → ending ≡ DoorFault → HasDoorRisen count doors doors_now
door_risen {R} Work count passes passes_now doors doors_now ending tells (inl served) is =
    let stops = any_fault (map (λ (w : Worker R). w.stop) served.workers) (sym is ∙ served.ending_is) in
    let here = one_risen Work count tells served.workers served.each stops in
    subst (λ (ds : List R). HasDoorRisen count ds doors_now) (sym served.doors_are)
    (subst (λ (ds : List R). HasDoorRisen count (map (λ (w : Worker R). w.door) served.workers) ds) (sym served.doors_then) here)
door_risen Work count passes passes_now doors doors_now ending tells (inr none) is = let other : OutOfMemory ≡ DoorFault = sym none.0 ∙ is in absurd cc

doors_quiet : {R : Type 0} (Work : Worker R → Type 0) (count : R → ℕ) (passes passes_now : List Sitting) (doors doors_now : List R) (ending : ServeEnding) → Tells Work count → AllServedOrNone Work passes passes_now doors doors_now ending → ending ≢ DoorFault → map count doors_now ≡ map count doors
doors_quiet {R} Work count passes passes_now doors doors_now ending tells (inl served) other =
    let none = no_fault (map (λ (w : Worker R). w.stop) served.workers) (λ is. other (served.ending_is ∙ is)) in
    ap (map count) served.doors_then ∙ (none_risen Work count tells served.workers served.each none ∙ sym (ap (map count) served.doors_are))
doors_quiet Work count passes passes_now doors doors_now ending tells (inr none) other = ap (map count) none.2

-- ---- a node behind its history

-- what is known of its disks since it was opened, and whether it has stopped
pub record IsClosed (goes_on : Bool) (salt : ℕ) (start : State) (h : List Entry) (ready now : Disks) (stopped : Bool) : Type 0 where
  pub legal : IsLegal start h
  pub spares : Spares is_spared start h
  pub says : stopped ≡ has_stopped start h
  pub cause : stopped ≡ true → HaveFailed ready now
  pub quiet : stopped ≡ false → AreQuiet ready now
  pub honesty : SameHonesty ready now
  pub follows : AreHonest now → FollowByGroups goes_on start h ready now
  pub recovers : AreHonest now → stopped ≡ false → Recovers (recovered_on now salt) (state_after start h)
  pub durable : AreHonest now → stopped ≡ false → IsDurable now (state_after start h)
  pub left : AreHonest now → IsLeft now start h

pub closed_node : {D : Type 0} {B : Ghosts D} (n : Node D B) (salt : ℕ) (start : State) (h : List Entry) → StandsFor n start h → IsClosed (node_goes_on n) salt start h (opened_disks n) (node_disks n) (is_some (node_stopped n))
closed_node n salt start h stands = record {
  legal = stands.legal;
  spares = stands.spares;
  says = ap (λ (l : Log). l.stopped) stands.leads;
  cause = stands.cause;
  quiet = λ goes. stands.quiet (none_of (node_stopped n) goes);
  honesty = stands.honesty;
  follows = stands.follows;
  recovers = λ honest goes. subst (Recovers (recovered_on (node_disks n) salt)) leads (kept_recovers n salt (stands.kept honest (none_of (node_stopped n) goes)));
  durable = λ honest goes. subst (IsDurable (node_disks n)) leads (kept_durable n (stands.kept honest (none_of (node_stopped n) goes)));
  left = stands.left;
}
  where
    leads : node_state n ≡ state_after start h
    leads = ap (λ (l : Log). l.state) stands.leads

    none_of : (o : Option ℕ) → is_some o ≡ false → o ≡ None
    none_of None is = refl
    none_of (Some k) is = absurd cc

-- ---- a desk that was opened

pub each_of : (desk : Open) (ps : List Sitting) → Each (IsNew desk) ps → Each (IsOf desk) ps
each_of desk [] new = tt
each_of desk (p ∷ ps) new = (new.0.0, each_of desk ps new.1)

pub enough_for : (doors passes : ℕ) → passes ≡ passes_for doors → doors ≤ passes
enough_for doors passes is = omega (arith, is)

pub some_for : (doors passes : ℕ) → passes ≡ passes_for doors → 0 < passes
some_for doors passes is = omega (arith, is)

-- ---- the doors were served

module _ {R : Type 0} (clock : ℕ → Type 0) (days : ℕ) (goes_on : Bool) (Works : Open → Worker R → Type 0) (count : R → ℕ) (Safe : Type 0) (salt : ℕ) (was now : Outside) (ready : Disks) (doors doors_now : List R) (h : List Entry) (desk : Open) (passes passes_now : List Sitting) (ending : ServeEnding) (report : Report) (stopped : Bool) (told : ℕ) where
  served : IsOpened Safe salt was.disks ready desk.start → IsSettled clock days desk.start.now → desk.origin ≡ origin_of goes_on ready → IsWorked Works h desk passes passes_now doors doors_now ending → IsReport desk.start h report → IsClosed goes_on salt desk.start h ready now.disks stopped
      → IsLineTold (report_line report) was.output now.output told → IsServed clock days goes_on Works salt was now doors doors_now (serve_status stopped ending told)
  served opening settled origin worked counts closed line = record {
    start = desk.start;
    found = record { recovers = opening.found; consistent = opening.consistent };
    settled = settled;
    history = h;
    chronicle = record { legal = closed.legal; laws = lawful desk.start h opening.consistent closed.legal };
    spares = closed.spares;
    desk = desk;
    begins = refl;
    many = worked.many;
    passes = passes;
    passes_now = passes_now;
    fresh = worked.fresh;
    seats = worked.seats;
    seen = worked.seen;
    seated = worked.seated;
    ending = ending;
    serves = worked.serves;
    report = report;
    counts = counts;
    told = told;
    line = line;
    says = ap (λ (b : Bool). serve_status b ending told) closed.says;
    running = λ none. none_stops (fresh_log desk.start) h (sym closed.says ∙ goes_elsewhere stopped ending told (λ five. absurd (omega (arith, none, five))));
    ready = ready;
    origin = origin;
    opens = opening.opens;
    holds = opening.holds;
    unfailed = opening.quiet;
    as_honest = opening.honesty;
    follows = λ honest. closed.follows (stays_honest honest);
    backed = λ honest other. record { recovers = closed.recovers (stays_honest honest) (goes_elsewhere stopped ending told other); durable = closed.durable (stays_honest honest) (goes_elsewhere stopped ending told other) };
    left = λ honest. closed.left (stays_honest honest);
  }
    where
      stays_honest : AreHonest was.disks → AreHonest now.disks
      stays_honest honest = still_honest ready now.disks closed.honesty (still_honest was.disks ready opening.honesty honest)

  free_serving : Tells (Works desk) count → AreQuiet was.disks ready → IsWorked Works h desk passes passes_now doors doors_now ending → IsClosed goes_on salt desk.start h ready now.disks stopped
      → IsLineTold (report_line report) was.output now.output told → IsFreeServing count salt was now doors doors_now → (serve_status stopped ending told ≡ 0) ⊎ (serve_status stopped ending told ≡ 7)
  free_serving tells quiet worked closed line free = by_end stopped ending told refl refl refl
    where
      by_told : IsToldStatus told → (told ≡ 0) ⊎ (told ≡ 7)
      by_told (inl none) = inl none
      by_told (inr (inl four)) = absurd (free.output_quiet (rose_of _ _ (told_fault _ _ _ _ told line.is four)))
      by_told (inr (inr seven)) = inr seven

      by_end : (s : Bool) (e : ServeEnding) (t : ℕ) → stopped ≡ s → ending ≡ e → told ≡ t → (serve_status s e t ≡ 0) ⊎ (serve_status s e t ≡ 7)
      by_end true e t is same so = absurd (free.disk_quiet (failed_on was.disks ready now.disks quiet (closed.cause is)))
      by_end false DoorFault t is same so = absurd (free.door_quiet (door_risen (Works desk) count passes passes_now doors doors_now ending tells worked.serves same))
      by_end false OutOfMemory t is same so = inr refl
      by_end false Done t is same so = subst (λ (n : ℕ). (n ≡ 0) ⊎ (n ≡ 7)) so (by_told (told_status _ _ _ _ told line.is))

  pub served_call : Tells (Works desk) count → IsOpened Safe salt was.disks ready desk.start → IsSettled clock days desk.start.now → desk.origin ≡ origin_of goes_on ready → IsWorked Works h desk passes passes_now doors doors_now ending
      → IsReport desk.start h report → IsClosed goes_on salt desk.start h ready now.disks stopped → IsLineTold (report_line report) was.output now.output told → now.input ≡ was.input → IsServeCall clock days goes_on Works count salt was now doors doors_now (serve_status stopped ending told)
  served_call tells opening settled origin worked counts closed line unread =
      let known = told_status _ _ _ _ told line.is in
      record {
        serving = inr (inr (inr (inr (served opening settled origin worked counts closed line))));
        known = serve_known stopped ending told known;
        write_fault = λ four. told_fault _ _ _ _ told line.is (told_at stopped ending told 4 four (omega arith));
        write_quiet = λ none. told_quiet _ _ _ _ told false line.is (told_at stopped ending told 0 none (omega arith));
        disk_fault = λ five. failed_on was.disks ready now.disks opening.quiet (closed.cause (stopped_at_five stopped ending told known five));
        disk_quiet = λ other. quiet_on was.disks ready now.disks opening.quiet (closed.quiet (goes_elsewhere stopped ending told other));
        broken = λ six. absurd (never_six stopped ending told known six);
        jump = λ jumped. absurd (never_jumped stopped ending told known jumped);
        door_quiet = λ other last. doors_quiet (Works desk) count passes passes_now doors doors_now ending tells worked.serves (no_door_else stopped ending told other last);
        door_fault = λ eight. door_risen (Works desk) count passes passes_now doors doors_now ending tells worked.serves (door_at_eight stopped ending told known eight);
        complete = λ honest free. ⊎_elim inl (λ seven. inr (inl seven)) (free_serving tells opening.quiet worked closed line free);
        unread = unread;
        honesty = honest_on was.disks ready now.disks opening.honesty closed.honesty;
      }

-- ---- statuses

-- a server has no status 2
pub no_two_serve : (status : ℕ) → IsServeStatus status → status ≡ 2 → ⊥
no_two_serve status (inl is) two = omega (arith, is, two)
no_two_serve status (inr (inl is)) two = omega (arith, is, two)
no_two_serve status (inr (inr (inl is))) two = omega (arith, is, two)
no_two_serve status (inr (inr (inr (inl is)))) two = omega (arith, is, two)
no_two_serve status (inr (inr (inr (inr (inl is))))) two = omega (arith, is, two)
no_two_serve status (inr (inr (inr (inr (inr (inl is)))))) two = omega (arith, is, two)
no_two_serve status (inr (inr (inr (inr (inr (inr is)))))) two = omega (arith, is, two)
