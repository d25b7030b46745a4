-- What a crash or a failed disk leaves is the state after a legal history.
use Rattle.std.proofs.Common.{Bool, Err, List, None, Ok, Option, Result, Some, [], ap, arith, false, inl, inr, refl, subst, sym, true, ℕ, ◌++◌, ◌∙◌, ◌∷◌, ◌≡◌, ◌≤◌}
use Rattle.std.specs.Prelude.{MatchBool, if◌then◌else◌}
use Rattle.sb_laws.proofs.Answered.{end_fault}
use Rattle.sb_laws.proofs.Histories.{goes_on}
use Rattle.sb_laws.proofs.Legal.{call_goes, replied}
use Rattle.sb_laws.proofs.Named.{IsWell, starts_well, well_after}
use Rattle.sb_laws.proofs.Orders.{orderly_is_sweepable, orderly_lasts}
use Rattle.sb_laws.proofs.Sweeps.{nothing_due_after}
use Rattle.sb_laws.specs.Joined.{AreFound, IsRunning, Joins, StepJoins, entries_left, has_call, ticked, without_effect}
use Rattle.sb_machine.specs.Answers.{answer_of, max_moment, moment_of, state_of}
use Rattle.sb_machine.specs.Consistent.{IsConsistent}
use Rattle.sb_machine.specs.Due.{is_due}
use Rattle.sb_machine.specs.Events.{AreUndecided, MayLeave, after_event, replayed}
use Rattle.sb_machine.specs.History.{Follows, IsAllowed, IsAnswer, IsLegal, IsLegalFrom, Log, advanced, after_entries, after_entry, entries_at, fresh_log, is_disk_fault, is_end, is_fault, is_spent, is_stopped, state_after, stops}
use Rattle.sb_machine.specs.declared.call.Call.{Call}
use Rattle.sb_machine.specs.declared.call.Event.{Event}
use Rattle.sb_machine.specs.declared.call.Event.TheVariants.{Called, Tick}
use Rattle.sb_machine.specs.declared.history.Entry.{Entry}
use Rattle.sb_machine.specs.declared.history.Entry.TheVariants.{Ticked, Answered as Replied}
use Rattle.sb_machine.specs.declared.reply.Answered.{Answered}
use Rattle.sb_machine.specs.declared.reply.Refusal.{Refusal}
use Rattle.sb_machine.specs.declared.reply.Refusal.TheVariants.{DiskFault, Exhausted, OutOfMemory, Stopped}
use Rattle.sb_machine.specs.declared.state.Space.{Space}
use Rattle.sb_machine.specs.declared.state.State.{State}

-- ---- entries behind entries

after_more : (l : Log) (h more : List Entry) → after_entries l (h ++ more) ≡ after_entries (after_entries l h) more
after_more l [] more = refl
after_more l (e ∷ es) more = after_more (after_entry l e) es more

front_legal : (l : Log) (h more : List Entry) → IsLegalFrom l (h ++ more) → (after_entries l h).tick ≡ None → IsLegalFrom l h
front_legal l [] more legal free = free
front_legal l (e ∷ es) more legal free = (legal.0, front_legal (after_entry l e) es more legal.1 free)

entries_well : (l : Log) (h : List Entry) → IsLegalFrom l h → IsWell l.state → IsWell (after_entries l h).state
entries_well l [] legal well = well
entries_well l (e ∷ es) legal well = entries_well (after_entry l e) es legal.1 (well_after l e legal.0 well)

-- legal entries that leave it running in that state
abbrev pub Leads : Log → List Entry → State → Type 0
Leads l es later = IsLegalFrom l es × (after_entries l es ≡ fresh_log later)

leads_on : (l : Log) (es rest : List Entry) (now later : State) → Leads l es now → Leads (fresh_log now) rest later → Leads l (es ++ rest) later
leads_on l es rest now later here next =
    (goes_on l es rest here.0 (subst (λ (k : Log). IsLegalFrom k rest) (sym here.1) next.0), after_more l es rest ∙ ap (λ (k : Log). after_entries k rest) here.1 ∙ next.1)

leads_well : (l : Log) (es : List Entry) (later : State) → Leads l es later → IsWell l.state → IsWell later
leads_well l es later here well = subst IsWell (ap (λ (k : Log). k.state) here.1) (entries_well l es here.0 well)

join : (start : State) (es : List Entry) (found : State) → Leads (fresh_log start) es found → Joins start es found
join start es found here = record {
  legal = here.0;
  leads = here.1;
  joins = λ more next. goes_on (fresh_log start) es more here.0 (subst (λ (l : Log). IsLegalFrom l more) (sym here.1) next);
  ends = λ more. ap (λ (l : Log). l.state) (after_more (fresh_log start) es more) ∙ ap (λ (l : Log). (after_entries l more).state) here.1;
}

-- ---- what is left of a call

-- a call without effect is a fault, which changes nothing and stops nothing
faulted : (l : Log) (seat reading : ℕ) (call : Call) → l.stopped ≡ false
    → MatchBool l.stopped (is_end l.failing (Err OutOfMemory) ≡ true) (is_fault (Err OutOfMemory) ≡ false → IsAnswer l.state (moment_of l.state reading) call (Err OutOfMemory)) × (after_entry l (without_effect seat reading call) ≡ fresh_log l.state)
faulted l seat reading call running = (rw running (λ fine. absurd cc), rw running refl)

module _ (l : Log) (seat reading : ℕ) (call : Call) (running : l.stopped ≡ false) (follows : Follows l.tick seat (moment_of l.state reading)) where
  abbrev t : ℕ
  t = moment_of l.state reading

  lost_leads : Leads l (without_effect seat reading call ∷ []) l.state
  lost_leads = let none = faulted l seat reading call running in (((follows, none.0), refl), none.1)

  called_leads : is_due t l.state.space ≡ false → Leads l (Replied seat reading call (answer_of l.state t call) ∷ []) (state_of l.state t call)
  called_leads none = let next = replied l seat t reading call running follows refl none in ((next.0, refl), next.1)

  module _ (free : is_due (moment_of l.state reading) l.state.space ≡ true → l.tick ≡ None) (well : IsWell l.state) where
    same_moment : t ≡ moment_of (advanced l.state t) reading
    same_moment = omega arith

    may_tick : is_due t l.state.space ≡ true → is_spent l.state t ≡ false → IsAllowed l (Ticked seat t)
    may_tick due room = let early : l.state.now ≤ max_moment = well.orderly.now in (running, free due, (omega arith, omega (arith, early), due, room))

    ticked_leads : is_due t l.state.space ≡ true → is_spent l.state t ≡ false → Leads l (Ticked seat t ∷ without_effect seat reading call ∷ []) (advanced l.state t)
    ticked_leads due room =
        let behind = faulted (after_entry l (Ticked seat t)) seat reading call running in
        ((may_tick due room, (((refl, sym same_moment), behind.0), refl)), behind.1)

    stepped_leads : is_due t l.state.space ≡ true → is_spent l.state t ≡ false → Leads l (Ticked seat t ∷ Replied seat reading call (answer_of (advanced l.state t) t call) ∷ []) (state_of (advanced l.state t) t call)
    stepped_leads due room =
        let none : is_due t (advanced l.state t).space ≡ false = nothing_due_after l.state t (orderly_is_sweepable l.state well.orderly) in
        let next = replied (after_entry l (Ticked seat t)) seat t reading call running (refl, sym same_moment) same_moment none in
        ((may_tick due room, (next.0, refl)), next.1)

    -- the tick that a call makes where something is due, and time can go on or not
    abbrev tick_if : Bool → Bool → List Event
    tick_if due spent = if due then (if spent then [] else Tick t ∷ []) else []

    tick_left : (b c : Bool) → is_due t l.state.space ≡ b → is_spent l.state t ≡ c → Leads l (entries_left seat l.state reading call (tick_if b c)) (replayed l.state (tick_if b c))
    tick_left true true due spent = lost_leads
    tick_left true false due room = ticked_leads due room
    tick_left false c none any = lost_leads

    -- the entries that a call makes so
    abbrev entries_if : Bool → Bool → List Entry
    entries_if due spent =
        if due
        then (if spent then Replied seat reading call (Err Exhausted) ∷ [] else Ticked seat t ∷ Replied seat reading call (answer_of (advanced l.state t) t call) ∷ [])
        else Replied seat reading call (answer_of l.state t call) ∷ []

    step_left : (b c : Bool) → is_due t l.state.space ≡ b → is_spent l.state t ≡ c → is_due t (replayed l.state (tick_if b c)).space ≡ false
        → Leads l (if has_call (tick_if b c ++ Called t call ∷ []) then entries_if b c else ticked seat (tick_if b c ++ Called t call ∷ []) ++ without_effect seat reading call ∷ []) (replayed l.state (tick_if b c ++ Called t call ∷ []))
    step_left true true due spent quiet = let bad : true ≡ false = sym due ∙ quiet in absurd cc
    step_left true false due room quiet = stepped_leads due room
    step_left false c none any quiet = called_leads none

    left_leads : (events : List Event) → MayLeave l.state reading call events → Leads l (entries_left seat l.state reading call events) (replayed l.state events)
    left_leads events may = by may where
      so : (is : List Event) → events ≡ is → Leads l (entries_left seat l.state reading call is) (replayed l.state is) → Leads l (entries_left seat l.state reading call events) (replayed l.state events)
      so is same here = subst (λ (es : List Event). Leads l (entries_left seat l.state reading call es) (replayed l.state es)) (sym same) here

      by : MayLeave l.state reading call events → Leads l (entries_left seat l.state reading call events) (replayed l.state events)
      by (inl none) = so [] none lost_leads
      by (inr (inl tick)) = so (tick_if (is_due t l.state.space) (is_spent l.state t)) tick (tick_left (is_due t l.state.space) (is_spent l.state t) refl refl)
      by (inr (inr whole)) = so (tick_if (is_due t l.state.space) (is_spent l.state t) ++ Called t call ∷ []) whole.1 (step_left (is_due t l.state.space) (is_spent l.state t) refl refl whole.0.0)

pub fronts_join : (start : State) (h more : List Entry) (seat reading : ℕ) (call : Call) → IsConsistent start → IsLegal start (h ++ more) → IsRunning start h → StepJoins start h seat reading call
fronts_join start h more seat reading call consistent legal running =
    let now = state_after start h in
    let front : IsLegal start h = front_legal (fresh_log start) h more legal (ap (λ (l : Log). l.tick) running) in
    let well : IsWell now = entries_well (fresh_log start) h front (starts_well start consistent) in
    let step = call_goes seat now reading call (orderly_lasts now well.orderly) well.orderly.now in
    record {
      none = join start h now (front, running);
      left = λ events may.
          join start (h ++ entries_left seat now reading call events) (replayed now events)
          (leads_on (fresh_log start) h (entries_left seat now reading call events) now (replayed now events) (front, running) (left_leads (fresh_log now) seat reading call refl tt (λ due. refl) well events may));
      whole =
          join start (h ++ entries_at seat now reading call) (state_after now (entries_at seat now reading call))
          (leads_on (fresh_log start) h (entries_at seat now reading call) now (state_after now (entries_at seat now reading call)) (front, running) (step.legal, step.log ∙ ap fresh_log (sym (ap (λ (l : Log). l.state) step.log))));
    }

-- ---- answers of a failed disk

end_stops : (failing : Bool) (a : Result Answered Refusal) → is_end failing a ≡ true → stops a ≡ true
end_stops true a e = e
end_stops false (Ok r) e = absurd cc
end_stops false (Err r) e = by r e where
  by : (r : Refusal) → is_stopped (Err r) ≡ true → stops (Err r) ≡ true
  by (Stopped n) e = refl
  by _ e = absurd cc

stops_is : (a : Result Answered Refusal) → stops a ≡ true → is_disk_fault a ≡ false → is_stopped a ≡ true
stops_is (Ok r) e fine = absurd cc
stops_is (Err r) e fine = by r e fine where
  by : (r : Refusal) → stops (Err r) ≡ true → is_disk_fault (Err r) ≡ false → is_stopped (Err r) ≡ true
  by DiskFault e fine = absurd cc
  by (Stopped n) e fine = refl
  by _ e fine = absurd cc

stops_fault : (a : Result Answered Refusal) → stops a ≡ true → is_fault a ≡ true
stops_fault a e = end_fault true a e

runs_is : (a : Result Answered Refusal) → stops a ≡ false → (is_disk_fault a ≡ false) × (is_stopped a ≡ false)
runs_is (Ok r) e = (refl, refl)
runs_is (Err r) e = by r e where
  by : (r : Refusal) → stops (Err r) ≡ false → (is_disk_fault (Err r) ≡ false) × (is_stopped (Err r) ≡ false)
  by DiskFault e = absurd cc
  by (Stopped n) e = absurd cc
  by _ e = (refl, refl)

-- behind a stop nothing changes
stopped_stays : (l : Log) (h : List Entry) → l.stopped ≡ true → IsLegalFrom l h → (after_entries l h).state ≡ l.state
stopped_stays l [] stopped legal = refl
stopped_stays l (Ticked seat t ∷ es) stopped legal = let bad : true ≡ false = sym stopped ∙ legal.0.0 in absurd cc
stopped_stays l (Replied seat reading call answer ∷ es) stopped legal =
    let ended : is_end l.failing answer ≡ true = rw stopped at legal.0.1 in
    let fault = end_fault l.failing answer ended in
    let here : (after_entry l (Replied seat reading call answer)).state ≡ l.state = rw fault refl in
    let still : (after_entry l (Replied seat reading call answer)).stopped ≡ true = rw stopped refl in
    stopped_stays (after_entry l (Replied seat reading call answer)) es still legal.1 ∙ here

-- at the moment of a tick that waits for its call nothing is due any more
abbrev IsQuiet : Option (ℕ × ℕ) → Space → Type 0
IsQuiet None s = Unit {0}
IsQuiet (Some tick) s = is_due tick.1 s ≡ false

free_of : (tick : Option (ℕ × ℕ)) (seat m : ℕ) (s : Space) → Follows tick seat m → IsQuiet tick s → is_due m s ≡ true → tick ≡ None
free_of None seat m s follows quiet due = refl
free_of (Some tick) seat m s follows quiet due = let bad : true ≡ false = sym due ∙ ap (λ (k : ℕ). is_due k s) follows.1 ∙ quiet in absurd cc

-- ---- what is found of a history that a failed disk ended

replayed_more : (s : State) (own others : List Event) → replayed s (own ++ others) ≡ replayed (replayed s own) others
replayed_more s [] others = refl
replayed_more s (e ∷ es) others = replayed_more (after_event s e) es others

-- of a call that the disk failed, what may be undecided, and what is found
abbrev pub IsLeft : State → ℕ → Call → List Entry → List Event → Type 0
IsLeft s reading call es events = (own others : List Event) × (events ≡ own ++ others) × MayLeave s reading call own × AreUndecided (replayed s own) es others

abbrev pub IsFoundLeft : State → ℕ → ℕ → Call → List Entry → List Event → List Entry → Type 0
IsFoundLeft s seat reading call es events found =
    (own others : List Event) × (rest : List Entry) × (events ≡ own ++ others) × MayLeave s reading call own × (found ≡ entries_left seat s reading call own ++ rest) × AreFound (replayed s own) es others rest

-- of any other call, what is found
abbrev pub IsFoundSo : State → ℕ → ℕ → Call → Result Answered Refusal → List Entry → List Event → List Entry → Type 0
IsFoundSo s seat reading call answer es events found = (rest : List Entry) × (found ≡ (if is_stopped answer then without_effect seat reading call else Replied seat reading call answer) ∷ rest) × AreFound s es events rest

-- entries that are found, and lead from a log to where the events lead from a state
pub record Finds (l : Log) (s : State) (events : List Event) (Are : List Entry → Type 0) : Type 0 where
  pub found : List Entry
  pub are : Are found
  pub leads : Leads l found (replayed s events)

abbrev pub FindsAll : State → List Entry → List Event → Type 0
FindsAll s es events = Finds (fresh_log s) s events (λ found. AreFound s es events found)

-- a call that a stop answered: what is left of it is found, and then what is found behind it
ended : (l : Log) (seat reading : ℕ) (call : Call) (answer : Result Answered Refusal) (es : List Entry) (events : List Event) → l.stopped ≡ false → Follows l.tick seat (moment_of l.state reading)
    → (is_due (moment_of l.state reading) l.state.space ≡ true → l.tick ≡ None) → IsWell l.state → stops answer ≡ true
    → ((now : State) (others : List Event) → IsWell now → AreUndecided now es others → FindsAll now es others)
    → AreUndecided l.state (Replied seat reading call answer ∷ es) events → Finds l l.state events (λ found. AreFound l.state (Replied seat reading call answer ∷ es) events found)
ended l seat reading call answer es events running follows free well stop ih hangs = at (is_disk_fault answer) refl hangs where
  at : (b : Bool) → is_disk_fault answer ≡ b → MatchBool b (IsLeft l.state reading call es events) (AreUndecided l.state es events)
      → Finds l l.state events (λ found. MatchBool b (IsFoundLeft l.state seat reading call es events found) (IsFoundSo l.state seat reading call answer es events found))
  at true is left =
      let own = left.0 in
      let here = left_leads l seat reading call running follows free well own left.3 in
      let rest = ih (replayed l.state own) left.1 (leads_well l (entries_left seat l.state reading call own) (replayed l.state own) here well) left.4 in
      let both = leads_on l (entries_left seat l.state reading call own) rest.found (replayed l.state own) (replayed (replayed l.state own) left.1) here rest.leads in
      let same : replayed l.state events ≡ replayed (replayed l.state own) left.1 = ap (replayed l.state) left.2 ∙ replayed_more l.state own left.1 in
      record {
        found = entries_left seat l.state reading call own ++ rest.found;
        are = (own, left.1, rest.found, left.2, left.3, refl, rest.are);
        leads = (both.0, both.1 ∙ ap fresh_log (sym same));
      }
  at false is later =
      let rest = ih l.state events well later in
      record {
        found = without_effect seat reading call ∷ rest.found;
        are = (rest.found, ap (λ (b : Bool). (if b then without_effect seat reading call else Replied seat reading call answer) ∷ rest.found) (sym (stops_is answer stop is)), rest.are);
        leads = leads_on l (without_effect seat reading call ∷ []) rest.found l.state (replayed l.state events) (lost_leads l seat reading call running follows) rest.leads;
      }

-- behind a stop each call is answered so
all_ended : (l : Log) (s : State) (es : List Entry) (events : List Event) → l.stopped ≡ true → IsLegalFrom l es → IsWell s → AreUndecided s es events → FindsAll s es events
all_ended l s [] events stopped legal well hangs = record { found = []; are = refl; leads = (refl, ap (λ (es : List Event). fresh_log (replayed s es)) (sym hangs)) }
all_ended l s (Ticked seat t ∷ es) events stopped legal well hangs = let bad : true ≡ false = sym stopped ∙ legal.0.0 in absurd cc
all_ended l s (Replied seat reading call answer ∷ es) events stopped legal well hangs =
    let refused : is_end l.failing answer ≡ true = rw stopped at legal.0.1 in
    let still : (after_entry l (Replied seat reading call answer)).stopped ≡ true = rw stopped refl in
    ended (fresh_log s) seat reading call answer es events refl tt (λ due. refl) well (end_stops l.failing answer refused)
    (λ now others fine left. all_ended (after_entry l (Replied seat reading call answer)) now es others still legal.1 fine left) hangs

fresh_is : (s : State) (stopped failing : Bool) (tick : Option (ℕ × ℕ)) → stopped ≡ false → failing ≡ false → tick ≡ None → ◌≡◌ {A = Log} (record { state = s; stopped = stopped; failing = failing; tick = tick }) (fresh_log s)
fresh_is s stopped failing tick runs calm free = rw (runs, calm, free) refl

of_false : (b : Bool) (X Y : Type 0) → b ≡ false → Y → MatchBool b X Y
of_false true X Y e y = absurd cc
of_false false X Y e y = y

from_false : (b : Bool) (X Y : Type 0) → b ≡ false → MatchBool b X Y → Y
from_false true X Y e m = absurd cc
from_false false X Y e m = m

-- up to the first stop each entry is found as it is
all_found : (l : Log) (h : List Entry) (events : List Event) → IsLegalFrom l h → l.stopped ≡ false → l.failing ≡ false → IsQuiet l.tick l.state.space → IsWell l.state → AreUndecided (after_entries l h).state h events
    → Finds l (after_entries l h).state events (λ found. AreFound (after_entries l h).state h events found)
all_found l [] events legal running calm quiet well hangs =
    record { found = []; are = refl; leads = (legal, fresh_is l.state l.stopped l.failing l.tick running calm legal ∙ ap (λ (es : List Event). fresh_log (replayed l.state es)) (sym hangs)) }
all_found l (Ticked seat t ∷ es) events legal running calm quiet well hangs =
    let rest = all_found (after_entry l (Ticked seat t)) es events legal.1 running refl (nothing_due_after l.state t (orderly_is_sweepable l.state well.orderly)) (well_after l (Ticked seat t) legal.0 well) hangs in
    record { found = Ticked seat t ∷ rest.found; are = (rest.found, refl, rest.are); leads = ((legal.0, rest.leads.0), rest.leads.1) }
all_found l (Replied seat reading call answer ∷ es) events legal running calm quiet well hangs =
    at (stops answer) refl (λ still fine left. all_found (after_entry l (Replied seat reading call answer)) es events legal.1 still fine tt (well_after l (Replied seat reading call answer) legal.0 well) left) where
      at : (b : Bool) → stops answer ≡ b
          → ((after_entry l (Replied seat reading call answer)).stopped ≡ false → is_disk_fault answer ≡ false → AreUndecided (after_entries (after_entry l (Replied seat reading call answer)) es).state es events
          → Finds (after_entry l (Replied seat reading call answer)) (after_entries (after_entry l (Replied seat reading call answer)) es).state events (λ found. AreFound (after_entries (after_entry l (Replied seat reading call answer)) es).state es events found))
          → Finds l (after_entries (after_entry l (Replied seat reading call answer)) es).state events (λ found. AreFound (after_entries (after_entry l (Replied seat reading call answer)) es).state (Replied seat reading call answer ∷ es) events found)
      at true stop ih =
          let here : (after_entry l (Replied seat reading call answer)).state ≡ l.state = rw (stops_fault answer stop) refl in
          let still : (after_entry l (Replied seat reading call answer)).stopped ≡ true = rw (running, stop) refl in
          let same : (after_entries (after_entry l (Replied seat reading call answer)) es).state ≡ l.state = stopped_stays (after_entry l (Replied seat reading call answer)) es still legal.1 ∙ here in
          subst (λ (s : State). AreUndecided s (Replied seat reading call answer ∷ es) events → Finds l s events (λ found. AreFound s (Replied seat reading call answer ∷ es) events found)) (sym same)
          (ended l seat reading call answer es events running legal.0.0 (free_of l.tick seat (moment_of l.state reading) l.state.space legal.0.0 quiet) well stop
          (λ now others fine left. all_ended (after_entry l (Replied seat reading call answer)) now es others still legal.1 fine left)) hangs
      at false runs ih =
          let plain = runs_is answer runs in
          let s = (after_entries (after_entry l (Replied seat reading call answer)) es).state in
          let rest = ih (rw (running, runs) refl) plain.0 (from_false (is_disk_fault answer) (IsLeft s reading call es events) (AreUndecided s es events) plain.0 hangs) in
          record {
            found = Replied seat reading call answer ∷ rest.found;
            are = of_false (is_disk_fault answer) (IsFoundLeft s seat reading call es events (Replied seat reading call answer ∷ rest.found)) (IsFoundSo s seat reading call answer es events (Replied seat reading call answer ∷ rest.found)) plain.0
                (rest.found, ap (λ (b : Bool). (if b then without_effect seat reading call else Replied seat reading call answer) ∷ rest.found) (sym plain.1), rest.are);
            leads = ((legal.0, rest.leads.0), rest.leads.1);
          }

pub undecided_joins : (start : State) (h : List Entry) (events : List Event) → IsConsistent start → IsLegal start h → AreUndecided (state_after start h) h events
    → (found : List Entry) × AreFound (state_after start h) h events found × Joins start found (replayed (state_after start h) events)
undecided_joins start h events consistent legal hangs =
    let all = all_found (fresh_log start) h events legal refl refl tt (starts_well start consistent) hangs in
    (all.found, all.are, join start all.found (replayed (state_after start h) events) all.leads)
