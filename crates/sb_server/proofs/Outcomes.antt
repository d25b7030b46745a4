-- What serving tells of the entries of passes and of the faults of doors.
use Rattle.std.proofs.Common.{◌≡◌, ℕ, ◌==◌, List, [], ◌∷◌, ◌++◌, map, filter, sym, refl, ap, ◌∙◌, subst, inl, inr, arith, append-nil, Bool, true, false, ◌||◌, Option, Some, None, Result, Ok, Err}
use Rattle.std.specs.Prelude.{if◌then◌else◌}
use Rattle.std.specs.List.{flat_map, list_any}
use Rattle.std.proofs.lemmas.Grind.{common_steps}
use Rattle.std.proofs.lemmas.List.Folds.{list_any-append}
use Rattle.sb_machine.specs.History.{stops}
use Rattle.sb_machine.specs.declared.call.Call.{Call}
use Rattle.sb_lines.specs.Faults.{answer_of_fault, bad_key, refusal_of}
use Rattle.sb_lines.specs.declared.fault.KeyFault.{KeyFault}
use Rattle.sb_lines.specs.declared.fault.LineFault.{LineFault}
use Rattle.sb_lines.specs.declared.fault.LineFault.TheVariants.{BadKey, OutOfMemory as NoMemory}
use Rattle.sb_lines.specs.declared.line.Line.{Line as ScriptLine}
use Rattle.sb_machine.specs.declared.history.Entry.{Entry}
use Rattle.sb_machine.specs.declared.reply.Answered.{Answered}
use Rattle.sb_machine.specs.declared.reply.Refusal.{Refusal}
use Rattle.sb_desk.specs.Desks.{Open, Sitting}
use Rattle.sb_desk.specs.Entries.{made_by, entries_by, seat_of}
use Rattle.sb_desk.specs.Lists.{Each}
use Rattle.sb_outside.specs.Causes.{Rose}
use Rattle.sb_outside.specs.declared.conn.Conn.{Ghosts as Conn}
use Rattle.sb_outside.specs.declared.door.Door.{Ghosts as Door}
use Rattle.sb_input.specs.Lines.{lines_of}
use Rattle.sb_http.specs.Messages.{RequestMessage}
use Rattle.sb_rest.specs.declared.access.Access.{Access}
use Rattle.sb_server.specs.declared.limits.Limits.{Limits}
use Rattle.sb_server.specs.declared.telling.Turn.{Turn}
use Rattle.sb_server.specs.declared.telling.Turn.TheVariants.{Stops}
use Rattle.sb_server.specs.declared.ask.Ask.{Ask}
use Rattle.sb_server.specs.declared.ask.Ask.TheVariants.{Once, Patient, Line, BadLine, Lines, Fault as NoCall}
use Rattle.sb_server.specs.declared.ending.Ending.{Ending}
use Rattle.sb_server.specs.declared.ending.Ending.TheVariants.{Closed, BadHead, HeadTooLarge, BodyTooLarge, Truncated, LongConnection, ReadFault, Gone, WriteFault, Slow, Stopped as NodeStopped, OutOfMemory as Lost}
use Rattle.sb_server.specs.declared.ending.ServeEnding.{ServeEnding}
use Rattle.sb_server.specs.declared.ending.ServeEnding.TheVariants.{Done, DoorFault, OutOfMemory}
use Rattle.sb_server.specs.declared.work.Stop.{Stop}
use Rattle.sb_server.specs.declared.work.Stop.TheVariants.{Enough, Ended, Fault, Stopped, OutOfMemory as Wanting}
use Rattle.sb_server.specs.declared.body.LineAsk.{LineAsk}
use Rattle.sb_server.specs.declared.body.LineAsk.TheVariants.{Call as LineCall, NoCall as LineNone}
use Rattle.sb_server.specs.Asks.{AsksFor, IsNoLine, asks_close}
use Rattle.sb_server.specs.Bodies.{line_in, lines_in, asked_by, are_lines}
use Rattle.sb_server.specs.Responds.{IsOne, RespondsTo, Responds, LineCalled, IsLineCalled, AreCalled, any_stops, turn_of, waiter_call}
use Rattle.sb_server.specs.Serves.{Worker, WorkerDid, AllServed, is_fault, is_lost, serve_ending}
use Rattle.sb_server.specs.Talks.{Start, Here, Talks, Ends, here_at, start_of}
use Rattle.sb_server.specs.Waiting.{GoesBy, Waits, round_made, rounds_made}
use Rattle.sb_server.specs.Works.{ServedConnection, ServedInTurn, ConnectionServed, TellsFault, StopsBy, is_stop}
use Rattle.sb_server.proofs.Going.{goes_by_none, goes_by_both}

-- ---- the entries of a pass

pub ends_go : (IsReading : ℕ → Type 0) (s : Start) (h : Here) (e : Ending) → Ends IsReading s h e → (made : List Entry) × GoesBy s.pass made h.pass
ends_go IsReading s h Closed (inl t) = (t.made, t.goes)
ends_go IsReading s h Closed (inr t) = (t.0.0.made, t.0.0.goes)
ends_go IsReading s h NodeStopped t = (t.made, t.goes)
ends_go IsReading s h Truncated t = (t.0.0.made, t.0.0.goes)
ends_go IsReading s h LongConnection t = (t.0.0.made, t.0.0.goes)
ends_go IsReading s h ReadFault t = (t.0.0.made, t.0.0.goes)
ends_go IsReading s h BadHead t = (t.talks.made, t.talks.goes)
ends_go IsReading s h HeadTooLarge t = (t.talks.made, t.talks.goes)
ends_go IsReading s h BodyTooLarge t = (t.talks.made, t.talks.goes)
ends_go IsReading s h Gone t = (t.1.made ++ t.1.mine, t.1.goes)
ends_go IsReading s h WriteFault (inl t, rose) = (t.made, t.goes)
ends_go IsReading s h WriteFault (inr t, rose) = (t.1.made ++ t.1.mine, t.1.goes)
ends_go IsReading s h Slow (inl t) = (t.0.0.made, t.0.0.goes)
ends_go IsReading s h Slow (inr (inl t, passed)) = (t.made, t.goes)
ends_go IsReading s h Slow (inr (inr t, passed)) = (t.1.made ++ t.1.mine, t.1.goes)
ends_go IsReading s h Lost t = (t.made, t.goes)

-- a worker's pass goes on by the entries of its connections' calls
pub served_goes : {X : Type 0} (conn : Conn X) (IsReading : ℕ → Type 0) (access : Access) (limits : Limits) (p q : Sitting) (vs : List (ServedConnection X)) → ServedInTurn (ConnectionServed conn IsReading access limits) p vs q → (made : List Entry) × GoesBy p made q
served_goes conn IsReading access limits p q [] w = ([], subst (λ (r : Sitting). GoesBy p [] r) (sym w) (goes_by_none p))
served_goes conn IsReading access limits p q (v ∷ vs) w =
    let one = ends_go IsReading _ _ v.ending w.1.2 in
    let rest = served_goes conn IsReading access limits w.0 q vs w.2 in
    (one.0 ++ rest.0, goes_by_both p w.0 q one.0 rest.0 one.1 rest.1)

-- ---- a namespace that acts no more

or_left : (a b : Bool) → a ≡ true → (a || b) ≡ true
or_left true b e = refl
or_left false b e = absurd cc

or_right : (a b : Bool) → b ≡ true → (a || b) ≡ true
or_right true b e = refl
or_right false b e = e

stop_left : (xs ys : List Entry) → list_any is_stop xs ≡ true → list_any is_stop (xs ++ ys) ≡ true
stop_left xs ys e = list_any-append is_stop xs ys ∙ or_left (list_any is_stop xs) (list_any is_stop ys) e

stop_right : (xs ys : List Entry) → list_any is_stop ys ≡ true → list_any is_stop (xs ++ ys) ≡ true
stop_right xs ys e = list_any-append is_stop xs ys ∙ or_right (list_any is_stop xs) (list_any is_stop ys) e

any_kept : (p q : Entry → Bool) (xs : List Entry) → list_any q (filter p xs) ≡ true → list_any q xs ≡ true
any_kept p q [] e = e
any_kept p q (x ∷ xs) e = by (any_kept p q xs) (p x) refl
  where
    by : (list_any q (filter p xs) ≡ true → list_any q xs ≡ true) → (b : Bool) → p x ≡ b → list_any q (x ∷ xs) ≡ true
    by rest true is = grind (arith, common_steps, e, is, rest)
    by rest false is = grind (arith, common_steps, e, is, rest)

made_stops : (seat : ℕ) (tick : Option ℕ) (reading : ℕ) (call : Call) (answer : Result Answered Refusal) → stops answer ≡ true → list_any is_stop (made_by seat tick reading call answer) ≡ true
made_stops seat (Some t) reading call answer e = or_left (stops answer) false e
made_stops seat None reading call answer e = or_left (stops answer) false e

one_stops : (IsReading : ℕ → Type 0) (seat : ℕ) (call : Call) (made : List Entry) (answer : Result Answered Refusal) → IsOne IsReading seat call made answer → stops answer ≡ true → list_any is_stop made ≡ true
one_stops IsReading seat call made answer one e = ap (list_any is_stop) one.3 ∙ made_stops seat one.0 one.1 call answer e

waits_stops : (IsReading : ℕ → Type 0) (seat : ℕ) (call : Call) (limit : ℕ) (made : List Entry) (answer : Result Answered Refusal) → Waits IsReading seat call limit made answer → stops answer ≡ true → list_any is_stop made ≡ true
waits_stops IsReading seat call limit made answer w e =
    ap (list_any is_stop) w.made_is
    ∙ stop_right (rounds_made seat call w.before) (round_made seat call w.last) (made_stops seat w.last.tick w.last.reading call w.last.answer (ap stops (sym w.answer_is) ∙ e))

turn_stops : (closes ends : Bool) → Stops ≡ turn_of closes ends → ends ≡ true
turn_stops closes true e = refl
turn_stops true false e = absurd cc
turn_stops false false e = absurd cc

-- nor is the refusal of a line at fault
bad_key_goes : (part : Option ℕ) (key : List ℕ) → stops (Err (refusal_of (bad_key part key))) ≡ false
bad_key_goes None key = refl
bad_key_goes (Some part) key = refl

fault_goes : (fault : LineFault) → stops (Err (answer_of_fault fault)) ≡ false
fault_goes (BadKey fault) = bad_key_goes fault.part fault.key
fault_goes NoMemory = refl

no_line_goes : (said : Result ScriptLine KeyFault) (answer : Result Answered Refusal) → IsNoLine said answer → stops answer ≡ false
no_line_goes said answer is = ap stops is.2 ∙ fault_goes is.0

-- ---- several lines

-- a line that is no call isn't answered that the namespace acts no more
abbrev GoesBehind : LineAsk → Type 0
GoesBehind (LineCall line) = Unit {0}
GoesBehind (LineNone answer) = stops answer ≡ false

asked_goes : (said : Result ScriptLine KeyFault) → GoesBehind (asked_by said)
asked_goes (Ok line) = tt
asked_goes (Err fault) = bad_key_goes fault.part fault.key

each_asked_goes : (lines : List (List ℕ)) → Each GoesBehind (map (λ line. asked_by (line_in line)) lines)
each_asked_goes [] = tt
each_asked_goes (line ∷ lines) = (asked_goes (line_in line), each_asked_goes lines)

one_of_both : (b : Bool) (xs ys : List LineAsk) → Each GoesBehind xs → Each GoesBehind ys → Each GoesBehind (if b then xs else ys)
one_of_both true xs ys x y = x
one_of_both false xs ys x y = y

lines_go : (body : List ℕ) → Each GoesBehind (lines_in body)
lines_go body = one_of_both (are_lines (lines_of body)) _ _ (each_asked_goes (lines_of body)) (refl, tt)

line_stops : (IsReading : ℕ → Type 0) (seat : ℕ) (line : LineAsk) (made : List Entry) (answer : Result Answered Refusal) → IsLineCalled IsReading seat line made answer → GoesBehind line → stops answer ≡ true → list_any is_stop made ≡ true
line_stops IsReading seat (LineCall line) made answer called goes e = one_stops IsReading seat line.timed.call made answer called e
line_stops IsReading seat (LineNone refused) made answer called goes e = let ends : stops refused ≡ true = ap stops (sym called.1) ∙ e in absurd cc

stop_by : (IsReading : ℕ → Type 0) (seat : ℕ) (c : LineCalled) (cs : List LineCalled) → IsLineCalled IsReading seat c.line c.made c.answer → GoesBehind c.line → (any_stops cs ≡ true → list_any is_stop (flat_map (λ c. c.made) cs) ≡ true)
    → (b : Bool) → stops c.answer ≡ b → any_stops (c ∷ cs) ≡ true → list_any is_stop (c.made ++ flat_map (λ c. c.made) cs) ≡ true
stop_by IsReading seat c cs called goes rest true is e = stop_left c.made (flat_map (λ c. c.made) cs) (line_stops IsReading seat c.line c.made c.answer called goes is)
stop_by IsReading seat c cs called goes rest false is e = stop_right c.made (flat_map (λ c. c.made) cs) (rest (ap (λ b. b || any_stops cs) (sym is) ∙ e))

called_stop : (IsReading : ℕ → Type 0) (seat : ℕ) (cs : List LineCalled) → Each (λ c. IsLineCalled IsReading seat c.line c.made c.answer) cs → Each GoesBehind (map (λ c. c.line) cs) → any_stops cs ≡ true → list_any is_stop (flat_map (λ c. c.made) cs) ≡ true
called_stop IsReading seat [] each goes e = absurd cc
called_stop IsReading seat (c ∷ cs) each goes e = stop_by IsReading seat c cs each.0 goes.0 (called_stop IsReading seat cs each.1 goes.1) (stops c.answer) refl e

lines_stops : (IsReading : ℕ → Type 0) (seat : ℕ) (body : List ℕ) (lines : List LineAsk) (made : List Entry) (cs : List LineCalled) → lines ≡ lines_in body → AreCalled IsReading seat lines [] made cs → any_stops cs ≡ true → list_any is_stop made ≡ true
lines_stops IsReading seat body lines made cs is called e =
    let all : lines_in body ≡ map (λ c. c.line) cs = sym is ∙ (called.lines_are ∙ append-nil (map (λ c. c.line) cs)) in
    ap (list_any is_stop) called.made_is ∙ called_stop IsReading seat cs called.each (subst (Each GoesBehind) all (lines_go body)) e

answer_stops : (IsReading : ℕ → Type 0) (access : Access) (seat : ℕ) (m : RequestMessage) (ask : Ask) (closes : Bool) (made : List Entry) (out : List ℕ) → AsksFor access m ask → RespondsTo IsReading seat ask closes made out Stops → list_any is_stop made ≡ true
answer_stops IsReading access seat m (Once w asker) closes made out a r = one_stops IsReading seat w.call made r.0 r.1 (turn_stops closes (stops r.0) r.3)
answer_stops IsReading access seat m (Patient waiter limit) closes made out a r = waits_stops IsReading seat (waiter_call waiter) limit made r.0 r.1 (turn_stops closes (stops r.0) r.3)
answer_stops IsReading access seat m (Line line) closes made out a r = one_stops IsReading seat line.timed.call made r.0 r.1 (turn_stops closes (stops r.0) r.3)
answer_stops IsReading access seat m (BadLine answer) closes made out a r =
    let goes = no_line_goes (line_in m.body) answer a.1 in
    let ends = turn_stops closes (stops answer) r.2 in
    absurd cc
answer_stops IsReading access seat m (Lines lines) closes made out a r = lines_stops IsReading seat m.body lines made r.0 a.1 r.1 (turn_stops closes (any_stops r.0) r.3)
answer_stops IsReading access seat m (NoCall fault) closes made out a r = let ends = turn_stops closes false r.2 in absurd cc

responds_stop : (IsReading : ℕ → Type 0) (access : Access) (seat : ℕ) (ms : List RequestMessage) (made : List Entry) (out : List ℕ) → Responds IsReading access seat ms made out Stops → list_any is_stop made ≡ true
responds_stop IsReading access seat [] made out r = absurd cc
responds_stop IsReading access seat (m ∷ ms) made out (mine, rest, first, others, turn, made_is, out_is, one, inl on) = ap (list_any is_stop) made_is ∙ stop_right mine rest (responds_stop IsReading access seat ms rest others on.1)
responds_stop IsReading access seat (m ∷ ms) made out (mine, rest, first, others, turn, made_is, out_is, one, inr last) =
    ap (list_any is_stop) made_is
    ∙ stop_left mine rest (answer_stops IsReading access seat m one.ask (asks_close m) mine first one.asks (subst (λ (t : Turn). RespondsTo IsReading seat one.ask (asks_close m) mine first t) (sym last.after_is) one.responds))

stop_seen : (IsReading : ℕ → Type 0) (s : Start) (h : Here) → Talks IsReading s h Stops → list_any is_stop h.pass.seen ≡ true
stop_seen IsReading s h t =
    let mine : list_any is_stop (entries_by s.pass.seat t.goes.0) ≡ true = ap (list_any is_stop) t.goes.2 ∙ responds_stop IsReading s.access s.pass.seat t.ms t.made t.out t.responds in
    let more : list_any is_stop t.goes.0 ≡ true = any_kept (λ (e : Entry). seat_of e == s.pass.seat) is_stop t.goes.0 mine in
    ap (λ (p : Sitting). list_any is_stop p.seen) t.goes.1 ∙ stop_right s.pass.seen t.goes.0 more

last_stops : {X : Type 0} (conn : Conn X) (IsReading : ℕ → Type 0) (access : Access) (limits : Limits) (p q : Sitting) (front : List (ServedConnection X)) (v : ServedConnection X) → v.ending ≡ NodeStopped → ServedInTurn (ConnectionServed conn IsReading access limits) p (front ++ v ∷ []) q → list_any is_stop q.seen ≡ true
last_stops conn IsReading access limits p q [] v is w =
    let s : Start = start_of conn access limits p v.before in
    let h : Here = here_at conn w.0 w.1.0 v.after in
    ap (λ (r : Sitting). list_any is_stop r.seen) w.2 ∙ stop_seen IsReading s h (subst (λ (e : Ending). Ends IsReading s h e) is w.1.2)
last_stops conn IsReading access limits p q (u ∷ front) v is w = last_stops conn IsReading access limits w.0 q front v is w.2

-- a worker that ended with the namespace has seen that it acts no more
pub stopped_seen : {X : Type 0} (conn : Conn X) (IsReading : ℕ → Type 0) (access : Access) (limits : Limits) (p q : Sitting) (vs : List (ServedConnection X)) (s : Stop) (most : ℕ) (ended : Bool) (before now : ℕ)
    → ServedInTurn (ConnectionServed conn IsReading access limits) p vs q → StopsBy s most vs ended before now → s ≡ Stopped → list_any is_stop q.seen ≡ true
stopped_seen {X = X} conn IsReading access limits p q vs s most ended before now w stops is =
    let by : StopsBy Stopped most vs ended before now = subst (λ (t : Stop). StopsBy t most vs ended before now) is stops in
    last_stops conn IsReading access limits p q by.cause.0 by.cause.1 by.cause.3 (subst (λ (l : List (ServedConnection X)). ServedInTurn (ConnectionServed conn IsReading access limits) p l q) by.cause.2 w)

-- ---- a door that failed

-- one of the workers, of which this holds
pub record One {D : Type 0} (P : Worker D → Type 0) (workers : List (Worker D)) : Type 0 where
  pub front : List (Worker D)
  pub worker : Worker D
  pub back : List (Worker D)
  pub workers_are : workers ≡ front ++ worker ∷ back
  pub has : P worker

one_fault : {D : Type 0} (WorkedSo : Worker D → Type 0) (ws : List (Worker D)) → Each WorkedSo ws → list_any is_fault (map (λ w. w.stop) ws) ≡ true → One (λ w. WorkedSo w × (w.stop ≡ Fault)) ws
one_fault WorkedSo [] each e = absurd cc
one_fault {D = D} WorkedSo (w ∷ ws) each e = by (λ f. later (one_fault WorkedSo ws each.1 f)) w.stop refl
  where
    later : One (λ v. WorkedSo v × (v.stop ≡ Fault)) ws → One (λ v. WorkedSo v × (v.stop ≡ Fault)) (w ∷ ws)
    later o = record { front = w ∷ o.front; worker = o.worker; back = o.back; workers_are = ap (λ (l : List (Worker D)). w ∷ l) o.workers_are; has = o.has }

    rest : (s : Stop) → w.stop ≡ s → is_fault s ≡ false → list_any is_fault (map (λ v. v.stop) ws) ≡ true
    rest s is other = sym (ap (λ (b : Bool). b || list_any is_fault (map (λ v. v.stop) ws)) (ap is_fault is ∙ other)) ∙ e

    by : (list_any is_fault (map (λ v. v.stop) ws) ≡ true → One (λ v. WorkedSo v × (v.stop ≡ Fault)) (w ∷ ws)) → (s : Stop) → w.stop ≡ s → One (λ v. WorkedSo v × (v.stop ≡ Fault)) (w ∷ ws)
    by go Fault is = record { front = []; worker = w; back = ws; workers_are = refl; has = (each.0, is) }
    by go Enough is = go (rest Enough is refl)
    by go Ended is = go (rest Ended is refl)
    by go Stopped is = go (rest Stopped is refl)
    by go Wanting is = go (rest Wanting is refl)

told : (a b : Bool) → DoorFault ≡ (if a then DoorFault else (if b then OutOfMemory else Done)) → a ≡ true
told true b e = refl
told false true e = absurd cc
told false false e = absurd cc

fault_told : (stops : List Stop) → DoorFault ≡ serve_ending stops → list_any is_fault stops ≡ true
fault_told stops e = told (list_any is_fault stops) (list_any is_lost stops) e

-- a door's count rose, where that is how serving ended
pub door_rose : {D X : Type 0} (door : Door D X) (ServedSo : Sitting → ServedConnection X → Sitting → Type 0) (desk : Open) (most : ℕ) (passes passes_after : List Sitting) (doors doors_after : List D) (ending : ServeEnding)
    (s : AllServed (WorkerDid door ServedSo desk most) passes passes_after doors doors_after ending) → ending ≡ DoorFault → One (λ w. Rose (door.count w.door) (door.count w.door_after)) s.workers
door_rose door ServedSo desk most passes passes_after doors doors_after ending s is =
    let o = one_fault (WorkerDid door ServedSo desk most) s.workers s.each (fault_told (map (λ w. w.stop) s.workers) (sym is ∙ s.ending_is)) in
    record {
      front = o.front;
      worker = o.worker;
      back = o.back;
      workers_are = o.workers_are;
      has = subst (λ (t : Stop). TellsFault t (door.count o.worker.door) (door.count o.worker.door_after)) o.has.1 o.has.0.stops.faults;
    }
