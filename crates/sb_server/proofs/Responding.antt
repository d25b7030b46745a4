-- One response more.
use Rattle.std.proofs.Common.{◌≡◌, ◌⊎◌, ℕ, List, [], ◌∷◌, ◌++◌, sym, refl, ap, ◌∙◌, subst, inl, inr, append_assoc, append-nil, Bool, false, Result}
use Rattle.sb_machine.specs.History.{stops}
use Rattle.sb_machine.specs.declared.history.Entry.{Entry}
use Rattle.sb_machine.specs.declared.reply.Answered.{Answered}
use Rattle.sb_machine.specs.declared.reply.Refusal.{Refusal}
use Rattle.sb_desk.specs.Desks.{Sitting}
use Rattle.sb_desk.specs.Entries.{made_by}
use Rattle.sb_lines.specs.declared.form.Form.TheVariants.{Plain}
use Rattle.sb_rest.specs.declared.access.Access.{Access}
use Rattle.sb_rest.specs.declared.call.RestFault.{RestFault}
use Rattle.sb_http.specs.Messages.{RequestMessage}
use Rattle.sb_server.specs.declared.telling.Turn.{Turn}
use Rattle.sb_server.specs.declared.telling.Turn.TheVariants.{Goes, Closes, Stops}
use Rattle.sb_server.specs.declared.telling.Said.TheVariants.{Line as OfLine, Fault as OfFault}
use Rattle.sb_server.specs.declared.telling.Telling.{Telling}
use Rattle.sb_server.specs.declared.doing.Begun.{Begun}
use Rattle.sb_server.specs.declared.doing.Begun.TheVariants.{Done, Waits, Calls, Says as WasCalled}
use Rattle.sb_server.specs.declared.patience.Patience.{Patience}
use Rattle.sb_server.specs.declared.ask.Ask.{Ask}
use Rattle.sb_server.specs.declared.ask.Ask.TheVariants.{Once, Patient, Line, BadLine, Lines, Fault}
use Rattle.sb_server.specs.declared.ask.Waiter.{Waiter}
use Rattle.sb_server.specs.declared.ask.Waiter.TheVariants.{ByRest, ByLine}
use Rattle.sb_server.specs.Asks.{AsksFor, IsLineAsk, IsScript}
use Rattle.sb_server.specs.Doings.{Answers, Says, Begins, IsSettled, said_of, stops_by, telling_of}
use Rattle.sb_server.specs.Responds.{AnswersWaiter, IsInOrder, Responds, Responded, IsLast, once, turn_of, waiter_call}
use Rattle.sb_server.specs.Talks.{ending_of}
use Rattle.sb_server.specs.Waiting.{GoesByCall, Waiting}
use Rattle.sb_server.proofs.Going.{goes_by_none, waiting_done}

-- what a request asks for is in order
pub asks_in_order : (access : Access) (m : RequestMessage) (ask : Ask) → AsksFor access m ask → IsInOrder ask
asks_in_order access m (Once w asker) x = x.in_order
asks_in_order access m (Patient (ByRest w asker) limit) x = x.0.in_order
asks_in_order access m (Patient (ByLine line) limit) x = x.1.0.1
asks_in_order access m (Line line) x = x.1.0.1
asks_in_order access m (BadLine answer) x = tt
asks_in_order access m (Lines lines) x = x.2
asks_in_order access m (Fault fault) x = tt

-- a body that is one line is asked for so
pub line_asks : (access : Access) (m : RequestMessage) (ask : Ask) → IsScript access m false → IsLineAsk m.body ask → AsksFor access m ask
line_asks access m (Once w asker) s x = absurd x
line_asks access m (Patient (ByRest w asker) limit) s x = absurd x
line_asks access m (Patient (ByLine line) limit) s x = (s, x)
line_asks access m (Line line) s x = (s, x)
line_asks access m (BadLine answer) s x = (s, x)
line_asks access m (Lines lines) s x = absurd x
line_asks access m (Fault fault) s x = absurd x

goes_or_ends : (t : Turn) → (t ≡ Goes) ⊎ (t ≡ Goes → ⊥)
goes_or_ends Goes = inl refl
goes_or_ends Closes = inr (λ e. absurd cc)
goes_or_ends Stops = inr (λ e. absurd cc)

after_one : (IsReading : ℕ → Type 0) (access : Access) (seat : ℕ) (t : Turn) → ((t ≡ Goes) × Responds IsReading access seat [] [] [] t) ⊎ IsLast t [] [] [] t
after_one IsReading access seat t = by (goes_or_ends t)
  where
    by : (t ≡ Goes) ⊎ (t ≡ Goes → ⊥) → ((t ≡ Goes) × Responds IsReading access seat [] [] [] t) ⊎ IsLast t [] [] [] t
    by (inl is) = inl (is, (refl, refl, is))
    by (inr ends) = inr (record { ends = ends; no_requests = refl; no_entries = refl; no_bytes = refl; after_is = refl })

pub responds_more : (IsReading : ℕ → Type 0) (access : Access) (seat : ℕ) (ms : List RequestMessage) (made : List Entry) (out : List ℕ) (m : RequestMessage) (mine : List Entry) (first : List ℕ) (t : Turn)
    → Responds IsReading access seat ms made out Goes → Responded IsReading access seat m mine first t → Responds IsReading access seat (ms ++ m ∷ []) (made ++ mine) (out ++ first) t
responds_more IsReading access seat [] made out m mine first t r one =
    (mine, [], first, [], t, ap (λ (l : List Entry). l ++ mine) r.0 ∙ sym (append-nil mine), ap (λ (l : List ℕ). l ++ first) r.1 ∙ sym (append-nil first), one, after_one IsReading access seat t)
responds_more IsReading access seat (k ∷ ms) made out m mine first t (mine', rest, first', others, turn, made_is, out_is, one', on) one = (
  mine',
  rest ++ mine,
  first',
  others ++ first,
  turn,
  ap (λ (l : List Entry). l ++ mine) made_is ∙ append_assoc mine' rest mine,
  ap (λ (l : List ℕ). l ++ first) out_is ∙ append_assoc first' others first,
  one',
  go on (responds_more IsReading access seat ms rest others m mine first t),
)
  where
    go : ((turn ≡ Goes) × Responds IsReading access seat ms rest others Goes) ⊎ IsLast turn ms rest others Goes
        → (Responds IsReading access seat ms rest others Goes → Responded IsReading access seat m mine first t → Responds IsReading access seat (ms ++ m ∷ []) (rest ++ mine) (others ++ first) t)
        → ((turn ≡ Goes) × Responds IsReading access seat (ms ++ m ∷ []) (rest ++ mine) (others ++ first) t) ⊎ IsLast turn (ms ++ m ∷ []) (rest ++ mine) (others ++ first) t
    go (inl x) next = inl (x.0, next x.1 one)
    go (inr x) next = absurd (x.ends (sym x.after_is))

-- ---- what came of a request

-- a call was answered that is made once
pub once_begins : (IsReading : ℕ → Type 0) (pass new : Sitting) (waiter : Waiter) (closes : Bool) (answer : Result Answered Refusal) (reading : ℕ)
    → GoesByCall pass reading (waiter_call waiter) answer new → IsReading reading → Answers IsReading pass (once waiter) closes new (telling_of (said_of waiter answer) closes)
once_begins IsReading pass new (ByRest w asker) closes answer reading goes here =
    (made_by pass.seat goes.0 reading w.call answer, turn_of closes (stops answer), goes.1, refl, λ out says. (answer, (goes.0, reading, here, refl), says, refl))
once_begins IsReading pass new (ByLine line) closes answer reading goes here =
    (made_by pass.seat goes.0 reading line.timed.call answer, turn_of closes (stops answer), goes.1, refl, λ out says. (answer, (goes.0, reading, here, refl), says, refl))

-- it was no call
pub no_line_begins : (IsReading : ℕ → Type 0) (pass : Sitting) (ask : Ask) (closes : Bool) (answer : Result Answered Refusal) (told : Telling)
    → ask ≡ BadLine answer → told ≡ telling_of (OfLine Plain answer) closes → Answers IsReading pass ask closes pass told
no_line_begins IsReading pass ask closes answer told is same =
    subst (λ (a : Ask). Answers IsReading pass a closes pass told) (sym is) (subst (λ (t : Telling). Answers IsReading pass (BadLine answer) closes pass t) (sym same)
    ([], turn_of closes (stops answer), goes_by_none pass, refl, λ out says. (refl, says, refl)))

pub fault_begins : (IsReading : ℕ → Type 0) (pass : Sitting) (ask : Ask) (closes : Bool) (fault : RestFault) (told : Telling)
    → ask ≡ Fault fault → told ≡ telling_of (OfFault fault) closes → Answers IsReading pass ask closes pass told
fault_begins IsReading pass ask closes fault told is same =
    subst (λ (a : Ask). Answers IsReading pass a closes pass told) (sym is) (subst (λ (t : Telling). Answers IsReading pass (Fault fault) closes pass t) (sym same)
    ([], turn_of closes false, goes_by_none pass, refl, λ out says. (refl, says, refl)))

-- what came of what waits is its response
pub said_answers : (waiter : Waiter) (answer : Result Answered Refusal) (closes : Bool) (out : List ℕ) → Says (said_of waiter answer) closes out → AnswersWaiter waiter answer closes out
said_answers (ByRest w asker) answer closes out says = says
said_answers (ByLine line) answer closes out says = says

said_stops : (waiter : Waiter) (answer : Result Answered Refusal) → stops_by (said_of waiter answer) ≡ stops answer
said_stops (ByRest w asker) answer = refl
said_stops (ByLine line) answer = refl

-- what waits was asked once, or once more
pub settled_begins : (IsReading : ℕ → Type 0) (pass new : Sitting) (p : Patience) (begun : Begun)
    → Waiting IsReading pass (waiter_call p.waiter) p.limit_ms p.first_ms p.asked_ms p.answer new → IsSettled p begun → Begins IsReading pass (Patient p.waiter p.limit_ms) p.closes new begun
settled_begins IsReading pass new p (Done told) w x =
    let waits = waiting_done IsReading pass new (waiter_call p.waiter) p.limit_ms p.first_ms p.asked_ms p.answer w x.1 in
    subst (λ (t : Telling). Answers IsReading pass (Patient p.waiter p.limit_ms) p.closes new t) (sym x.0) (
      waits.0,
      turn_of p.closes (stops p.answer),
      waits.1,
      ap (λ (b : Bool). ending_of (turn_of p.closes b)) (said_stops p.waiter p.answer),
      λ out says. (p.answer, waits.2, said_answers p.waiter p.answer p.closes out says, refl),
    )
settled_begins IsReading pass new p (Calls script) w x = absurd x
settled_begins IsReading pass new p (WasCalled script form said) w x = absurd x
settled_begins IsReading pass new p (Waits q) w x =
    subst (λ (r : Patience). Begins IsReading pass (Patient p.waiter p.limit_ms) p.closes new (Waits r)) (sym x.0)
    (refl, refl, record { waiting = w; empty = x.1; early = x.2 })
