-- Several lines, called one after another.
use Rattle.std.proofs.Common.{◌≡◌, ℕ, List, [], ◌∷◌, ◌++◌, length, drop, map, sym, refl, ap, ◌∙◌, subst, arith, append_assoc, append-nil, Bool, true, false, ◌||◌, Result}
use Rattle.std.specs.List.{flat_map}
use Rattle.std.proofs.lemmas.Grind.{flat_map-append}
use Rattle.std.proofs.lemmas.List.{map-append}
use Rattle.std.proofs.lemmas.List.Folds.{list_any-append}
use Rattle.sb_machine.specs.History.{stops}
use Rattle.sb_machine.specs.declared.history.Entry.{Entry}
use Rattle.sb_machine.specs.declared.reply.Answered.{Answered}
use Rattle.sb_machine.specs.declared.reply.Refusal.{Refusal}
use Rattle.sb_desk.specs.Desks.{Asking, Sitting}
use Rattle.sb_desk.specs.Entries.{made_by}
use Rattle.sb_lines.specs.Replies.{answer_line}
use Rattle.sb_lines.specs.declared.form.Form.{Form}
use Rattle.sb_lines.specs.declared.line.Line.{Line as ScriptLine}
use Rattle.sb_server.specs.declared.ask.Ask.TheVariants.{Lines}
use Rattle.sb_server.specs.declared.body.LineAsk.{LineAsk}
use Rattle.sb_server.specs.declared.body.LineAsk.TheVariants.{Call as LineCall}
use Rattle.sb_server.specs.declared.doing.Begun.{Begun}
use Rattle.sb_server.specs.declared.pending.Pending.{Pending}
use Rattle.sb_server.specs.declared.pending.Pending.TheVariants.{Line as ForLine}
use Rattle.sb_server.specs.declared.script.Script.{Script}
use Rattle.sb_server.specs.declared.telling.Said.TheVariants.{Lines as OfLines}
use Rattle.sb_server.specs.declared.telling.Telling.{Telling}
use Rattle.sb_server.specs.Doings.{Answers, HasCalled, IsCallingOn, IsSaying, IsDue, IsNext, IsPosted, doing_by, telling_of, went_by}
use Rattle.sb_server.specs.Responds.{LineCalled, IsLineCalled, AreCalled, form_of, replies_to, any_stops, lines_bytes, turn_of}
use Rattle.sb_server.specs.Talks.{Start, Here, ending_of}
use Rattle.sb_server.specs.Waiting.{GoesBy}
use Rattle.sb_server.proofs.Bodies.{each_snoc}
use Rattle.sb_server.proofs.Going.{goes_by_both, same_seat}
use Rattle.sb_server.proofs.Stepping.{due_asked}
use Rattle.sb_server.proofs.Turning.{Reaches}

-- ---- one line more

abbrev lines_of_calls : List LineCalled → List LineAsk
lines_of_calls cs = map (λ c. c.line) cs

abbrev made_of_calls : List LineCalled → List Entry
made_of_calls cs = flat_map (λ c. c.made) cs

lines_more : (lines left rest : List LineAsk) (cs : List LineCalled) (c : LineCalled) → lines ≡ lines_of_calls cs ++ left → left ≡ c.line ∷ rest → lines ≡ lines_of_calls (cs ++ c ∷ []) ++ rest
lines_more lines left rest cs c is more =
    is
    ∙ ap (λ (l : List LineAsk). lines_of_calls cs ++ l) more
    ∙ sym (append_assoc (lines_of_calls cs) (c.line ∷ []) rest)
    ∙ ap (λ (l : List LineAsk). l ++ rest) (sym (map-append (λ c. c.line) cs (c ∷ [])))

made_more : (made : List Entry) (cs : List LineCalled) (c : LineCalled) → made ≡ made_of_calls cs → made ++ c.made ≡ made_of_calls (cs ++ c ∷ [])
made_more made cs c is =
    ap (λ (l : List Entry). l ++ c.made) is
    ∙ ap (λ (l : List Entry). made_of_calls cs ++ l) (sym (append-nil c.made))
    ∙ sym (flat_map-append (λ c. c.made) cs (c ∷ []))

text_more : (text : List ℕ) (cs : List LineCalled) (c : LineCalled) → text ≡ replies_to cs → text ++ answer_line (form_of c.line) c.answer ≡ replies_to (cs ++ c ∷ [])
text_more text cs c is =
    ap (λ (l : List ℕ). l ++ answer_line (form_of c.line) c.answer) is
    ∙ ap (λ (l : List ℕ). replies_to cs ++ l) (sym (append-nil (answer_line (form_of c.line) c.answer)))
    ∙ sym (flat_map-append (λ c. answer_line (form_of c.line) c.answer) cs (c ∷ []))

or_false : (a b : Bool) → (a || b) ≡ (a || (b || false))
or_false true b = refl
or_false false true = refl
or_false false false = refl

stops_more : (stopped : Bool) (cs : List LineCalled) (c : LineCalled) → stopped ≡ any_stops cs → (stopped || stops c.answer) ≡ any_stops (cs ++ c ∷ [])
stops_more stopped cs c is =
    ap (λ (b : Bool). b || stops c.answer) is
    ∙ or_false (any_stops cs) (stops c.answer)
    ∙ sym (list_any-append (λ c. stops c.answer) cs (c ∷ []))

-- ---- what a connection does

called_more : (IsReading : ℕ → Type 0) (pass mid after : Sitting) (lines : List LineAsk) (old new : Script) (cs : List LineCalled) (c : LineCalled)
    → HasCalled IsReading pass lines old cs cs mid → old.left.items ≡ c.line ∷ new.left.items → new.text ≡ old.text → new.stopped ≡ old.stopped
    → GoesBy mid c.made after → IsLineCalled IsReading mid.seat c.line c.made c.answer → HasCalled IsReading pass lines new (cs ++ c ∷ []) cs after
called_more IsReading pass mid after lines old new cs c h left text stopped goes calls =
    let seat : mid.seat ≡ pass.seat = same_seat pass mid h.made h.goes in
    record {
      made = h.made ++ c.made;
      goes = goes_by_both pass mid after h.made c.made h.goes goes;
      called = record {
        lines_are = lines_more lines old.left.items new.left.items cs c h.called.lines_are left;
        made_is = made_more h.made cs c h.called.made_is;
        each = each_snoc (λ c. IsLineCalled IsReading pass.seat c.line c.made c.answer) cs c h.called.each (subst (λ (k : ℕ). IsLineCalled IsReading k c.line c.made c.answer) seat calls);
      };
      text_is = ap (λ v. v.items) text ∙ h.text_is;
      stopped_is = stopped ∙ h.stopped_is;
    }

-- the next line was called
pub called_next : (IsReading : ℕ → Type 0) (s : Start) (h : Here) (after : Sitting) (old new : Script) (c : LineCalled) (form : Form)
    → IsCallingOn IsReading s h old → old.left.items ≡ c.line ∷ new.left.items → new.text ≡ old.text → new.stopped ≡ old.stopped → new.closes ≡ old.closes
    → GoesBy h.pass c.made after → IsLineCalled IsReading h.pass.seat c.line c.made c.answer → form ≡ form_of c.line → IsSaying IsReading s (record h { pass = after }) new form c.answer
called_next IsReading s h after old new c form a left text stopped closes goes calls is = (
  a.0,
  c,
  record {
    old = a.1.old;
    m = a.1.m;
    lines = a.1.lines;
    talks = a.1.talks;
    takes = a.1.takes;
    reads = a.1.reads;
    writes = a.1.writes;
    written = a.1.written;
    asks = a.1.asks;
    closes_is = closes ∙ a.1.closes_is;
    called = called_more IsReading a.1.old.pass h.pass after a.1.lines old new a.0 c a.1.called left text stopped goes calls;
  },
  is,
  refl,
)

-- its call is posted
pub line_posted : (IsReading : ℕ → Type 0) (s : Start) (h : Here) (a : Asking) (pending : Pending) (old new : Script) (line : ScriptLine) (reading : ℕ)
    → IsCallingOn IsReading s h old → old.left.items ≡ LineCall line ∷ new.left.items → new.text ≡ old.text → new.stopped ≡ old.stopped → new.closes ≡ old.closes
    → ◌≡◌ {A = Asking} a (record { pass = h.pass; reading = reading; call = line.timed.call }) → pending ≡ ForLine new line.form → IsReading reading → IsPosted IsReading s h a pending
line_posted IsReading s h a pending old new line reading on left text stopped closes asked is here =
    let mine : Asking = record { pass = h.pass; reading = reading; call = line.timed.call } in
    let goes_on : IsPosted IsReading s h mine (ForLine new line.form) = λ answer after begun goes what.
    let c : LineCalled = record { line = LineCall line; made = made_by h.pass.seat goes.0 reading line.timed.call answer; answer = answer } in
    subst (λ (b : Begun). IsNext IsReading s (record h { pass = after }) (went_by b) (doing_by b)) (sym what)
    (called_next IsReading s h after old new c line.form on left text stopped closes goes.1 (goes.0, reading, here, refl) refl) in
    subst (λ (x : Asking). IsPosted IsReading s h x pending) (sym asked) (subst (λ (x : Pending). IsPosted IsReading s h mine x) (sym is) goes_on)

-- its reply stands
pub said_next : (IsReading : ℕ → Type 0) (s : Start) (h : Here) (old new : Script) (form : Form) (answer : Result Answered Refusal)
    → IsSaying IsReading s h old form answer → new.left ≡ old.left → new.text.items ≡ old.text.items ++ answer_line form answer → new.stopped ≡ (old.stopped || stops answer) → new.closes ≡ old.closes
    → IsCallingOn IsReading s h new
said_next IsReading s h old new form answer (said, last, a, form_is, answer_is) left text stopped closes = (
  said ++ last ∷ [],
  record {
    old = a.old;
    m = a.m;
    lines = a.lines;
    talks = a.talks;
    takes = a.takes;
    reads = a.reads;
    writes = a.writes;
    written = a.written;
    asks = a.asks;
    closes_is = closes ∙ a.closes_is;
    called = record {
      made = a.called.made;
      goes = a.called.goes;
      called = record {
        lines_are = a.called.called.lines_are ∙ ap (λ (l : List LineAsk). lines_of_calls (said ++ last ∷ []) ++ l) (sym (ap (λ q. q.items) left));
        made_is = a.called.called.made_is;
        each = a.called.called.each;
      };
      text_is = text ∙ ap (λ (f : Form). old.text.items ++ answer_line f answer) form_is ∙ ap (λ (r : Result Answered Refusal). old.text.items ++ answer_line (form_of last.line) r) answer_is ∙ text_more old.text.items said last a.called.text_is;
      stopped_is = stopped ∙ ap (λ (r : Result Answered Refusal). old.stopped || stops r) answer_is ∙ stops_more old.stopped said last a.called.stopped_is;
    };
  },
)

-- it doesn't stand yet
pub said_later : (IsReading : ℕ → Type 0) (s : Start) (h : Here) (old new : Script) (form : Form) (answer : Result Answered Refusal)
    → IsSaying IsReading s h old form answer → new.left ≡ old.left → new.text.items ≡ old.text.items → new.stopped ≡ old.stopped → new.closes ≡ old.closes → IsSaying IsReading s h new form answer
said_later IsReading s h old new form answer (said, last, a, form_is, answer_is) left text stopped closes = (
  said,
  last,
  record {
    old = a.old;
    m = a.m;
    lines = a.lines;
    talks = a.talks;
    takes = a.takes;
    reads = a.reads;
    writes = a.writes;
    written = a.written;
    asks = a.asks;
    closes_is = closes ∙ a.closes_is;
    called = record {
      made = a.called.made;
      goes = a.called.goes;
      called = record {
        lines_are = a.called.called.lines_are ∙ ap (λ (l : List LineAsk). lines_of_calls (said ++ last ∷ []) ++ l) (sym (ap (λ q. q.items) left));
        made_is = a.called.called.made_is;
        each = a.called.called.each;
      };
      text_is = text ∙ a.called.text_is;
      stopped_is = stopped ∙ a.called.stopped_is;
    };
  },
  form_is,
  answer_is,
)

-- all were called and have their replies
pub all_called : (IsReading : ℕ → Type 0) (s : Start) (h : Here) (script : Script) (told : Telling) → IsCallingOn IsReading s h script → script.left.items ≡ [] → told ≡ telling_of (OfLines script.text script.stopped) script.closes → IsDue IsReading s h told
all_called IsReading s h script told (cs, a) none is =
    let x : Reaches a.old h (a.m ∷ []) = record { takes = a.takes; reads = a.reads } in
    let called : AreCalled IsReading a.old.pass.seat a.lines [] a.called.made cs = subst (λ (l : List LineAsk). AreCalled IsReading a.old.pass.seat a.lines l a.called.made cs) none a.called.called in
    let bytes_are : lines_bytes script.text.items script.stopped script.closes ≡ lines_bytes (replies_to cs) (any_stops cs) script.closes =
    ap (λ (l : List ℕ). lines_bytes l script.stopped script.closes) a.called.text_is ∙ ap (λ (b : Bool). lines_bytes (replies_to cs) b script.closes) a.called.stopped_is in
    let answers : Answers IsReading a.old.pass (Lines a.lines) script.closes h.pass (telling_of (OfLines script.text script.stopped) script.closes) =
    (a.called.made, turn_of script.closes (any_stops cs), a.called.goes, ap (λ (b : Bool). ending_of (turn_of script.closes b)) a.called.stopped_is, λ out says. (cs, called, says ∙ bytes_are, refl)) in
    due_asked IsReading s a.old h a.m (Lines a.lines) script.closes told a.talks x a.asks a.closes_is (subst (λ (t : Telling). Answers IsReading a.old.pass (Lines a.lines) script.closes h.pass t) (sym is) answers) a.written a.writes

-- what stays the same without its first has none
pub none_left : (lines rest : List LineAsk) → lines ≡ rest → rest ≡ drop 1 lines → lines ≡ []
none_left [] rest same less = refl
none_left (line ∷ lines) rest same less = let e : length (line ∷ lines) ≡ length lines = ap length (same ∙ less) in absurd (omega (arith, e))
