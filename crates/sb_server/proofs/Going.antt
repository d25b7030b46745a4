-- A pass goes on, and a call waits.
use Rattle.std.proofs.Common.{◌≡◌, ℕ, ◌+◌, ◌≤◌, ◌<◌, List, [], ◌∷◌, ◌++◌, true, Result, Ok, sym, refl, ap, ◌∙◌, subst, append_assoc, append-nil}
use Rattle.sb_machine.specs.declared.call.Call.{Call}
use Rattle.sb_machine.specs.declared.history.Entry.{Entry}
use Rattle.sb_machine.specs.declared.reply.Answered.{Answered}
use Rattle.sb_machine.specs.declared.reply.Answered.TheVariants.{New}
use Rattle.sb_machine.specs.declared.reply.Refusal.{Refusal}
use Rattle.sb_machine.specs.declared.reply.Reply.TheVariants.{Empty}
use Rattle.sb_desk.specs.Desks.{Sitting}
use Rattle.sb_desk.specs.Entries.{made_by, entries_by}
use Rattle.sb_desk.proofs.Logs.{by_append}
use Rattle.sb_server.specs.Waiting.{GoesBy, GoesByCall, is_empty, Round, round_made, rounds_made, AreEmpty, first_reading, AreRead, Waits, FoundNothing, Waiting}

pub goes_by_none : (p : Sitting) → GoesBy p [] p
goes_by_none p = ([], ap (λ (l : List Entry). record p { seen = l }) (sym (append-nil p.seen)), refl)

pub goes_by_both : (a b c : Sitting) (m n : List Entry) → GoesBy a m b → GoesBy b n c → GoesBy a (m ++ n) c
goes_by_both a b c m n x y =
    let seat : b.seat ≡ a.seat = ap (λ (s : Sitting). s.seat) x.1 in (
      x.0 ++ y.0,
      y.1 ∙ (ap (λ (s : Sitting). record s { seen = s.seen ++ y.0 }) x.1 ∙ ap (λ (l : List Entry). record a { seen = l }) (append_assoc a.seen x.0 y.0)),
      by_append a.seat x.0 y.0 ∙ (ap (λ (l : List Entry). l ++ entries_by a.seat y.0) x.2 ∙ ap (λ (l : List Entry). m ++ l) (ap (λ (k : ℕ). entries_by k y.0) (sym seat) ∙ y.2)),
    )

pub same_seat : (old new : Sitting) (made : List Entry) → GoesBy old made new → new.seat ≡ old.seat
same_seat old new made x = ap (λ (s : Sitting). s.seat) x.1

-- its first call
pub waiting_first : (IsReading : ℕ → Type 0) (old new : Sitting) (call : Call) (limit first : ℕ) (answer : Result Answered Refusal) → GoesByCall old first call answer new → IsReading first → Waiting IsReading old call limit first first answer new
waiting_first IsReading old new call limit first answer g here = record {
  before = [];
  last = record { tick = g.0; reading = first; answer = answer };
  goes = g.1;
  empty = tt;
  answer_is = refl;
  reading_is = refl;
  first_is = refl;
  read = (here, tt);
}

rounds_snoc : (seat : ℕ) (call : Call) (rs : List Round) (r : Round) → rounds_made seat call (rs ++ r ∷ []) ≡ rounds_made seat call rs ++ round_made seat call r
rounds_snoc seat call [] r = append-nil (round_made seat call r)
rounds_snoc seat call (q ∷ rs) r = ap (λ (l : List Entry). round_made seat call q ++ l) (rounds_snoc seat call rs r) ∙ sym (append_assoc (round_made seat call q) (rounds_made seat call rs) (round_made seat call r))

empty_snoc : (end : ℕ) (rs : List Round) (r : Round) → AreEmpty end rs → is_empty r.answer ≡ true → r.reading < end → AreEmpty end (rs ++ r ∷ [])
empty_snoc end [] r e f lt = (f, lt, tt)
empty_snoc end (q ∷ rs) r e f lt = (e.0, e.1, empty_snoc end rs r e.2 f lt)

first_snoc : (rs : List Round) (r q : Round) → first_reading (rs ++ r ∷ []) q ≡ first_reading rs r
first_snoc [] r q = refl
first_snoc (p ∷ rs) r q = refl

read_snoc : (IsReading : ℕ → Type 0) (rs : List Round) (r : Round) → AreRead IsReading rs → IsReading r.reading → AreRead IsReading (rs ++ r ∷ [])
read_snoc IsReading [] r e here = (here, tt)
read_snoc IsReading (q ∷ rs) r e here = (e.0, read_snoc IsReading rs r e.1 here)

-- one call more
pub waiting_next : (IsReading : ℕ → Type 0) (pass old new : Sitting) (call : Call) (limit first now reading : ℕ) (before_answer answer : Result Answered Refusal)
    → Waiting IsReading pass call limit first now before_answer old → (is_empty before_answer ≡ true) × (now < first + limit) → GoesByCall old reading call answer new → IsReading reading
    → Waiting IsReading pass call limit first reading answer new
waiting_next IsReading pass old new call limit first now reading before_answer answer w e g here =
    let seat : old.seat ≡ pass.seat = same_seat pass old _ w.goes in
    let mine : GoesBy old (made_by pass.seat g.0 reading call answer) new = subst (λ (k : ℕ). GoesBy old (made_by k g.0 reading call answer) new) seat g.1 in
    let all : GoesBy pass ((rounds_made pass.seat call w.before ++ round_made pass.seat call w.last) ++ made_by pass.seat g.0 reading call answer) new = goes_by_both pass old new _ _ w.goes mine in
    record {
      before = w.before ++ w.last ∷ [];
      last = record { tick = g.0; reading = reading; answer = answer };
      goes = subst (λ (l : List Entry). GoesBy pass (l ++ made_by pass.seat g.0 reading call answer) new) (sym (rounds_snoc pass.seat call w.before w.last)) all;
      empty = empty_snoc (first + limit) w.before w.last w.empty (ap is_empty (sym w.answer_is) ∙ e.0) (subst (λ (k : ℕ). k < first + limit) w.reading_is e.1);
      answer_is = refl;
      reading_is = refl;
      first_is = w.first_is ∙ sym (first_snoc w.before w.last _);
      read = read_snoc IsReading (w.before ++ w.last ∷ []) (record { tick = g.0; reading = reading; answer = answer }) w.read here;
    }

pub waiting_done : (IsReading : ℕ → Type 0) (pass new : Sitting) (call : Call) (limit first now : ℕ) (answer : Result Answered Refusal)
    → Waiting IsReading pass call limit first now answer new → (is_empty answer ≡ true → first + limit ≤ now)
    → (made : List Entry) × GoesBy pass made new × Waits IsReading pass.seat call limit made answer
waiting_done IsReading pass new call limit first now answer w over = (
  rounds_made pass.seat call w.before ++ round_made pass.seat call w.last,
  w.goes,
  record {
    before = w.before;
    last = w.last;
    made_is = refl;
    empty = subst (λ (k : ℕ). AreEmpty (k + limit) w.before) w.first_is w.empty;
    answer_is = w.answer_is;
    until = λ e. subst (λ (k : ℕ). first_reading w.before w.last + limit ≤ k) w.reading_is (subst (λ (k : ℕ). k + limit ≤ now) w.first_is (over e));
    read = w.read;
  },
)

-- it found nothing before its end
pub found_nothing : (IsReading : ℕ → Type 0) (pass new : Sitting) (call : Call) (limit first now : ℕ) (answer : Result Answered Refusal)
    → Waiting IsReading pass call limit first now answer new → is_empty answer ≡ true → now < first + limit
    → (made : List Entry) × GoesBy pass made new × FoundNothing IsReading pass.seat call limit made
found_nothing IsReading pass new call limit first now answer w nothing early = (
  rounds_made pass.seat call w.before ++ round_made pass.seat call w.last,
  w.goes,
  record {
    before = w.before;
    last = w.last;
    made_is = refl;
    empty = subst (λ (k : ℕ). AreEmpty (k + limit) (w.before ++ w.last ∷ [])) w.first_is
        (empty_snoc (first + limit) w.before w.last w.empty (ap is_empty (sym w.answer_is) ∙ nothing) (subst (λ (k : ℕ). k < first + limit) w.reading_is early));
    read = w.read;
  },
)

pub nothing_is : (answer : Result Answered Refusal) → is_empty answer ≡ true → answer ≡ Ok (New Empty)
nothing_is (Ok (New Empty)) e = refl
nothing_is _ e = absurd cc
