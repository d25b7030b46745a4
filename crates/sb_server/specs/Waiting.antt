-- The entries of a pass's own calls, and those of a call that waits: a receive, or the accept of a session. `IsReading` holds of what a clock may read.
use Rattle.std.specs.Prelude.{◌≡◌, ℕ, ◌+◌, ◌≤◌, ◌<◌, List, [], ◌∷◌, ◌++◌, Bool, true, false, Option, Result, Ok}
use Rattle.sb_machine.specs.declared.call.Call.{Call}
use Rattle.sb_machine.specs.declared.history.Entry.{Entry}
use Rattle.sb_machine.specs.declared.reply.Answered.{Answered}
use Rattle.sb_machine.specs.declared.reply.Answered.TheVariants.{New}
use Rattle.sb_machine.specs.declared.reply.Refusal.{Refusal}
use Rattle.sb_machine.specs.declared.reply.Reply.TheVariants.{Empty}
use Rattle.sb_desk.specs.Desks.{Sitting}
use Rattle.sb_desk.specs.Entries.{made_by, entries_by}
use Rattle.sb_desk.specs.Lists.{Each}

-- ---- calls at a pass

-- the pass went on by these entries of its own, with others' between them
abbrev pub GoesBy : Sitting → List Entry → Sitting → Type 0
GoesBy old made new = (more : List Entry) × (new ≡ record old { seen = old.seen ++ more }) × (entries_by old.seat more ≡ made)

-- by one call
abbrev pub GoesByCall : Sitting → ℕ → Call → Result Answered Refusal → Sitting → Type 0
GoesByCall old reading call answer new = (tick : Option ℕ) × GoesBy old (made_by old.seat tick reading call answer) new

-- ---- a call that waits

-- there was nothing to receive, or no session to accept
abbrev pub is_empty : Result Answered Refusal → Bool
is_empty (Ok (New Empty)) = true
is_empty _ = false

-- one call of it
pub record Round : Type 0 where
  pub tick : Option ℕ
  pub reading : ℕ
  pub answer : Result Answered Refusal

-- the entries of one round
abbrev pub round_made : ℕ → Call → Round → List Entry
round_made seat call r = made_by seat r.tick r.reading call r.answer

-- the entries of rounds, one after another
abbrev pub rounds_made : ℕ → Call → List Round → List Entry
rounds_made seat call [] = []
rounds_made seat call (r ∷ rs) = round_made seat call r ++ rounds_made seat call rs

-- each found nothing, at a reading before this one
abbrev pub AreEmpty : ℕ → List Round → Type 0
AreEmpty end [] = Unit {0}
AreEmpty end (r ∷ rs) = (is_empty r.answer ≡ true) × (r.reading < end) × AreEmpty end rs

-- each was made at a reading of the clock
abbrev pub AreRead : (ℕ → Type 0) → List Round → Type 0
AreRead IsReading rs = Each (λ r. IsReading r.reading) rs

-- the reading of the first call
abbrev pub first_reading : List Round → Round → ℕ
first_reading [] last = last.reading
first_reading (r ∷ rs) last = r.reading

-- These are its entries, and this is its answer, that of the last call. Each call before found nothing and was
-- made before the limit, in ms, had passed since the first reading; where the last one found nothing either, it
-- had passed. Each was made at a reading of the clock.
pub record Waits (IsReading : ℕ → Type 0) (seat : ℕ) (call : Call) (limit : ℕ) (made : List Entry) (answer : Result Answered Refusal) : Type 0 where
  pub before : List Round
  pub last : Round
  pub made_is : made ≡ rounds_made seat call before ++ round_made seat call last
  pub empty : AreEmpty (first_reading before last + limit) before
  pub answer_is : answer ≡ last.answer
  pub until : is_empty answer ≡ true → first_reading before last + limit ≤ last.reading
  pub read : AreRead IsReading (before ++ last ∷ [])

-- These are the entries of a call that was given up: its calls, one or more, each found nothing, and each was made
-- before the limit, in ms, had passed since the first reading. Each was made at a reading of the clock.
pub record FoundNothing (IsReading : ℕ → Type 0) (seat : ℕ) (call : Call) (limit : ℕ) (made : List Entry) : Type 0 where
  pub before : List Round
  pub last : Round
  pub made_is : made ≡ rounds_made seat call before ++ round_made seat call last
  pub empty : AreEmpty (first_reading before last + limit) (before ++ last ∷ [])
  pub read : AreRead IsReading (before ++ last ∷ [])

-- a call that waits, so far
pub record Waiting (IsReading : ℕ → Type 0) (pass : Sitting) (call : Call) (limit first now : ℕ) (answer : Result Answered Refusal) (new : Sitting) : Type 0 where
  pub before : List Round
  pub last : Round
  pub goes : GoesBy pass (rounds_made pass.seat call before ++ round_made pass.seat call last) new
  pub empty : AreEmpty (first + limit) before
  pub answer_is : answer ≡ last.answer
  pub reading_is : now ≡ last.reading
  pub first_is : first ≡ first_reading before last
  pub read : AreRead IsReading (before ++ last ∷ [])
