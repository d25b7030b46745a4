-- Laws of the spelling, over all events.
use Rattle.std.specs.Prelude.{◌≡◌, ◌≤◌, ℕ, List, [], ◌++◌, length, Bool, true, Some}
use Rattle.sb_machine.specs.Answers.{is_change}
use Rattle.sb_machine.specs.Consistent.{IsConsistent}
use Rattle.sb_machine.specs.Judged.{IsJudged}
use Rattle.sb_machine.specs.Ordered.{IsActInOrder}
use Rattle.sb_machine.specs.Repeats.{client_of, outcome_of}
use Rattle.sb_machine.specs.declared.call.Call.{Call}
use Rattle.sb_machine.specs.declared.call.Event.{Event}
use Rattle.sb_machine.specs.declared.call.Event.TheVariants.{Tick, Called}
use Rattle.sb_machine.specs.declared.state.State.{State}
use Rattle.sb_codec.specs.EventBytes.{event_bytes, max_payload, HasSpelling, IsSpellable, read_event}

-- bytes that begin with two spellings begin with one: two events never share theirs
abbrev pub IsSpelledOnce : Type 0
IsSpelledOnce = (a b : Event) (x y : List ℕ) → HasSpelling a → HasSpelling b → event_bytes a ++ x ≡ event_bytes b ++ y → (a ≡ b) × (x ≡ y)

-- no spelling begins another
abbrev pub BeginsNone : Type 0
BeginsNone = (a b : Event) (x : List ℕ) → HasSpelling a → HasSpelling b → event_bytes a ++ x ≡ event_bytes b → x ≡ []

-- what is spelled so is read
abbrev pub ReadsBack : Type 0
ReadsBack = (e : Event) → HasSpelling e → read_event (event_bytes e) ≡ Some e

-- what has a spelling may be written
abbrev pub IsWrittenAgain : Type 0
IsWrittenAgain = (e : Event) → HasSpelling e → IsSpellable e

-- a call that passed the machine's tests may be written, and a journal record holds it
abbrev pub JudgedIsWritten : Type 0
JudgedIsWritten =
    (is_via : Bool) (t : ℕ) (call : Call) → IsJudged is_via call → IsSpellable (Called t call) × (HasSpelling (Called t call) → length (event_bytes (Called t call)) ≤ max_payload)

-- a call, its lists in order, that changes a consistent state at a moment
pub record IsChanging (s : State) (t : ℕ) (call : Call) : Type 0 where
  pub consistent : IsConsistent s
  pub order : IsActInOrder call.act
  pub changes : is_change (client_of call) (outcome_of s t call) ≡ true

-- it has passed them, so its event may be written
abbrev pub IsJournaled : Type 0
IsJournaled = (s : State) (t : ℕ) (call : Call) → IsChanging s t call → IsSpellable (Called t call)

-- and a journal record holds it
abbrev pub IsShort : Type 0
IsShort = (s : State) (t : ℕ) (call : Call) → IsChanging s t call → HasSpelling (Called t call) → length (event_bytes (Called t call)) ≤ max_payload

abbrev pub TicksAreShort : Type 0
TicksAreShort = (t : ℕ) → IsSpellable (Tick t) × (length (event_bytes (Tick t)) ≤ max_payload)
