-- What contracts see of a desk, which has one value that many callers use in turn, and of a pass, which is the handle
-- of one caller at a time.
use Rattle.std.specs.Prelude.{◌≡◌, ℕ, zero, suc, List, [], ◌∷◌, ◌++◌, Option, Some, None, Result}
use Rattle.atomic_table.specs.Seated.{TableId}
use Rattle.sb_machine.specs.History.{IsLegal}
use Rattle.sb_machine.specs.Consistent.{IsConsistent}
use Rattle.sb_machine.specs.declared.call.Act.TheVariants.{Commit}
use Rattle.sb_machine.specs.declared.call.Call.{Call}
use Rattle.sb_machine.specs.declared.history.Entry.{Entry}
use Rattle.sb_machine.specs.declared.reply.Answered.{Answered}
use Rattle.sb_machine.specs.declared.reply.Refusal.{Refusal}
use Rattle.sb_machine.specs.declared.state.State.{State}
use Rattle.sb_desk.specs.declared.desk.NewFault.{NewFault}
use Rattle.sb_desk.specs.declared.desk.NewFault.TheVariants.{OutOfMemory}
use Rattle.sb_desk.specs.declared.report.Origin.{Origin}
use Rattle.sb_desk.specs.declared.view.Ask.{Ask}
use Rattle.sb_desk.specs.declared.view.Claim.{Claim}
use Rattle.sb_desk.specs.declared.view.Stage.TheVariants.{Idle}
use Rattle.sb_desk.specs.declared.view.View.{View}
use Rattle.sb_desk.specs.Entries.{entries_by, made_by}
use Rattle.sb_desk.specs.Lists.{IsFront, IsEnd, HaveSeatsBelow}
use Rattle.sb_desk.specs.Steps.{spent_view}

-- A pass: its desk, its number, how many passes the desk has and how it began, and the entries from the desk's first on that it has seen.
pub record Sitting : Type 0 where
  pub desk : TableId
  pub seat : ℕ
  pub passes : ℕ
  pub start : State
  pub origin : Origin
  pub seen : List Entry

-- A pass whose call was left with its desk: the pass as it was, the reading of the clock, and the call.
pub record Asking : Type 0 where
  pub pass : Sitting
  pub reading : ℕ
  pub call : Call

-- A desk: which one it is, how it began, and how many passes it has.
pub record Open : Type 0 where
  pub desk : TableId
  pub start : State
  pub origin : Origin
  pub passes : ℕ

-- ---- one pass

-- the entries of its own seat
abbrev pub mine : Sitting → List Entry
mine p = entries_by p.seat p.seen

-- the pass is one of the desk's
abbrev pub IsOf : Open → Sitting → Type 0
IsOf d p = (p.desk ≡ d.desk) × (p.start ≡ d.start) × (p.origin ≡ d.origin) × (p.passes ≡ d.passes)

-- a pass of the desk that has seen nothing yet
abbrev pub IsNew : Open → Sitting → Type 0
IsNew d p = IsOf d p × (p.seen ≡ [])

-- A pass after one call: what it has seen goes on by others' entries, and ends with this call behind the tick that it made, if any.
abbrev pub Calls : Sitting → ℕ → Call → Sitting → Result Answered Refusal → Type 0
Calls before reading call after answer =
    (tick : Option ℕ) × (added : List Entry) × (after ≡ record before { seen = before.seen ++ added })
    × (entries_by before.seat added ≡ made_by before.seat tick reading call answer) × IsEnd (made_by before.seat tick reading call answer) added

-- what the pass has seen is a history of the state in which the desk began
abbrev pub HasLegal : Sitting → Type 0
HasLegal p = IsConsistent p.start × IsLegal p.start p.seen

-- what the pass has seen begins the history, in which all entries of its seat are those that it has seen
abbrev pub IsKeptIn : List Entry → Sitting → Type 0
IsKeptIn h p = IsFront p.seen h × (entries_by p.seat h ≡ mine p)

-- ---- many passes

-- the numbers below n, the greatest first
abbrev pub below : ℕ → List ℕ
below zero = []
below (suc n) = n ∷ below n

-- ---- how they are kept

-- the first of these views; where there is none, that of a seat which is gone
abbrev pub view_of : List View → View
view_of [] = spent_view
view_of (v ∷ vs) = v

-- a pass, by its desk and its view
abbrev pub sitting : TableId → View → Sitting
sitting desk v = record { desk = desk; seat = v.seat; passes = v.passes; start = v.start; origin = v.origin; seen = v.seen }

-- the call that was posted; where none was, one that nobody makes
abbrev pub ask_of : Option Ask → Ask
ask_of (Some ask) = ask
ask_of None = record { reading = 0; call = record { by = None; act = Commit 0 } }

-- a pass whose call was posted, by its desk and its view
abbrev pub asking : TableId → View → Asking
asking desk v = record { pass = sitting desk v; reading = (ask_of v.post).reading; call = (ask_of v.post).call }

-- a view whose call was posted
pub record IsAsking (v : View) : Type 0 where
  pub idle : v.stage ≡ Idle
  pub part : v.parts ≡ 1
  pub post : v.post ≡ Some (ask_of v.post)
  pub claims : v.claims ≡ []

-- a view between two calls
pub record IsResting (v : View) : Type 0 where
  pub idle : v.stage ≡ Idle
  pub part : v.parts ≡ 1
  pub post : v.post ≡ None
  pub claims : v.claims ≡ []
  pub consistent : IsConsistent v.start
  pub legal : IsLegal v.start v.seen
  pub seats : HaveSeatsBelow v.passes v.seen

-- what a pass that is joined into another leaves behind
abbrev pub claim_of : Sitting → Claim
claim_of p = record { seat = p.seat; seen = p.seen }

-- the value that a refused making gives back
abbrev pub value_of : {X : Type 0} → NewFault X → X
value_of (OutOfMemory value) = value
