-- The rule of the desk's table: what its words, its slot and the views of all seats have to do with the one history.
-- A seat is a caller's place in that history, a view what it has seen of it.
use Rattle.std.specs.Prelude.{◌≡◌, ℕ, ◌+◌, ◌-◌, ◌%◌, ◌^◌, ◌<◌, ◌≤◌, List, [], ◌∷◌, length, Option, Some, None}
use mathlib.Core.Option.{some}
use mathlib.Core.Option as maybe
use lib.ListN.{get_elem?}
use Rattle.atomic_table.specs.Table as table
use Rattle.sb_machine.specs.declared.history.Entry.{Entry}
use Rattle.sb_machine.specs.declared.state.State.{State}
use Rattle.sb_desk.specs.declared.post.Post.{Post}
use Rattle.sb_desk.specs.declared.report.Origin.{Origin}
use Rattle.sb_desk.specs.declared.view.Ask.{Ask}
use Rattle.sb_desk.specs.declared.view.View.{View}
use Rattle.sb_desk.specs.declared.view.Claim.{Claim}
use Rattle.sb_desk.specs.declared.view.Stage.{Stage}
use Rattle.sb_desk.specs.declared.view.Stage.TheVariants.{Note, Idle, Waits, Turn, Out, Spent}
use Rattle.sb_desk.specs.Groups.{posts_by, IsPosted, IsFollowed}
use Rattle.sb_desk.specs.Lists.{IsFront, total, Each, HaveSeatsBelow}

-- ---- what a view counts for

-- what a word keeps of a number
abbrev pub word : ℕ → ℕ
word k = k % 2 ^ 64

-- how many passes a view stands for
abbrev pub parts : View → ℕ
parts v = v.parts

-- 1 while a seat has a ticket, else 0
abbrev pub ticketed : Stage → ℕ
ticketed (Waits k) = 1
ticketed (Turn k) = 1
ticketed (Out k log posts) = 1
ticketed _ = 0

-- how many tickets it has
abbrev pub tickets : View → ℕ
tickets v = ticketed v.stage

-- 1 while a seat has the value, else 0
abbrev pub out_at : Stage → ℕ
out_at (Out k log posts) = 1
out_at _ = 0

-- how many values it has
abbrev pub outs : View → ℕ
outs v = out_at v.stage

-- the number of a seat's ticket; 0 where it has none
abbrev pub ticket_of : Stage → ℕ
ticket_of (Waits k) = k
ticket_of (Turn k) = k
ticket_of (Out k log posts) = k
ticket_of _ = 0

-- the history that came with the value; none where a seat hasn't got it
abbrev pub log_of : Stage → List Entry
log_of (Out k log posts) = log
log_of _ = []

-- the posts that came with the value; none where a seat hasn't got it
abbrev pub posts_of : Stage → List Post
posts_of (Out k log posts) = posts
posts_of _ = []

-- 1 where a seat has a post, else 0
abbrev pub posted : Option Ask → ℕ
posted (Some ask) = 1
posted None = 0

-- how many posts it has
abbrev pub asks : View → ℕ
asks v = posted v.post

-- ---- what holds of one view

-- seats: which seat of the table has a number; of those that were joined into others none
module _ (log : List Entry) (posts : List Post) (seats : ℕ → Option ℕ) where
  -- a seat that was joined into another had seen this, all its entries stand in it, and it has no post
  abbrev pub IsClaim : Claim → Type 0
  IsClaim c = (seats c.seat ≡ None) × IsFollowed log posts c.seat c.seen None

  -- a number that its seat may still give to another
  abbrev pub IsUnused : ℕ → ℕ → Type 0
  IsUnused i l = (seats l ≡ Some i) × IsPosted l (posts_by l posts) None log

  -- the seat i, which makes calls
  pub record Sits (i : ℕ) (v : View) : Type 0 where
    pub here : seats v.seat ≡ Some i
    pub front : IsFollowed log posts v.seat v.seen v.post
    pub one : IsFront v.one log
    pub other : IsFront v.other log
    pub claims : Each IsClaim v.claims
    pub unused : (l : ℕ) → v.seat < l → l ≤ v.seat + v.spare → IsUnused i l

-- owner: which seat of the table has a ticket
module _ (log : List Entry) (posts : List Post) (drawn served : ℕ) (owner : ℕ → ℕ) (seats : ℕ → Option ℕ) where
  -- what holds of a seat at each stage: it rests, waits with a ticket, has its turn, or has the value
  abbrev pub IsPlaced : Stage → ℕ → View → Type 0
  IsPlaced Note i v = IsFront v.seen log
  IsPlaced Idle i v = Sits log posts seats i v
  IsPlaced (Waits k) i v = Sits log posts seats i v × (served ≤ k) × (k < drawn) × (owner k ≡ i)
  IsPlaced (Turn k) i v = Sits log posts seats i v × (k ≡ served) × (k < drawn) × (owner k ≡ i)
  IsPlaced (Out k l p) i v = Sits log posts seats i v × (k ≡ served) × (k < drawn) × (owner k ≡ i) × (l ≡ log) × (p ≡ posts)
  IsPlaced Spent i v = Unit {0}

-- a seat that was not joined into another knows how the desk began, and has none but a pass's numbers
abbrev pub Began : State → Origin → ℕ → Stage → View → Type 0
Began start origin passes Spent v = Unit {0}
Began start origin passes _ v = (v.start ≡ start) × (v.origin ≡ origin) × (v.passes ≡ passes) × (v.seat + v.spare < passes)

-- ---- the rule

-- of what lies in the slot: which histories it stands for, its origin, the posts beside it, and how they have to be kept where there are so many passes
module _ {X : Type 0} (stands : X → State → List Entry → Type 0) (origin_of : X → Origin) (posts_in : X → List Post) (arranged : ℕ → X → Type 0) (start : State) (origin : Origin) (passes : ℕ) where
  -- the value is in the slot, and stands for the history; the posts lie beside it
  abbrev pub IsHome : List Entry → List Post → List (maybe.Option (Option X)) → Type 0
  IsHome log posts homes = (x : X) × (homes ≡ some (Some x) ∷ []) × stands x start log × (origin_of x ≡ origin) × (posts_in x ≡ posts) × arranged passes x

  -- what holds of each view
  pub record Fits (log : List Entry) (posts : List Post) (drawn served : ℕ) (owner : ℕ → ℕ) (seats : ℕ → Option ℕ) (i : ℕ) (v : View) : Type 0 where
    -- who has a ticket stands for a pass
    pub part : tickets v ≤ v.parts
    -- and so does who has a post
    pub ask : asks v ≤ v.parts
    pub began : Began start origin passes v.stage v
    pub placed : IsPlaced log posts drawn served owner seats v.stage i v

  -- what holds of the table between two steps, whoever makes them: the one history, and where each seat stands in it
  pub record Kept (s : table.State (Option X) View) : Type 0 where
    -- the history, in which passes alone have entries
    pub log : List Entry
    pub numbered : HaveSeatsBelow passes log
    -- the calls that were posted and not yet collected
    pub posts : List Post
    -- how many tickets were drawn, and how many had their turn
    pub drawn : ℕ
    pub served : ℕ
    pub owner : ℕ → ℕ
    pub seats : ℕ → Option ℕ
    pub words : s.words ≡ word (length log) ∷ word drawn ∷ word served ∷ []
    -- so few that no two waiting seats have tickets of one remainder
    pub few : passes ≤ 2 ^ 63
    pub whole : total parts s.views ≡ passes
    pub busy : total tickets s.views + served ≡ drawn
    pub stock : total asks s.views ≡ length posts
    pub each : (i : ℕ) (v : View) → get_elem? s.views i ≡ some v → Fits log posts drawn served owner seats i v
    pub home : total outs s.views ≡ 0 → IsHome log posts s.homes

-- the first seat stands for all passes, and may give all other numbers
abbrev pub opening_view : State → Origin → ℕ → View
opening_view start origin passes = record { seat = 0; spare = passes - 1; passes = passes; start = start; origin = origin; seen = []; parts = passes; post = None; stage = Idle; one = []; other = []; claims = [] }
