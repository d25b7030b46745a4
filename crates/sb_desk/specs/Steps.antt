-- What each step tells its seat, and how views are cut and joined.
use Rattle.std.specs.Prelude.{◌≡◌, ◌≢◌, ℕ, ◌+◌, ◌-◌, ◌<◌, false, length, List, [], ◌∷◌, ◌++◌, Option, Some, None}
use Rattle.atomic_table.specs.Table.{Me, Step, rest}
use Rattle.atomic_table.specs.Seated.{TableId}
use Rattle.sb_machine.specs.Namespace.{empty_state}
use Rattle.sb_machine.specs.declared.history.Entry.{Entry}
use Rattle.sb_machine.specs.declared.state.State.{State}
use Rattle.sb_desk.specs.declared.post.Post.{Post}
use Rattle.sb_desk.specs.declared.report.DiskOrigin.{DiskOrigin}
use Rattle.sb_desk.specs.declared.report.Origin.{Origin}
use Rattle.sb_desk.specs.declared.view.Ask.{Ask}
use Rattle.sb_desk.specs.declared.view.View.{View}
use Rattle.sb_desk.specs.declared.view.Stage.{Stage}
use Rattle.sb_desk.specs.declared.view.Stage.TheVariants.{Note, Idle, Waits, Turn, Out, Spent}
use Rattle.sb_desk.specs.Entries.{entries_by}
use Rattle.sb_desk.specs.Groups.{posts_by, asked_by, IsFollowed}
use Rattle.sb_desk.specs.Lists.{AreComparable, HaveSeatsBelow, longer}
use Rattle.sb_desk.specs.Posts.{asked_of, post_entries}
use Rattle.sb_desk.specs.Rule.{word, ticket_of, log_of, posts_of}

-- ---- steps on a word

-- a view at another stage
abbrev pub placed : Stage → View → View
placed stage v = record v { stage = stage }

-- what the last of the posts asks
abbrev pub last_ask : List Post → Option Ask
last_ask [] = None
last_ask (p ∷ []) = Some (record { reading = p.reading; call = p.call })
last_ask (p ∷ q ∷ ps) = last_ask (q ∷ ps)

-- What a seat that has the value knows: where the history goes on from what it has seen, with its post; that all entries are of passes, as it is
-- one; and that there is room for its post where it has none.
pub record Knows (log : List Entry) (posts : List Post) (v : View) : Type 0 where
  pub front : IsFollowed log posts v.seat v.seen v.post
  pub numbered : HaveSeatsBelow v.passes log
  pub seat : v.seat < v.passes
  pub room : v.post ≡ None → length posts < v.passes

-- what a seat carries through a step: its view, and the values that it has
abbrev pub Sat : Type 0 → Type 0
Sat X = Me (Option X) View

module _ {X : Type 0} where
  -- the seat drew the ticket of this number
  abbrev pub drew : Step (Option X) → Sat X → ℕ → Sat X → Type 0
  drew st m r m' = (k : ℕ) × (word k ≡ r) × (m' ≡ (placed (Waits k) m.0, m.1))

  -- the seat has its turn if its ticket's number stands in the word, else nothing changed
  abbrev pub looked : Step (Option X) → Sat X → ℕ → Sat X → Type 0
  looked st m r m' = (word (ticket_of m.0.stage) ≡ r → m' ≡ (placed (Turn (ticket_of m.0.stage)) m.0, m.1)) × (word (ticket_of m.0.stage) ≢ r → m' ≡ m)

  -- the value that was taken stands for the history, and the posts lie beside it
  abbrev pub took : (X → State → List Entry → Type 0) → (X → Origin) → (X → List Post) → (ℕ → X → Type 0) → Step (Option X) → Sat X → ℕ → Sat X → Type 0
  took stands origin_of posts_in arranged st m r m' =
      (x : X) × (log : List Entry) × (m' ≡ (placed (Out (ticket_of m.0.stage) log (posts_in x)) m.0, (0, Some x) ∷ m.1)) × stands x m.0.start log × (origin_of x ≡ m.0.origin)
      × arranged m.0.passes x × Knows log (posts_in x) m.0

  -- the posts beside the value that the seat carries
  abbrev pub carried_posts : (X → List Post) → List (ℕ × Option X) → List Post
  carried_posts posts_in ((k, Some x) ∷ c) = posts_in x
  carried_posts posts_in _ = []

  -- the last of the posts is its own
  abbrev pub asked : (X → List Post) → Step (Option X) → Sat X → ℕ → Sat X → Type 0
  asked posts_in st m r m' =
      m' ≡ (record m.0 { post = last_ask (carried_posts posts_in m.1); stage = Out (ticket_of m.0.stage) (log_of m.0.stage) (carried_posts posts_in m.1) }, m.1)

  -- the entries of a group stand behind the history, for which the value that the seat carries stands
  abbrev pub recorded : (X → State → List Entry → Type 0) → (X → List Post) → Step (Option X) → Sat X → ℕ → Sat X → Type 0
  recorded stands posts_in st m r m' =
      (made : List Entry) × (m' ≡ (placed (Out (ticket_of m.0.stage) (log_of m.0.stage ++ made) (carried_posts posts_in m.1)) m.0, m.1))
      × ((x : X) → m.1 ≡ (0, Some x) ∷ [] → stands x m.0.start (log_of m.0.stage ++ made)) × Knows (log_of m.0.stage ++ made) (carried_posts posts_in m.1) m.0

  -- the seat's post was taken out, and the seat has seen the history up to what this one came to
  abbrev pub collected : (X → List Post) → Step (Option X) → Sat X → ℕ → Sat X → Type 0
  collected posts_in st m r m' =
      (p : Post) × (before : List Entry) × (after : List Entry) × (posts_by m.0.seat (posts_of m.0.stage) ≡ p ∷ []) × (log_of m.0.stage ≡ m.0.seen ++ ((before ++ post_entries p) ++ after)) × (entries_by m.0.seat before ≡ [])
      × (m' ≡ (record m.0 { seen = m.0.seen ++ (before ++ post_entries p); post = None; stage = Out (ticket_of m.0.stage) (log_of m.0.stage) (carried_posts posts_in m.1) }, m.1))
      × ((ask : Ask) → m.0.post ≡ Some ask → asked_of p ≡ asked_by m.0.seat ask)

  -- the value was put back
  abbrev pub gave : Step (Option X) → Sat X → ℕ → Sat X → Type 0
  gave st m r m' = m' ≡ (placed (Turn (ticket_of m.0.stage)) m.0, rest m.1)

  -- the turn is given on, and the seat rests
  abbrev pub passed : Step (Option X) → Sat X → ℕ → Sat X → Type 0
  passed st m r m' = m' ≡ (placed Idle m.0, m.1)

  -- the two lists that were shown are comparable with what the seat has seen
  abbrev pub compared : Step (Option X) → Sat X → ℕ → Sat X → Type 0
  compared st m r m' = (m' ≡ m) × AreComparable m.0.one m.0.seen × AreComparable m.0.other m.0.seen

-- ---- cutting and joining

-- a seat that has seen as much, and has no number
abbrev pub note_of : View → View
note_of v = record { seat = 0; spare = 0; passes = v.passes; start = v.start; origin = v.origin; seen = v.seen; parts = 0; post = None; stage = Note; one = []; other = []; claims = [] }

-- one pass less, and without the last of the numbers
abbrev pub less_one : View → View
less_one v = record v { parts = v.parts - 1; spare = v.spare - 1 }

-- one more pass, with the last of the numbers
abbrev pub one_more : View → View
one_more v = record { seat = v.seat + v.spare; spare = 0; passes = v.passes; start = v.start; origin = v.origin; seen = v.seen; parts = 1; post = None; stage = Idle; one = []; other = []; claims = [] }

abbrev no_disk : DiskOrigin
no_disk = record { faults = 0; honest = false; held = record { seen = []; synced = []; ranges = []; least = 0; greatest = 0 }; past = [] }

-- the view of a seat that is gone
abbrev pub spent_view : View
spent_view = record { seat = 0; spare = 0; passes = 0; start = empty_state 0; origin = record { disk_a = no_disk; disk_b = no_disk; goes_on = false }; seen = []; parts = 0; post = None; stage = Spent; one = []; other = []; claims = [] }

-- the seat has the longer one of two lists
abbrev pub told : View → View → View
told v w = record v { seen = longer v.seen w.seen; one = v.seen; other = w.seen }

-- one view stands for the passes of both, with a claim for the other's
abbrev pub gathered : View → View → View
gathered v w = record v { parts = v.parts + w.parts; claims = record { seat = w.seat; seen = w.seen } ∷ v.claims }

-- the table has three words and one slot
abbrev pub IsSized : TableId → Type 0
IsSized z = (z.words ≡ 3) × (z.slots ≡ 1)
