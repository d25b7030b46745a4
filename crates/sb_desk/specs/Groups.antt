-- Posts by the seats whose calls they are, and what a group that is carried out does to them and to the history.
use Rattle.std.specs.Prelude.{◌≡◌, ℕ, ◌==◌, ◌<◌, ◌≤◌, true, List, [], ◌∷◌, ◌++◌, filter, map, take, drop, length, is_some, vec_capacity, Option, Some, None}
use Rattle.std.specs.List.{All}
use Rattle.sb_machine.specs.Ordered.{IsActInOrder}
use Rattle.sb_machine.specs.declared.history.Entry.{Entry}
use Rattle.sb_desk.specs.declared.post.Post.{Post}
use Rattle.sb_desk.specs.declared.view.Ask.{Ask}
use Rattle.sb_desk.specs.declared.view.Held.{Held}
use Rattle.sb_desk.specs.Entries.{entries_by}
use Rattle.sb_desk.specs.Posts.{Asked, asked_of, post_entries, group_entries}

-- ---- one seat

-- the posts of one seat
abbrev pub posts_by : ℕ → List Post → List Post
posts_by seat posts = filter (λ p. p.seat == seat) posts

-- what a seat asked
abbrev pub asked_by : ℕ → Ask → Asked
asked_by seat ask = record { seat = seat; reading = ask.reading; call = ask.call }

-- a call that waits
abbrev pub waiting_post : ℕ → Ask → Post
waiting_post seat ask = record { seat = seat; reading = ask.reading; call = ask.call; went = None }

-- these entries stand in the list, one right behind another, and no other one of it is the seat's
abbrev pub HasOwn : ℕ → List Entry → List Entry → Type 0
HasOwn seat own entries = (before : List Entry) × (after : List Entry) × (entries ≡ (before ++ own) ++ after) × (entries_by seat before ≡ []) × (entries_by seat after ≡ [])

-- A seat's posts are the one that it knows of, and behind what it has seen its entries are those that this one came to: none, while it waits.
abbrev pub IsPosted : ℕ → List Post → Option Ask → List Entry → Type 0
IsPosted seat own None rest = (own ≡ []) × (entries_by seat rest ≡ [])
IsPosted seat own (Some ask) rest = (p : Post) × (own ≡ p ∷ []) × (asked_of p ≡ asked_by seat ask) × HasOwn seat (post_entries p) rest

-- the history goes on from what a seat has seen, with no entries of it but those of its post
abbrev pub IsFollowed : List Entry → List Post → ℕ → List Entry → Option Ask → Type 0
IsFollowed log posts seat seen post = (rest : List Entry) × (log ≡ seen ++ rest) × IsPosted seat (posts_by seat posts) post rest

-- ---- all posts

-- The posts behind the first ones were carried out, and came to these entries. What was asked is what it was.
pub record AreCarriedOut (posts next : List Post) (made : List Entry) : Type 0 where
  pub first : List Post
  pub old : List Post
  pub new : List Post
  pub before : posts ≡ first ++ old
  pub after : next ≡ first ++ new
  pub asked : map asked_of new ≡ map asked_of old
  pub waiting : All (λ p. p.went ≡ None) old
  pub entries : made ≡ group_entries new

-- one post of the seat was taken out of the list
abbrev pub IsTaken : ℕ → List Post → Post → List Post → Type 0
IsTaken seat posts p rest = (a : List Post) × (b : List Post) × (posts ≡ a ++ p ∷ b) × (rest ≡ a ++ b) × (p.seat ≡ seat)

-- what is kept of posts: room for one of each pass, those with an answer before those that wait, and that all may be asked and are of passes
pub record AreKept (passes answered : ℕ) (posts : List Post) (space : ℕ) : Type 0 where
  pub room : passes ≤ space
  pub within : answered ≤ length posts
  pub went : All (λ p. is_some p.went ≡ true) (take answered posts)
  pub waiting : All (λ p. p.went ≡ None) (drop answered posts)
  pub order : All (λ p. IsActInOrder p.call.act) posts
  pub seats : All (λ p. p.seat < passes) posts

-- ---- what lies beside the value

-- the posts that lie beside a value
abbrev pub posts_in : {V : Type 0} → Held V → List Post
posts_in held = held.posts.items

-- they are kept as they have to be
abbrev pub IsArranged : {V : Type 0} → ℕ → Held V → Type 0
IsArranged passes held = AreKept passes held.answered held.posts.items (vec_capacity held.posts)
