-- What the head of a request says, and which bytes begin with one (RFC 9112, sections 2.1, 3 and 5).
-- The grammar is that of `httparse`; the limits are this crate's.
use Rattle.std.specs.Prelude.{◌≡◌, ℕ, ◌≤◌, ◌<◌, ◌⊎◌, List, length, take, map}
use Rattle.httparse.specs.Grammar.{RequestHead, print_request, ReadsRequest, HasNoRequest, MayBecomeRequest}
use Rattle.httparse.specs.Spans.{name_and_value, RequestExceeds}
use Rattle.sb_http.specs.declared.fields.Framing.{Framing}
use Rattle.sb_http.specs.Fields.{Field, stated_by, framing_by}

-- the most bytes of a head, with the empty lines before it and the one that ends it
abbrev pub max_head : ℕ
max_head = 16384

-- the most field lines
abbrev pub max_fields : ℕ
max_fields = 64

-- what a head says: its fields in order, with their names as sent and their values without the
-- white space around them
pub record Head : Type 0 where
  pub method : List ℕ
  pub target : List ℕ
  pub minor : ℕ
  pub fields : List Field

-- what a head of the grammar says
abbrev pub head_of : RequestHead → Head
head_of h = record { method = h.method; target = h.target; minor = h.minor; fields = map name_and_value h.fields }

-- the bytes begin with a head that says this, within the limits, and rest follows it
pub record ReadsHead (bytes : List ℕ) (head : Head) (rest : List ℕ) : Type 0 where
  pub tree : RequestHead
  pub reads : ReadsRequest bytes tree rest
  pub says : head ≡ head_of tree
  pub short : length (print_request tree) ≤ max_head
  pub few : length tree.fields ≤ max_fields

-- how the body behind the head goes, or that the head is refused
abbrev pub framing : Head → Framing
framing head = framing_by head.target head.minor (stated_by head.fields)

-- no head stands here yet, and the limit isn't reached
pub record WaitsForHead (bytes : List ℕ) : Type 0 where
  pub short : length bytes < max_head
  pub none : HasNoRequest bytes

-- The head goes on past its limits: the most bytes that it may have are no head and may become one,
-- or it has more lines than it may have within these.
abbrev pub PassesHead : List ℕ → Type 0
PassesHead bytes = ((max_head ≤ length bytes) × HasNoRequest (take max_head bytes) × MayBecomeRequest (take max_head bytes)) ⊎ RequestExceeds max_fields (take max_head bytes)
