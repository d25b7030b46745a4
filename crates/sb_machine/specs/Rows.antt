-- A row is what an operation comes to: it is refused, or it is answered and these are its changes. Here are the tests
-- that rows are made of, each with its refusal.
use Rattle.std.specs.Prelude.{ℕ, ◌-◌, ◌&&◌, ◌||◌, not, nat_lt, Bool, if◌then◌else◌, List, Option, Some, None, true, false}
use Rattle.sb_machine.specs.Changes.{after_all, is_numbered}
use Rattle.sb_machine.specs.Names.{is_address}
use Rattle.sb_machine.specs.Namespace.{entity_at, live}
use Rattle.sb_machine.specs.declared.call.Part.{Part}
use Rattle.sb_machine.specs.declared.call.Part.TheVariants.{Main, Dead, Transfer}
use Rattle.sb_machine.specs.declared.call.Path.{Path}
use Rattle.sb_machine.specs.declared.change.Change.{Change}
use Rattle.sb_machine.specs.declared.reply.Reply.{Reply}
use Rattle.sb_machine.specs.declared.reply.Refusal.{Refusal}
use Rattle.sb_machine.specs.declared.reply.Refusal.TheVariants.{EntityNotFound, BadName, WrongKind, QuotaExceeded, Exhausted}
use Rattle.sb_machine.specs.declared.state.Entity.{Entity}
use Rattle.sb_machine.specs.declared.state.EntityKind.{EntityKind}
use Rattle.sb_machine.specs.declared.state.EntityKind.TheVariants.{Queue, Topic, Subscription}
use Rattle.sb_machine.specs.declared.state.Space.{Space}

-- with no changes nothing changes
pub data Row : Type 0 where
  refuses : Refusal → Row
  answers : Reply → List Change → Row

-- refused where this test says so
abbrev pub refused_by : Option Refusal → Row → Row
refused_by None row = row
refused_by (Some r) row = refuses r

-- refused by this unless the test passes
abbrev pub asks : Bool → Refusal → Row → Row
asks passes refusal row = if passes then row else refuses refusal

-- what is done with what was found
abbrev pub found_or : {X : Type 0} → Option X → Refusal → (X → Row) → Row
found_or (Some x) refusal next = next x
found_or None refusal next = refuses refusal

-- refuses where there is something already
abbrev pub absent_or : {X : Type 0} → Option X → Refusal → Row → Row
absent_or (Some x) refusal row = refuses refusal
absent_or None refusal row = row

-- what is done with the entity of an address
abbrev pub at_entity : Space → Path → (Entity → Row) → Row
at_entity s path next = asks (is_address path) BadName (found_or (entity_at path s) EntityNotFound next)

-- whether a kind is topic
abbrev pub is_topic : EntityKind → Bool
is_topic Topic = true
is_topic Queue = false
is_topic Subscription = false

-- whether a part is that of transfers
abbrev pub is_transfer : Part → Bool
is_transfer Transfer = true
is_transfer Main = false
is_transfer Dead = false

-- of a topic only its Transfer part is received from
abbrev pub is_receivable : Entity → Part → Bool
is_receivable e part = not (is_topic e.about.kind) || is_transfer part

-- the same, where the part is received from
abbrev pub at_receivable : Space → Path → (Entity → Row) → Row
at_receivable s path next = at_entity s path (λ e. asks (is_receivable e path.part) WrongKind (next e))

-- ---- tests that count what the changes do

abbrev pub max_copies : ℕ
max_copies = 1000000

-- there would be more live copies than there were, and too many
abbrev pub is_beyond : ℕ → ℕ → Bool
is_beyond before later = nat_lt before later && nat_lt max_copies later

-- refuses changes that would have more messages stand in the namespace than may
abbrev pub within_quota : ℕ → Space → List Change → Row → Row
within_quota t s cs row = if is_beyond (live s) (live (after_all t cs s)) then refuses (QuotaExceeded (live s) (live (after_all t cs s) - live s)) else row

-- the last test of all: no number that is given passes the greatest
abbrev pub numbered : ℕ → Space → Row → Row
numbered t s (refuses r) = refuses r
numbered t s (answers reply cs) = if is_numbered t cs s then answers reply cs else refuses Exhausted
