-- How far a send has been planned, and what that stands for.
use Rattle.std.specs.Prelude.{◌≡◌, ℕ, ◌++◌, ◌||◌, ◌&&◌, nat_lt, Bool, true, false, bytes_eq, if◌then◌else◌, List, [], ◌∷◌, Option, Some, None}
use Rattle.std.specs.List.{list_any}
use Rattle.std.specs.Option.{option_map}
use Rattle.sb_fanout.specs.Lasts.{Given, is_listed, given_in}
use Rattle.sb_machine.specs.Changes.{after_all, is_known}
use Rattle.sb_machine.specs.Messages.{text_of}
use Rattle.sb_machine.specs.Namespace.{entity_of, listed}
use Rattle.sb_machine.specs.Sending.{message_changes, receipt, receipts, send_changes}
use Rattle.sb_machine.specs.declared.change.Change.{Change}
use Rattle.sb_machine.specs.declared.reply.Receipt.{Receipt}
use Rattle.sb_machine.specs.declared.state.AcceptedId.{AcceptedId}
use Rattle.sb_machine.specs.declared.state.Entity.{Entity}
use Rattle.sb_machine.specs.declared.state.Listed.{Listed}
use Rattle.sb_machine.specs.declared.state.Space.{Space}
use Rattle.sb_model.specs.declared.message.Message.{Message}
use Rattle.sb_model.specs.declared.message.SystemName.TheVariants.{MessageId}
use Rattle.sb_engine.specs.Growing.{Stands}
use Rattle.sb_engine.specs.declared.deliver.sending.Sending.{Sending}

-- ---- ids

-- noted by the messages before
abbrev pub is_noted : List (List ℕ) → List ℕ → Bool
is_noted fresh id = list_any (λ x. bytes_eq x id) fresh

-- accepted within a window before this moment, or noted at it
abbrev pub is_known_with : ℕ → List AcceptedId → List (List ℕ) → List ℕ → ℕ → Bool
is_known_with window ids fresh id t = is_known window id t ids || (nat_lt 0 window && is_noted fresh id)

-- to an entity as it was read
abbrev pub knows_so_far : ℕ → Option Entity → List (List ℕ) → List ℕ → Bool
knows_so_far t None fresh id = false
knows_so_far t (Some e) fresh id = elim e.about.description.window [ Some window ↦ is_known_with window e.ids fresh id t | None ↦ false ]

-- whether a message is a duplicate of one before it
abbrev pub is_repeat_so_far : ℕ → Option Entity → List (List ℕ) → Message → Bool
is_repeat_so_far t e fresh m = elim (text_of MessageId m) [ Some id ↦ knows_so_far t e fresh id | None ↦ false ]

-- the id that a message brings where there is a window
abbrev pub noted_of : Entity → Message → List (List ℕ)
noted_of e m = elim e.about.description.window [ Some window ↦ elim (text_of MessageId m) [ Some id ↦ id ∷ [] | None ↦ [] ] | None ↦ [] ]

-- the moment that a message waits for, where that is still to come
abbrev pub waits_for : ℕ → Message → Option ℕ
waits_for t m = elim m.schedule [ Some at ↦ (if nat_lt t at then Some at else None) | None ↦ None ]

-- ---- what is seen of an entity

-- what is listed of it, and the ids that it accepted
abbrev pub View : Type 0
View = Listed × List AcceptedId

-- what is seen of an entity
abbrev pub view_of : Entity → View
view_of e = (e.about, e.ids)

-- of the entity of a number
abbrev pub seen_in : ℕ → Space → Option View
seen_in n s = option_map view_of (entity_of n s)

-- the ids of this entity, as it was read, and these are those that it knows now
pub record HasIds (t : ℕ) (e : Entity) (fresh : List (List ℕ)) (now : Option View) : Type 0 where
  pub ids : List AcceptedId
  pub is : now ≡ Some (e.about, ids)
  pub known : (id : List ℕ) → ◌≡◌ {A = Bool} (elim e.about.description.window [ Some window ↦ is_known window id t ids | None ↦ false ]) (knows_so_far t (Some e) fresh id)

-- what is seen now is of the entity as it was read, with the ids noted since; or there was none and is none
abbrev pub StandsSeen : ℕ → Option Entity → List (List ℕ) → Option View → Type 0
StandsSeen t None fresh now = now ≡ None
StandsSeen t (Some e) fresh now = HasIds t e fresh now

-- ---- a plan under way

-- an entity of this one's number is there
abbrev pub IsThere : Space → Entity → Type 0
IsThere read e = is_listed e.about.number (listed read) ≡ true

-- the same, where there is an entity to ask for
abbrev pub IsThereIn : Space → Option Entity → Type 0
IsThereIn read None = Unit {0}
IsThereIn read (Some e) = IsThere read e

-- The numbers given and the ids noted stand for the namespace that these changes lead to, from the
-- one that was read, where an entity of this number is.
pub record StandsAt (t : ℕ) (read : Space) (n : ℕ) (given : Given) (fresh : List (List ℕ)) (cs : List Change) : Type 0 where
  pub there : is_listed n (listed read) ≡ true
  pub numbers : Stands read given (after_all t cs read)
  pub seen : StandsSeen t (entity_of n read) fresh (seen_in n (after_all t cs read))

-- What comes behind the changes of a plan in the namespace that they lead to.
pub record Comes (t : ℕ) (read : Space) (n : ℕ) (f : Space → List Change) (before after : Given) (old new : List Change) : Type 0 where
  pub changes : (s : Space) → Stands read before s → is_listed n (listed read) ≡ true → new ≡ old ++ f s
  pub stands : (s : Space) → Stands read before s → Stands read after (after_all t (f s) s)

-- a plan under way: the numbers given, the ids noted, the changes and the receipts
pub record Told : Type 0 where
  pub given : Given
  pub fresh : List (List ℕ)
  pub changes : List Change
  pub receipts : List Receipt

-- what a plan in memory says of itself
abbrev pub told : Sending → Told
told p = record { given = given_in p.lasts; fresh = p.noted.items; changes = p.changes; receipts = p.receipts.items }

-- a plan's numbers and ids stand for the namespace that its changes lead to
abbrev pub IsUnderWay : ℕ → Space → ℕ → Told → Type 0
IsUnderWay t read n p = StandsAt t read n p.given p.fresh p.changes

-- the namespace that it leads to
abbrev pub space_at : ℕ → Space → Told → Space
space_at t read p = after_all t p.changes read

-- one message more
pub record SendsOne (t : ℕ) (read : Space) (e : Entity) (m : Message) (p q : Told) : Type 0 where
  pub changes : q.changes ≡ p.changes ++ message_changes t e m (space_at t read p)
  pub receipts : q.receipts ≡ p.receipts ++ receipt t e m (space_at t read p) ∷ []
  pub stands : IsUnderWay t read e.about.number q

-- these messages more, one after another
pub record SendsAll (t : ℕ) (read : Space) (e : Entity) (ms : List Message) (p q : Told) : Type 0 where
  pub changes : q.changes ≡ p.changes ++ send_changes t e ms (space_at t read p)
  pub receipts : q.receipts ≡ p.receipts ++ receipts t e ms (space_at t read p)
  pub stands : IsUnderWay t read e.about.number q
