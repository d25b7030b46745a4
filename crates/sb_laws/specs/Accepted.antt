-- An id is accepted once within its entity's window; and a send's entity accepts the ids of just those messages that get a number.
use Rattle.std.specs.Prelude.{◌≡◌, ◌≤◌, ◌+◌, ◌*◌, ℕ, List, [], ◌∷◌, ◌++◌, Bool, true, bytes_eq, ◌==◌, ◌&&◌, if◌then◌else◌, map, Option, Some, None, Ok}
use Rattle.std.specs.List.{flat_map}
use Rattle.sb_machine.specs.Accounts.{entry_changes, moment_in, noted_ids}
use Rattle.sb_machine.specs.Changes.{along}
use Rattle.sb_machine.specs.Consistent.{IsConsistent}
use Rattle.sb_machine.specs.Each.{Each}
use Rattle.sb_machine.specs.Ends.{Noted, notes_in}
use Rattle.sb_machine.specs.History.{IsLegal, Log, after_entry, fresh_log}
use Rattle.sb_machine.specs.Messages.{text_of}
use Rattle.sb_machine.specs.Names.{is_same_entity}
use Rattle.sb_machine.specs.Namespace.{entity_at}
use Rattle.sb_machine.specs.declared.call.Act.TheVariants.{Send, Together}
use Rattle.sb_machine.specs.declared.call.Path.{Path}
use Rattle.sb_machine.specs.declared.call.Step.{Step}
use Rattle.sb_machine.specs.declared.call.Step.TheVariants.{Send as StepSend}
use Rattle.sb_machine.specs.declared.history.Entry.{Entry}
use Rattle.sb_machine.specs.declared.history.Entry.TheVariants.{Ticked, Answered as Replied}
use Rattle.sb_machine.specs.declared.reply.Answered.TheVariants.{New}
use Rattle.sb_machine.specs.declared.reply.Receipt.{Receipt}
use Rattle.sb_machine.specs.declared.reply.Receipt.TheVariants.{Number, Duplicate}
use Rattle.sb_machine.specs.declared.reply.Reply.TheVariants.{Sent, Together as Told}
use Rattle.sb_machine.specs.declared.reply.StepReply.{StepReply}
use Rattle.sb_machine.specs.declared.reply.StepReply.TheVariants.{Sent as StepSent}
use Rattle.sb_machine.specs.declared.state.AcceptedId.{AcceptedId}
use Rattle.sb_machine.specs.declared.state.Entity.{Entity}
use Rattle.sb_machine.specs.declared.state.Space.{Space}
use Rattle.sb_machine.specs.declared.state.State.{State}
use Rattle.sb_model.specs.declared.message.Message.{Message}
use Rattle.sb_model.specs.declared.message.SystemName.TheVariants.{MessageId}

-- whether two are acceptances of one id by one entity
abbrev pub is_same_id : Noted → Noted → Bool
is_same_id x y = (y.entity == x.entity) && bytes_eq y.id x.id

-- each of these that has the entity and the id of this one lies the window before it
abbrev pub IsClear : Noted → List Noted → Type 0
IsClear x ys = Each (λ y. is_same_id x y ≡ true → y.moment + 1000 * x.window ≤ x.moment) ys

-- behind those, each is clear of all before it
abbrev pub Apart : List Noted → List Noted → Type 0
Apart past [] = Unit {0}
Apart past (x ∷ xs) = IsClear x past × Apart (past ++ x ∷ []) xs

-- an id that is kept; nobody asks for its window
abbrev pub kept_as_noted : Entity → AcceptedId → Noted
kept_as_noted e a = record { entity = e.about.number; id = a.id; moment = a.moment; window = 0 }

-- the ids that the namespace keeps
abbrev pub kept_ids : Space → List Noted
kept_ids s = flat_map (λ e. map (kept_as_noted e) e.ids) s.entities

-- in each legal history, an entity accepts an id again only once its window has passed
abbrev pub OnceIds : Type 0
OnceIds = (s : State) (h : List Entry) → IsConsistent s → IsLegal s h → Apart (kept_ids s.space) (noted_ids (fresh_log s) h)

-- ---- what a send accepts

-- those of a send's messages that got a number of their own
abbrev pub accepted_of : List Receipt → List Message → List Message
accepted_of (Number n ∷ rs) (m ∷ ms) = m ∷ accepted_of rs ms
accepted_of (Duplicate ∷ rs) (m ∷ ms) = accepted_of rs ms
accepted_of [] ms = []
accepted_of (r ∷ rs) [] = []

-- the id of a message, if it has one
abbrev pub id_in : Message → List (List ℕ)
id_in m = elim (text_of MessageId m) [ Some id ↦ id ∷ [] | None ↦ [] ]

-- the acceptance of these messages' ids by an entity at a moment, if it has a window
abbrev pub notes_of : Entity → ℕ → List Message → List Noted
notes_of e t ms = elim e.about.description.window [ Some window ↦ map (λ id. record { entity = e.about.number; id = id; moment = t; window = window }) (flat_map id_in ms) | None ↦ [] ]

-- The acceptance of the ids of an operation's messages that got a number, if it sends to this entity. What is sent elsewhere is handed on from
-- there, and no id of it is accepted.
abbrev pub step_notes : Entity → ℕ → Step → StepReply → List Noted
step_notes e t (StepSend to ms) (StepSent rs) = if is_same_entity to e.about.path then notes_of e t (accepted_of rs ms) else []
step_notes e t _ _ = []

-- the same of operations with their replies, in their order
abbrev pub steps_note : Entity → ℕ → List Step → List StepReply → List Noted
steps_note e t (x ∷ xs) (r ∷ rs) = step_notes e t x r ++ steps_note e t xs rs
steps_note e t _ _ = []

-- the ids that an entry accepts
abbrev pub entry_notes : Log → Entry → List Noted
entry_notes l e = along notes_in (moment_in l e) (entry_changes l e) l.state.space

-- the address is an entity's, which accepted at this entry the ids of the messages that got a number, in order, and no other
pub record NotesAccepted (l : Log) (entry : Entry) (to : Path) (rs : List Receipt) (ms : List Message) : Type 0 where
  pub entity : Entity
  pub there : entity_at to l.state.space ≡ Some entity
  pub notes : entry_notes l entry ≡ notes_of entity (moment_in l entry) (accepted_of rs ms)

-- the address is an entity's; of what the operations send to it, it accepted at this entry the ids of the messages that got a number, in order, and
-- no other id was accepted
pub record NotesTogether (l : Log) (entry : Entry) (path : Path) (replies : List StepReply) (steps : List Step) : Type 0 where
  pub entity : Entity
  pub there : entity_at path l.state.space ≡ Some entity
  pub notes : entry_notes l entry ≡ steps_note entity (moment_in l entry) steps replies

-- If an entry is a send that was answered with receipts, it accepts the ids of what got a number. If it is operations that act together, and they
-- were answered, it accepts the ids of what got a number of that which they send to the entity on which they act.
abbrev pub NotesOwn : Log → Entry → Type 0
NotesOwn l (Ticked seat t) = Unit {0}
NotesOwn l (Replied seat reading call answer) =
    ((to : Path) (ms : List Message) (txn : Option ℕ) (rs : List Receipt) → call.act ≡ Send to ms txn → answer ≡ Ok (New (Sent rs)) → NotesAccepted l (Replied seat reading call answer) to rs ms)
    × ((path : Path) (steps : List Step) (replies : List StepReply) → call.act ≡ Together path steps → answer ≡ Ok (New (Told replies)) → NotesTogether l (Replied seat reading call answer) path replies steps)

-- so it is at each entry
abbrev pub AllNote : Log → List Entry → Type 0
AllNote l [] = Unit {0}
AllNote l (e ∷ es) = NotesOwn l e × AllNote (after_entry l e) es

-- in each legal history, a send's entity accepts the ids of just those messages that get a number: under a window these are the ids noted; so
-- does the entity of operations that act together, of those that they send to it
abbrev pub SentNotes : Type 0
SentNotes = (s : State) (h : List Entry) → IsConsistent s → IsLegal s h → AllNote (fresh_log s) h
