-- Sending: the messages of a call, one after another; messages that are queued in a transaction.
use Rattle.std.specs.Prelude.{ℕ, ◌+◌, ◌||◌, not, Bool, false, List, [], ◌∷◌, ◌++◌, nat_lt, if◌then◌else◌, Option, Some, None}
use Rattle.std.specs.List.{list_all}
use Rattle.std.specs.Option.{option_map}
use Rattle.sb_machine.specs.Changes.{after_all, in_turn, is_known}
use Rattle.sb_machine.specs.Delivery.{in_part, delivered}
use Rattle.sb_machine.specs.Messages.{text_of, large_size}
use Rattle.sb_machine.specs.Namespace.{entity_of, key_of, last_at, listed}
use Rattle.sb_machine.specs.Visits.{visits, has_session}
use Rattle.sb_machine.specs.declared.call.Part.TheVariants.{Main}
use Rattle.sb_machine.specs.declared.change.Change.{Change}
use Rattle.sb_machine.specs.declared.change.Change.TheVariants.{Notes}
use Rattle.sb_machine.specs.declared.change.LeafChange.TheVariants.{Enters}
use Rattle.sb_model.specs.declared.message.Message.{Message}
use Rattle.sb_model.specs.declared.message.SystemName.TheVariants.{MessageId}
use Rattle.sb_machine.specs.declared.reply.Receipt.{Receipt}
use Rattle.sb_machine.specs.declared.reply.Receipt.TheVariants.{Number, Duplicate}
use Rattle.sb_machine.specs.declared.reply.Refusal.{Refusal}
use Rattle.sb_machine.specs.declared.reply.Refusal.TheVariants.{TooLarge}
use Rattle.sb_machine.specs.declared.state.Entity.{Entity}
use Rattle.sb_machine.specs.declared.state.Space.{Space}
use Rattle.sb_machine.specs.declared.state.Standing.TheVariants.{Scheduled}

-- ---- duplicates

-- an equal id was accepted there within the window
abbrev pub knows : List ℕ → ℕ → Entity → Bool
knows id t e = elim e.about.description.window [ Some window ↦ is_known window id t e.ids | None ↦ false ]

-- whether a message is a duplicate of one that its entity has accepted
abbrev pub is_repeat : ℕ → Entity → Message → Space → Bool
is_repeat t e m s = elim (text_of MessageId m) [ Some id ↦ elim (entity_of e.about.number s) [ Some now ↦ knows id t now | None ↦ false ] | None ↦ false ]

-- where the entity has a window
abbrev pub noting : Entity → Message → List Change
noting e m = elim e.about.description.window [ Some window ↦ elim (text_of MessageId m) [ Some id ↦ Notes e.about.number id ∷ [] | None ↦ [] ] | None ↦ [] ]

-- ---- one message of a send

-- a message without the moment from which on it may be received
abbrev pub unscheduled : Message → Message
unscheduled m = record m { schedule = None }

-- it waits for its moment
abbrev pub waiting : Entity → Message → ℕ → List Change
waiting e m at = in_part Main e (Enters (record { seq = None; hops = 0; standing = Scheduled at; message = unscheduled m })) ∷ []

-- the changes by which a message enters now
abbrev pub entering : Entity → Message → Space → List Change
entering e m s = delivered None (visits (listed s) 0 e.about (unscheduled m)) s

-- the changes by which a message enters now, or waits for its moment
abbrev pub coming : ℕ → Entity → Message → Space → List Change
coming t e m s = elim m.schedule [ Some at ↦ (if nat_lt t at then waiting e m at else entering e m s) | None ↦ entering e m s ]

-- the changes for one message of a send; a duplicate makes none
abbrev pub message_changes : ℕ → Entity → Message → Space → List Change
message_changes t e m s = if is_repeat t e m s then [] else noting e m ++ coming t e m s

-- ---- all of them

-- the changes for the messages of a send, each in the namespace that those before it left
abbrev pub send_changes : ℕ → Entity → List Message → Space → List Change
send_changes t e ms s = in_turn (message_changes t e) t ms s

-- the number that each gets in the entity's main part
abbrev pub receipt : ℕ → Entity → Message → Space → Receipt
receipt t e m s = if is_repeat t e m s then Duplicate else Number (last_at (key_of Main e) s + 1)

-- the receipt of each message: its number, or that it was a duplicate
abbrev pub receipts : ℕ → Entity → List Message → Space → List Receipt
receipts t e [] s = []
receipts t e (m ∷ ms) s = receipt t e m s ∷ receipts t e ms (after_all t (message_changes t e m s) s)

-- ---- tests on messages

-- the refusal of messages that are too large, which tells the size
abbrev pub too_large : List Message → Option Refusal
too_large messages = option_map (λ size. TooLarge size) (large_size messages)

-- each has a session where the entity asks for one
abbrev pub have_sessions : Entity → List Message → Bool
have_sessions e messages = not e.about.description.requires_session || list_all has_session messages
