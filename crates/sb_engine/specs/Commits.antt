-- How far a commit has been planned, and what its operations do.
use Rattle.std.specs.Prelude.{◌≡◌, ℕ, ◌++◌, ◌&&◌, ◌==◌, Bool, true, false, List, [], ◌∷◌, find, Option, Some, None}
use Rattle.std.specs.List.{list_any}
use Rattle.sb_machine.specs.Leases.{is_living}
use Rattle.sb_machine.specs.Names.{is_same_part}
use Rattle.sb_machine.specs.Namespace.{entity_of, leaf_of, listed}
use Rattle.sb_machine.specs.Sending.{unscheduled}
use Rattle.sb_machine.specs.Settlement.{goes_with}
use Rattle.sb_machine.specs.Together.{first_number, sent_receipts}
use Rattle.sb_machine.specs.Visits.{destination, passage}
use Rattle.sb_machine.specs.declared.call.Part.{Part}
use Rattle.sb_machine.specs.declared.call.Part.TheVariants.{Main, Transfer}
use Rattle.sb_machine.specs.declared.change.Change.{Change}
use Rattle.sb_machine.specs.declared.change.Change.TheVariants.{InLeaf, Begins, Drops}
use Rattle.sb_machine.specs.declared.change.LeafChange.{LeafChange}
use Rattle.sb_machine.specs.declared.change.LeafChange.TheVariants.{Writes}
use Rattle.sb_machine.specs.declared.change.LeafKey.{LeafKey}
use Rattle.sb_machine.specs.declared.reply.Receipt.{Receipt}
use Rattle.sb_machine.specs.declared.state.Entity.{Entity}
use Rattle.sb_machine.specs.declared.state.Leaf.{Leaf}
use Rattle.sb_machine.specs.declared.state.Listed.{Listed}
use Rattle.sb_machine.specs.declared.state.Operation.{Operation}
use Rattle.sb_machine.specs.declared.state.Operation.TheVariants.{Send, Settle}
use Rattle.sb_machine.specs.declared.state.Space.{Space}
use Rattle.sb_machine.specs.declared.state.StoredCopy.{StoredCopy}
use Rattle.sb_model.specs.declared.message.Message.{Message}
use Rattle.sb_engine.specs.declared.deliver.committing.SettledCopy.{SettledCopy}
use Rattle.sb_engine.specs.Sendings.{Told, IsUnderWay, space_at}

-- These changes of the namespace that a plan leads to stand behind those of the plan.
pub record Acts (t : ℕ) (read : Space) (n : ℕ) (f : Space → List Change) (p q : Told) : Type 0 where
  pub changes : q.changes ≡ p.changes ++ f (space_at t read p)
  pub stands : IsUnderWay t read n q

-- the same of a queued send, with the receipts of its messages
pub record ActsTelling (t : ℕ) (read : Space) (n : ℕ) (f : Space → List Change) (g : Space → List Receipt) (p q : Told) : Type 0 where
  pub acts : Acts t read n f p q
  pub receipts : q.receipts ≡ p.receipts ++ g (space_at t read p)

-- a queued settlement goes with the part that it is on
abbrev pub goes_well : Operation → Bool
goes_well (Send to messages) = true
goes_well (Settle from number token session how) = goes_with how from.part

-- ---- receipts

-- the part to which a message comes first that is handed on: where it goes, or where it stays if that isn't there
abbrev pub first_key : List Listed → Listed → List ℕ → LeafKey
first_key es e to = elim (destination es to) [ Some d ↦ record { entity = d.number; part = Main } | None ↦ record { entity = e.number; part = Transfer } ]

-- the receipt of a message that is handed on
abbrev pub handed_receipt : Entity → List ℕ → Message → Space → List Receipt
handed_receipt e to m s = first_number (passage (listed s) 0 e.about (unscheduled m) to) s

-- the receipts that an operation gives as it acts: those of a send
abbrev pub told_by : ℕ → Entity → Operation → Space → List (List Receipt)
told_by t e (Send to messages) s = sent_receipts t e to messages s ∷ []
told_by t e (Settle from number token session how) s = []

-- ---- changes before the operations act

-- whether a change of a part is of what a session remembers
abbrev pub is_writing : LeafChange → Bool
is_writing (Writes lock state) = true
is_writing _ = false

-- whether no copy is moved by a change: a transaction begins or ends, or a session remembers
abbrev pub is_front : Change → Bool
is_front (InLeaf key c) = is_writing c
is_front (Begins entity deadline) = true
is_front (Drops txn) = true
is_front _ = false

-- an entity that is found by its number
abbrev pub IsItself : Space → Option Entity → Type 0
IsItself s None = Unit {0}
IsItself s (Some e) = entity_of e.about.number s ≡ Some e

-- ---- copies that stand as they were read

-- settled by an operation before
abbrev pub is_settled : List SettledCopy → Part → ℕ → Bool
is_settled settled part n = list_any (λ x. is_same_part x.part part && (x.number == n)) settled

-- the copy of a number under the lock of a number, which lives
abbrev pub lookup : ℕ → ℕ → ℕ → Leaf → Option StoredCopy
lookup t lock n leaf = find (λ c. is_living t leaf.sessions lock c.standing && (c.number == n)) leaf.copies

-- But for those that are settled, each copy of this entity that is held under a lock is found in
-- the namespace as it was read.
pub record AsFound (t : ℕ) (read : Space) (e : Entity) (settled : List SettledCopy) (s : Space) : Type 0 where
  pub salt : s.salt ≡ read.salt
  pub now : Entity
  pub is : entity_of e.about.number s ≡ Some now
  pub about : now.about ≡ e.about
  pub found : (part : Part) (lock n : ℕ) → is_settled settled part n ≡ false → lookup t lock n (leaf_of part now) ≡ lookup t lock n (leaf_of part e)
