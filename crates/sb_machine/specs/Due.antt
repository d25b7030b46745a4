-- Time: what falls due at a moment, and the changes that carry it out. All of these together are a tick.
use Rattle.std.specs.Prelude.{ℕ, ◌&&◌, not, Bool, true, false, nat_le, List, [], ◌∷◌, ◌++◌, map, filter, if◌then◌else◌, Option, Some, None}
use Rattle.std.specs.List.{flat_map}
use Rattle.sb_machine.specs.Changes.{after_all, in_turn}
use Rattle.sb_machine.specs.Delivery.{in_part, delivered, released, expired, is_expired}
use Rattle.sb_machine.specs.Leases.{has_ended, has_come, is_ready}
use Rattle.sb_machine.specs.Namespace.{leaf_of, listed}
use Rattle.sb_machine.specs.Visits.{visits}
use Rattle.sb_machine.specs.declared.call.Part.{Part}
use Rattle.sb_machine.specs.declared.call.Part.TheVariants.{Main, Dead, Transfer}
use Rattle.sb_machine.specs.declared.change.Cause.TheVariants.{Activated}
use Rattle.sb_machine.specs.declared.change.Change.{Change}
use Rattle.sb_machine.specs.declared.change.Change.TheVariants.{Drops}
use Rattle.sb_machine.specs.declared.change.LeafChange.TheVariants.{Ends, Closes}
use Rattle.sb_machine.specs.declared.state.Entity.{Entity}
use Rattle.sb_machine.specs.declared.state.Holder.{Holder}
use Rattle.sb_machine.specs.declared.state.Leaf.{Leaf}
use Rattle.sb_machine.specs.declared.state.Space.{Space}
use Rattle.sb_machine.specs.declared.state.StoredCopy.{StoredCopy}

-- ---- what is due: by entity, then part, then number

-- a copy where it was found
pub record Item : Type 0 where
  pub entity : Entity
  pub part : Part
  pub copy : StoredCopy

-- the messages of one part of which p holds, each with its place
abbrev pub items_in : (Leaf → StoredCopy → Bool) → Entity → Part → List Item
items_in p e part = map (λ c. record { entity = e; part = part; copy = c }) (filter (p (leaf_of part e)) (leaf_of part e).copies)

-- the messages of an entity of which p holds, part after part
abbrev pub items_of : (Leaf → StoredCopy → Bool) → Entity → List Item
items_of p e = items_in p e Main ++ items_in p e Dead ++ items_in p e Transfer

-- copies whose own lock, or whose session's lock, has ended
abbrev pub due_locks : ℕ → Space → List Item
due_locks t s = flat_map (items_of (λ leaf c. has_ended t leaf.sessions c.standing)) s.entities

-- copies of main parts that may be received and have expired
abbrev pub due_expired : ℕ → Space → List Item
due_expired t s = flat_map (λ e. items_in (λ leaf c. is_ready c.standing && is_expired t c) e Main) s.entities

-- scheduled copies whose moment has come
abbrev pub due_scheduled : ℕ → Space → List Item
due_scheduled t s = flat_map (items_of (λ leaf c. has_come t c.standing)) s.entities

-- closes a session whose holder's lock has ended at t
abbrev pub closes_due : ℕ → Entity → Part → Option Holder → List Change
closes_due t e part None = []
closes_due t e part (Some h) = if nat_le h.until t then in_part part e (Closes h.lock) ∷ [] else []

-- the closings that are due in one part at t
abbrev pub closes_in : ℕ → Entity → Part → List Change
closes_in t e part = flat_map (λ x. closes_due t e part x.holder) (leaf_of part e).sessions

-- sessions whose lock has ended are held no more
abbrev pub due_sessions : ℕ → Space → List Change
due_sessions t s = flat_map (λ e. closes_in t e Main ++ closes_in t e Dead ++ closes_in t e Transfer) s.entities

-- transactions whose deadline has come are dropped
abbrev pub due_transactions : ℕ → Space → List Change
due_transactions t s = map (λ x. Drops x.number) (filter (λ x. nat_le x.deadline t) s.transactions)

-- whether a list is empty
abbrev pub is_none_in : {X : Type 0} → List X → Bool
is_none_in [] = true
is_none_in (x ∷ xs) = false

-- something is due at a moment
abbrev pub is_due : ℕ → Space → Bool
is_due t s = not (is_none_in (due_sessions t s) && is_none_in (due_locks t s) && is_none_in (due_expired t s) && is_none_in (due_scheduled t s) && is_none_in (due_transactions t s))

-- ---- sweeps, each over what is due as it begins

-- the changes for locks that have ended at t: sessions are closed, messages released
abbrev pub sweep_locks : ℕ → Space → List Change
sweep_locks t s = due_sessions t s ++ flat_map (λ i. released (listed s) t i.entity i.part i.copy true false) (due_locks t s)

-- the changes for messages that have expired at t
abbrev pub sweep_expired : ℕ → Space → List Change
sweep_expired t s = flat_map (λ i. expired (listed s) i.entity i.copy false) (due_expired t s)

-- a scheduled copy's number ends, and its message enters as a new one
abbrev pub activated : Item → Space → List Change
activated i s = in_part i.part i.entity (Ends i.copy.number false Activated) ∷ delivered None (visits (listed s) 0 i.entity.about i.copy.message) s

-- the changes for scheduled messages whose moment has come at t
abbrev pub sweep_scheduled : ℕ → Space → List Change
sweep_scheduled t s = in_turn activated t (due_scheduled t s) s

-- first this, then that on what it leaves
abbrev pub then_also : ℕ → (Space → List Change) → (Space → List Change) → Space → List Change
then_also t first next s = first s ++ next (after_all t (first s) s)

-- What happens as time comes up to a moment.
abbrev pub tick_changes : ℕ → Space → List Change
tick_changes t = then_also t (sweep_locks t) (then_also t (sweep_expired t) (then_also t (sweep_scheduled t) (due_transactions t)))
