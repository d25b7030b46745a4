-- How messages move: delivery, dead-lettering, expiring and releasing, each as a list of changes.
-- A copy is a message as it stands in one part of an entity, under a number of its own.
use Rattle.std.specs.Prelude.{ℕ, ◌+◌, ◌*◌, ◌&&◌, not, Bool, false, nat_le, min, List, [], ◌∷◌, map, if◌then◌else◌, Option, Some, None}
use Rattle.sb_machine.specs.Leaves.{seq_or}
use Rattle.sb_machine.specs.Leases.{was_deferred}
use Rattle.sb_machine.specs.Names.{is_main}
use Rattle.sb_machine.specs.Namespace.{key_of, last_at}
use Rattle.sb_machine.specs.Reasons.{for_reason}
use Rattle.sb_machine.specs.Visits.{Lot, stays, ends, Visit, burial}
use Rattle.sb_machine.specs.declared.call.Part.{Part}
use Rattle.sb_machine.specs.declared.call.Part.TheVariants.{Main}
use Rattle.sb_machine.specs.declared.change.Cause.TheVariants.{DeadLettered, Expired as ByTime}
use Rattle.sb_machine.specs.declared.change.Change.{Change}
use Rattle.sb_machine.specs.declared.change.Change.TheVariants.{InLeaf}
use Rattle.sb_machine.specs.declared.change.LeafChange.{LeafChange}
use Rattle.sb_machine.specs.declared.change.LeafChange.TheVariants.{Enters, Passes, Ends, Stands}
use Rattle.sb_machine.specs.declared.change.LeafKey.{LeafKey}
use Rattle.sb_model.specs.declared.message.Message.{Message}
use Rattle.sb_machine.specs.declared.reason.DeadReason.{DeadReason}
use Rattle.sb_machine.specs.declared.reason.DeadReason.TheVariants.{Expired, TooOften}
use Rattle.sb_machine.specs.declared.state.Entity.{Entity}
use Rattle.sb_machine.specs.declared.state.Listed.{Listed}
use Rattle.sb_machine.specs.declared.state.Space.{Space}
use Rattle.sb_machine.specs.declared.state.Standing.{Standing}
use Rattle.sb_machine.specs.declared.state.Standing.TheVariants.{Ready, Deferred}
use Rattle.sb_machine.specs.declared.state.StoredCopy.{StoredCopy}

-- a change in one part of an entity
abbrev pub in_part : Part → Entity → LeafChange → Change
in_part part e c = InLeaf (key_of part e) c

-- ---- delivery: visits, and the numbers that they take

-- what a visit does to its part: the message stays there, or its number ends at once
abbrev pub landing : Option ℕ → Lot → LeafChange
landing seq (stays hops m) = Enters (record { seq = seq; hops = hops; standing = Ready; message = m })
landing seq (ends cause) = Passes cause

-- the part that a visit is to
abbrev pub visit_key : Visit → LeafKey
visit_key v = record { entity = v.entity; part = v.part }

-- the change that a visit is
abbrev pub visit_change : Option ℕ → Visit → Change
visit_change seq v = InLeaf (visit_key v) (landing seq v.lot)

-- The first number that a message takes is its EnqueuedSequenceNumber, where it has none: it is
-- the next one of the part that it visits first.
abbrev pub delivered : Option ℕ → List Visit → Space → List Change
delivered seq [] s = []
delivered seq (v ∷ vs) s = visit_change seq v ∷ map (visit_change (Some (seq_or seq (last_at (visit_key v) s + 1)))) vs

-- of a message that has one: the namespace plays no part in it
abbrev pub carried : ℕ → List Visit → List Change
carried seq vs = map (visit_change (Some seq)) vs

-- ---- a copy of a main part is dead-lettered; `settled` where a settlement did it

-- a message leaves the main part, and goes where the entity's dead letters go
abbrev pub dead_lettered : List Listed → Entity → StoredCopy → Bool → Message → List Change
dead_lettered es e c settled m = in_part Main e (Ends c.number settled DeadLettered) ∷ carried c.enqueued_seq (burial es c.hops e.about m)

-- the same, with the reason that the broker writes into the message
abbrev pub dead_for : List Listed → Entity → StoredCopy → Bool → DeadReason → List Change
dead_for es e c settled reason = dead_lettered es e c settled (for_reason reason c.message)

-- ---- time to live

-- whether a message's time to live has passed at t
abbrev pub is_expired : ℕ → StoredCopy → Bool
is_expired t c = elim c.message.ttl [ Some seconds ↦ nat_le (c.enqueued + 1000 * seconds) t | None ↦ false ]

-- A copy of a main part has expired.
abbrev pub expired : List Listed → Entity → StoredCopy → Bool → List Change
expired es e c settled =
    if e.about.description.dead_on_expiry
    then dead_for es e c settled Expired
    else in_part Main e (Ends c.number settled ByTime) ∷ []

-- ---- a held copy goes back to where it was, or is delivered no more

-- the greatest count
abbrev pub max_count : ℕ
max_count = 4294967294

-- a delivery count, counted up if that is asked for, and at most the greatest
abbrev pub raised : Bool → ℕ → ℕ
raised raise count = if raise then min (count + 1) max_count else count

-- where a message stands once its lock is released: deferred again if it was
abbrev pub back_to : Standing → Standing
back_to standing = if was_deferred standing then Deferred else Ready

-- what releasing a lock does: dead-letters what was delivered too often, ends what has expired, or puts the message back
abbrev pub released : List Listed → ℕ → Entity → Part → StoredCopy → Bool → Bool → List Change
released es t e part c raise settled =
    if is_main part && raise && nat_le e.about.description.max_delivery (raised raise c.count)
    then dead_for es e c settled TooOften
    else (if is_main part && not (was_deferred c.standing) && is_expired t c
    then expired es e c settled
    else in_part part e (Stands c.number settled (raised raise c.count) (back_to c.standing)) ∷ [])
