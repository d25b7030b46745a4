-- What the sweeps of a tick look for, and a plan that grows by what depends on what it leads to.
use Rattle.std.specs.Prelude.{◌≡◌, ℕ, ◌&&◌, not, Bool, true, List, ◌++◌, map, filter}
use Rattle.std.specs.List.{list_any}
use Rattle.sb_machine.specs.Changes.{after_all}
use Rattle.sb_machine.specs.Delivery.{is_expired}
use Rattle.sb_machine.specs.Due.{Item}
use Rattle.sb_machine.specs.Leases.{has_ended, has_come, is_ready}
use Rattle.sb_machine.specs.Namespace.{leaf_of}
use Rattle.sb_machine.specs.declared.call.Part.{Part}
use Rattle.sb_machine.specs.declared.call.Part.TheVariants.{Main, Dead, Transfer}
use Rattle.sb_machine.specs.declared.change.Change.{Change}
use Rattle.sb_machine.specs.declared.state.Entity.{Entity}
use Rattle.sb_machine.specs.declared.state.Session.{Session}
use Rattle.sb_machine.specs.declared.state.Space.{Space}
use Rattle.sb_machine.specs.declared.state.StoredCopy.{StoredCopy}
use Rattle.sb_fanout.specs.Lasts.{Given}
use Rattle.sb_entities.specs.Stores.{entity_in}
use Rattle.sb_engine.specs.Deadlines.{has_passed, never, session_deadline}
use Rattle.sb_engine.specs.Growing.{Stands}
use Rattle.sb_engine.specs.declared.time.finding.Found.{Found}
use Rattle.sb_engine.specs.declared.time.finding.Search.{Search}
use Rattle.sb_engine.specs.declared.time.finding.Search.TheVariants.{Ended, Expired, Come}

-- ---- items

-- a copy that a sweep looks for, in a part with these sessions
abbrev pub is_looked_for : Search → ℕ → List Session → StoredCopy → Bool
is_looked_for Ended t sessions c = has_ended t sessions c.standing
is_looked_for Expired t sessions c = is_ready c.standing && is_expired t c
is_looked_for Come t sessions c = has_come t c.standing

-- whether the copies that a sweep looks for, in a part with these sessions, are among those that come due by themselves: under
-- locks of sessions only where none of these has ended
abbrev pub is_told : Search → ℕ → List Session → Bool → Bool
is_told Ended t sessions expires = not (list_any (λ x. has_passed t (session_deadline x)) sessions)
is_told Expired t sessions expires = expires
is_told Come t sessions expires = true

-- By when an entity has come due if a sweep of all parts finds something in it: what has expired in a part that isn't a main one doesn't
-- come due, so any entity may have such.
abbrev pub reach : Search → ℕ → ℕ
reach Ended t = t
reach Expired t = never
reach Come t = t

-- a message with its place
abbrev pub item : Entity → Part → StoredCopy → Item
item e part c = record { entity = e; part = part; copy = c }

-- the messages of a part that a sweep looks for
abbrev pub found_in : Search → ℕ → Entity → Part → List Item
found_in search t e part = map (item e part) (filter (is_looked_for search t (leaf_of part e).sessions) (leaf_of part e).copies)

-- the messages of an entity that a sweep looks for, part after part
abbrev pub found_of : Search → ℕ → Entity → List Item
found_of search t e = found_in search t e Main ++ found_in search t e Dead ++ found_in search t e Transfer

-- as it stands in the store
abbrev pub item_in : Found → Item
item_in f = item (entity_in f.entity.now) f.part f.copy.now

-- the same of all that was found
abbrev pub items_in : List Found → List Item
items_in found = map item_in found

-- ---- a plan

-- The changes `f` of whatever namespace the plan led to before stand behind those of the plan, and the numbers stand for the
-- namespace that they lead to. `s` is the namespace that is planned over.
pub record IsTurned (s : Space) (t : ℕ) (f : Space → List Change) (before after : Given) (old new : List Change) : Type 0 where
  pub changes : (now : Space) → Stands s before now → new ≡ old ++ f now
  pub stands : (now : Space) → Stands s before now → Stands s after (after_all t (f now) now)
