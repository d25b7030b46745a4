-- How many messages stand in the namespace behind changes.
use Rattle.std.specs.Prelude.{◌≡◌, ◌⊎◌, ℕ, ◌-◌, true, false, List, [], ◌∷◌, Option, Some, None, is_some, Result, Ok, Err}
use Rattle.sb_machine.specs.Changes.{after}
use Rattle.sb_machine.specs.Leaves.{copy_in}
use Rattle.sb_machine.specs.Namespace.{entity_of, leaf_of}
use Rattle.sb_machine.specs.Rows.{Row, refuses, is_beyond}
use Rattle.sb_machine.specs.declared.change.Change.{Change}
use Rattle.sb_machine.specs.declared.change.Change.TheVariants.{InLeaf, Removes}
use Rattle.sb_machine.specs.declared.change.LeafChange.{LeafChange}
use Rattle.sb_machine.specs.declared.change.LeafChange.TheVariants.{Enters, Ends}
use Rattle.sb_machine.specs.declared.change.LeafKey.{LeafKey}
use Rattle.sb_machine.specs.declared.reply.Refusal.{Refusal}
use Rattle.sb_machine.specs.declared.reply.Refusal.TheVariants.{QuotaExceeded, OutOfMemory}
use Rattle.sb_machine.specs.declared.state.Entity.{Entity}
use Rattle.sb_machine.specs.declared.state.Space.{Space}
use Rattle.sb_machine.specs.declared.state.StoredCopy.{StoredCopy}

-- the copies that enter, and that end
abbrev pub enters_in_leaf : LeafChange → ℕ
enters_in_leaf (Enters fresh) = 1
enters_in_leaf _ = 0

-- how many messages a change of one part ends
abbrev pub ends_in_leaf : LeafChange → ℕ
ends_in_leaf (Ends n settled cause) = 1
ends_in_leaf _ = 0

-- how many messages enter by a change
abbrev pub enters_in : Change → ℕ
enters_in (InLeaf key c) = enters_in_leaf c
enters_in _ = 0

-- how many messages end by a change
abbrev pub ends_in : Change → ℕ
ends_in (InLeaf key c) = ends_in_leaf c
ends_in _ = 0

-- the copy of a number in a part
abbrev pub copy_where : LeafKey → ℕ → Option Entity → Option StoredCopy
copy_where key n None = None
copy_where key n (Some e) = copy_in n (leaf_of key.part e)

-- the message of a number in a part of the namespace
abbrev pub copy_at : LeafKey → ℕ → Space → Option StoredCopy
copy_at key n s = copy_where key n (entity_of key.entity s)

-- A copy enters an entity that is there, and ends where it stands.
abbrev pub IsCountedIn : LeafKey → LeafChange → Space → Type 0
IsCountedIn key (Enters fresh) s = is_some (entity_of key.entity s) ≡ true
IsCountedIn key (Ends n settled cause) s = is_some (copy_at key n s) ≡ true
IsCountedIn key _ s = Unit {0}

-- No entity goes with its copies.
abbrev pub IsCounted : Change → Space → Type 0
IsCounted (InLeaf key c) s = IsCountedIn key c s
IsCounted (Removes n) s = ⊥
IsCounted _ s = Unit {0}

-- each change is so in the namespace that those before it lead to
abbrev pub AreCounted : ℕ → List Change → Space → Type 0
AreCounted t [] s = Unit {0}
AreCounted t (c ∷ cs) s = IsCounted c s × AreCounted t cs (after t c s)

-- ---- what the test came to

-- it passes, or it refuses so; want of memory may come in place of each
abbrev pub Judges : {X : Type 0} → Result X Refusal → (Row → Row) → Type 0
Judges (Ok x) test = (row : Row) → test row ≡ row
Judges (Err r) test = (r ≡ OutOfMemory) ⊎ ((row : Row) → test row ≡ refuses r)

-- the same by the copies that live before and later
abbrev pub JudgesCounts : {X : Type 0} → ℕ → ℕ → Result X Refusal → Type 0
JudgesCounts before later (Ok x) = is_beyond before later ≡ false
JudgesCounts before later (Err r) = (is_beyond before later ≡ true) × (r ≡ QuotaExceeded before (later - before))
