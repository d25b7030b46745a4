-- The number of a message ends once.
use Rattle.std.specs.Prelude.{◌≡◌, ℕ, ◌≤◌, ◌<◌, ◌+◌, ◌==◌, ◌&&◌, Bool, List, length, sum_by, if◌then◌else◌}
use Rattle.sb_laws.specs.Counting.{times}
use Rattle.sb_machine.specs.Accounts.{ends_of}
use Rattle.sb_machine.specs.Consistent.{IsConsistent}
use Rattle.sb_machine.specs.Ends.{End}
use Rattle.sb_machine.specs.History.{IsLegal, fresh_log, state_after}
use Rattle.sb_machine.specs.Leaves.{has_number}
use Rattle.sb_machine.specs.Names.{is_same_part}
use Rattle.sb_machine.specs.Namespace.{is_entity, leaf_of, live, made}
use Rattle.sb_machine.specs.declared.change.LeafKey.{LeafKey}
use Rattle.sb_machine.specs.declared.history.Entry.{Entry}
use Rattle.sb_machine.specs.declared.state.Entity.{Entity}
use Rattle.sb_machine.specs.declared.state.Space.{Space}
use Rattle.sb_machine.specs.declared.state.State.{State}

-- the same part of the same entity
abbrev pub is_leaf : LeafKey → LeafKey → Bool
is_leaf a b = (a.entity == b.entity) && is_same_part a.part b.part

-- whether this is the end of that number of that part
abbrev pub is_end : LeafKey → ℕ → End → Bool
is_end key x d = is_leaf d.leaf key && (d.number == x)

-- how often a number of a part ended
abbrev pub times_ended : LeafKey → ℕ → List End → ℕ
times_ended key x ends = times (is_end key x) ends

-- how many live copies of a part have a number
abbrev pub live_here : LeafKey → ℕ → Entity → ℕ
live_here key x e = if is_entity key.entity e then times (has_number x) (leaf_of key.part e).copies else 0

-- how many messages of the namespace have this number in this part
abbrev pub times_live : LeafKey → ℕ → Space → ℕ
times_live key x s = sum_by (live_here key x) s.entities

-- no number of a part ends twice, none that ended is live later, and what was made and isn't live has grown by what ended
pub record EndOnce (s later : Space) (ends : List End) : Type 0 where
  pub once : (key : LeafKey) (x : ℕ) → times_ended key x ends ≤ 1
  pub gone : (key : LeafKey) (x : ℕ) → 0 < times_ended key x ends → times_live key x later ≡ 0
  pub all : made later + live s ≡ made s + live later + length ends

-- in each legal history, a message's number ends once, and none is lost from the count
abbrev pub EndsOnce : Type 0
EndsOnce = (s : State) (h : List Entry) → IsConsistent s → IsLegal s h → EndOnce s.space (state_after s h).space (ends_of (fresh_log s) h)
