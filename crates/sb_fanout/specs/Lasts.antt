-- The numbers that one plan has given so far, part by part.
use Rattle.std.specs.Prelude.{◌≡◌, ℕ, ◌+◌, ◌==◌, ◌&&◌, Bool, true, List, if◌then◌else◌}
use Rattle.std.specs.BTreeMap.{BTreeMap, get}
use Rattle.std.specs.List.{list_any}
use Rattle.std.specs.Map.{count_at}
use Rattle.std.specs.Ordering.{nat_cmp}
use Rattle.sb_machine.specs.Names.{is_same_part}
use Rattle.sb_machine.specs.Namespace.{last_at, listed}
use Rattle.sb_machine.specs.declared.call.Part.{Part}
use Rattle.sb_machine.specs.declared.call.Part.TheVariants.{Main, Dead, Transfer}
use Rattle.sb_machine.specs.declared.change.LeafKey.{LeafKey}
use Rattle.sb_machine.specs.declared.state.Listed.{Listed}
use Rattle.sb_machine.specs.declared.state.Space.{Space}
use Rattle.sb_fanout.specs.declared.lasts.Lasts.{Lasts}

-- how many numbers were given in each part
abbrev pub Given : Type 0
Given = LeafKey → ℕ

-- no number has been given
abbrev pub none_given : Given
none_given key = 0

-- whether two keys are of the same part
abbrev pub is_key : LeafKey → LeafKey → Bool
is_key a b = (a.entity == b.entity) && is_same_part a.part b.part

-- one number more has been given in this part
abbrev pub raised : LeafKey → Given → Given
raised key given k = if is_key key k then given k + 1 else given k

-- by entity, in the map of a part
abbrev pub counted : BTreeMap ℕ ℕ → ℕ → ℕ
counted map n = count_at (get nat_cmp map) n

-- what belongs to each part
abbrev pub of_part : {X : Type 0} → X → X → X → Part → X
of_part main dead transfer Main = main
of_part main dead transfer Dead = dead
of_part main dead transfer Transfer = transfer

-- how many numbers were given in each part, as memory has it
abbrev pub given_in : Lasts → Given
given_in lasts key = counted (of_part lasts.main lasts.dead lasts.transfer key.part) key.entity

-- whether an entity of this number is listed
abbrev pub is_listed : ℕ → List Listed → Bool
is_listed n es = list_any (λ e. e.number == n) es

-- Entities and last numbers as they were read, and the numbers given since, say of a namespace
-- what is listed of its entities, and the last numbers of their parts.
pub record StandsFor (es : List Listed) (last : Given) (given : Given) (s : Space) : Type 0 where
  pub entities : listed s ≡ es
  pub lasts : (key : LeafKey) → is_listed key.entity es ≡ true → last_at key s ≡ last key + given key
