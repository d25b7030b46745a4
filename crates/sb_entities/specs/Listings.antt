-- What is listed of an entity, with room for further rules, as contracts see it.
use Rattle.std.specs.Prelude.{◌≡◌, ℕ, ◌+◌, ◌<◌, List, [], ◌∷◌, vec_capacity, Vec}
use Rattle.sb_machine.specs.declared.rule.Rule.{Rule}
use Rattle.sb_machine.specs.declared.state.Listed.{Listed}
use Rattle.std.specs.Global.{Global}

-- what is listed of an entity, and how many rules more fit
pub record Described : Type 0 where
  pub about : Listed
  -- so many more rules may be added
  pub spare : ℕ

-- empty lists, each for one rule more than those before it
abbrev pub AreRoomy : ℕ → List (Vec Rule Global) → Type 0
AreRoomy n [] = Unit {0}
AreRoomy n (v ∷ vs) = (n < vec_capacity v) × (v.items ≡ []) × AreRoomy (n + 1) vs
