-- The lists that an entity has for further rules.
use Rattle.std.proofs.Common.{◌≡◌, ℕ, ◌+◌, ◌<◌, ◌≤◌, List, [], ◌∷◌, ◌++◌, length, arith, vec_capacity, Global}
use Rattle.std.specs.Prelude.{Vec}
use Rattle.sb_machine.specs.declared.rule.Rule.{Rule}
use Rattle.sb_entities.specs.Listings.{AreRoomy}

pub roomy_pushed : (n : ℕ) (vs : List (Vec Rule Global)) (v : Vec Rule Global) → AreRoomy n vs → n + length vs < vec_capacity v → v.items ≡ [] → AreRoomy n (vs ++ v ∷ [])
roomy_pushed n [] v h size none = (omega (arith, size), none, tt)
roomy_pushed n (x ∷ xs) v h size none = (h.0, h.1, roomy_pushed (n + 1) xs v h.2 (omega (arith, size)) none)

pub roomy_before : (n : ℕ) (vs ws : List (Vec Rule Global)) → AreRoomy n (vs ++ ws) → AreRoomy n vs
roomy_before n [] ws h = tt
roomy_before n (x ∷ xs) ws h = (h.0, h.1, roomy_before (n + 1) xs ws h.2)

pub roomy_lower : (m n : ℕ) (vs : List (Vec Rule Global)) → m ≤ n → AreRoomy n vs → AreRoomy m vs
roomy_lower m n [] le h = tt
roomy_lower m n (x ∷ xs) le h = (omega (arith, le, h.0), h.1, roomy_lower (m + 1) (n + 1) xs (omega (arith, le)) h.2)
