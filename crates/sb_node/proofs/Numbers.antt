-- How many copies live: no more than numbers were given.
use Rattle.std.proofs.Common.{ℕ, ◌+◌, ◌<◌, ◌≤◌, ◌^◌, List, [], ◌∷◌, length, arith}
use Rattle.std.specs.List.{sum_by}
use Rattle.std.proofs.lemmas.List.Sums.{sum_by-cons}
use Rattle.sb_machine.specs.Consistent.{IsConsistent}
use Rattle.sb_machine.specs.Each.{Each}
use Rattle.sb_machine.specs.Fit.{IsEntity}
use Rattle.sb_machine.specs.Keyed.{AreRising}
use Rattle.sb_machine.specs.Namespace.{made, made_in, live, live_in}
use Rattle.sb_machine.specs.declared.state.Entity.{Entity}
use Rattle.sb_machine.specs.declared.state.State.{State}

few : {X : Type 0} (key : X → ℕ) (above last : ℕ) (xs : List X) → AreRising key above last xs → above + length xs ≤ last
few key above last [] rising = omega (arith, rising)
few key above last (x ∷ xs) rising = let others = few key (key x) last xs rising.1 in let first = rising.0 in omega (arith, others, first)

live_made : (now : ℕ) (es : List Entity) → Each (IsEntity now) es → sum_by live_in es ≤ sum_by made_in es
live_made now [] each = omega arith
live_made now (e ∷ es) each =
    let main = few _ 0 e.main.last e.main.copies each.0.main.numbers in
    let dead = few _ 0 e.dead.last e.dead.copies each.0.dead.numbers in
    let transfer = few _ 0 e.transfer.last e.transfer.copies each.0.transfer.numbers in
    let others = live_made now es each.1 in
    omega (arith, main, dead, transfer, others, sum_by-cons live_in e es, sum_by-cons made_in e es)

pub numbers_fit : (s : State) → IsConsistent s → (live s.space < 2 ^ 64) × (made s.space < 2 ^ 64)
numbers_fit s consistent =
    let most = consistent.made in
    let lives = live_made s.now s.space.entities consistent.entities in
    (omega (arith, most, lives), omega (arith, most))
