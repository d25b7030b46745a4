-- What holds of a whole step, by what holds of its tick and of its call.
use Rattle.std.proofs.Common.{◌≡◌, ◌≤◌, ℕ, Bool, true, false, Option, Some, None, Result, refl, sym, ◌∙◌, subst, arith}
use Rattle.sb_journal.specs.Disks.{Disks, AreQuiet, NoneFell, SameHonesty}
use Rattle.sb_laws.proofs.StaysWhole.{stays_consistent, ticks_consistent}
use Rattle.sb_machine.specs.Answers.{max_moment}
use Rattle.sb_machine.specs.Consistent.{IsConsistent}
use Rattle.sb_machine.specs.History.{is_fault}
use Rattle.sb_machine.specs.Ordered.{IsActInOrder}
use Rattle.sb_machine.specs.declared.call.Call.{Call}
use Rattle.sb_machine.specs.declared.reply.Answered.{Answered}
use Rattle.sb_machine.specs.declared.reply.Refusal.{Refusal}
use Rattle.sb_machine.specs.declared.state.State.{State}
use Rattle.sb_node.specs.Steps.{IsTicked, IsAnswered}

-- ---- the state

pub ticked_later : (tick : Option ℕ) (t : ℕ) (s0 s1 : State) → s0.now ≤ t → IsTicked tick t s0 s1 → s1.now ≤ t
ticked_later None t s0 s1 later went = subst (λ (s : State). s.now ≤ t) (sym went.1) later
ticked_later (Some m) t s0 s1 later went = subst (λ (s : State). s.now ≤ t) (sym went.3) (omega arith)

ticked_consistent : (tick : Option ℕ) (t : ℕ) (s0 s1 : State) → IsConsistent s0 → s0.now ≤ t → t ≤ max_moment → IsTicked tick t s0 s1 → IsConsistent s1
ticked_consistent None t s0 s1 consistent later counts went = subst IsConsistent (sym went.1) consistent
ticked_consistent (Some m) t s0 s1 consistent later counts went = subst IsConsistent (sym went.3) (ticks_consistent s0 t consistent later counts went.2)

answered_consistent : (t : ℕ) (call : Call) (s1 s2 : State) (answer : Result Answered Refusal) (stopped : Option ℕ) → IsConsistent s1 → IsActInOrder call.act → s1.now ≤ t → t ≤ max_moment → IsAnswered t call s1 answer stopped s2 → IsConsistent s2
answered_consistent t call s1 s2 answer stopped consistent order later counts is = by_fault (is_fault answer) refl
  where
    by_fault : (b : Bool) → is_fault answer ≡ b → IsConsistent s2
    by_fault true fault = subst IsConsistent (sym (is.fault fault)) consistent
    by_fault false sound = subst IsConsistent (sym (is.machine sound).1) (stays_consistent s1 t call consistent order later counts)

pub step_consistent : (tick : Option ℕ) (t : ℕ) (call : Call) (s0 s1 s2 : State) (answer : Result Answered Refusal) (stopped : Option ℕ) → IsActInOrder call.act → s0.now ≤ t → t ≤ max_moment → IsTicked tick t s0 s1 → IsAnswered t call s1 answer stopped s2 → IsConsistent s0 → IsConsistent s2
step_consistent tick t call s0 s1 s2 answer stopped order later counts went is consistent =
    answered_consistent t call s1 s2 answer stopped (ticked_consistent tick t s0 s1 consistent later counts went) order (ticked_later tick t s0 s1 later went) counts is

-- ---- the disks

pub quiet_on : (was mid later : Disks) → AreQuiet was mid → AreQuiet mid later → AreQuiet was later
quiet_on was mid later first second = (second.0 ∙ first.0, second.1 ∙ first.1)

pub fell_on : (was mid later : Disks) → NoneFell was mid → NoneFell mid later → NoneFell was later
fell_on was mid later first second = (omega (arith, first.0, second.0), omega (arith, first.1, second.1))

pub honest_on : (was mid later : Disks) → SameHonesty was mid → SameHonesty mid later → SameHonesty was later
honest_on was mid later first second = (second.0 ∙ first.0, second.1 ∙ first.1)
