-- Counts of faults, honesty and images of two disks, from one moment to the next.
use Rattle.std.proofs.Common.{ℕ, ◌∙◌, inl, inr, subst, List}
use Rattle.sb_outside.specs.Causes.{RoseByOne}
use Rattle.sb_journal.specs.Disks.{Disks, AreQuiet, HaveFailed, SameHonesty}
use Rattle.sb_node.specs.Nodes.{IsOneOf, StayOneOf}
use Rattle.sb_machine.specs.declared.state.State.{State}

pub quiet_on : (was mid now : Disks) → AreQuiet was mid → AreQuiet mid now → AreQuiet was now
quiet_on was mid now first next = (next.0 ∙ first.0, next.1 ∙ first.1)

pub failed_on : (was mid now : Disks) → AreQuiet was mid → HaveFailed mid now → HaveFailed was now
failed_on was mid now same (n, inl one) = (n, inl (one.0, subst (λ (k : ℕ). RoseByOne k now.a.faults) same.0 one.1, one.2 ∙ same.1))
failed_on was mid now same (n, inr one) = (n, inr (one.0, subst (λ (k : ℕ). RoseByOne k now.b.faults) same.1 one.1, one.2 ∙ same.0))

pub honest_on : (was mid now : Disks) → SameHonesty was mid → SameHonesty mid now → SameHonesty was now
honest_on was mid now first next = (next.0 ∙ first.0, next.1 ∙ first.1)

-- what is so at each moment since is so now
pub present_one : (was now : Disks) (states : List State) → StayOneOf was now states → IsOneOf now states
present_one was now states stay = λ x y left right. (stay.present x left).present y right
