-- A call that takes no memory isn't refused for want of it.
use Rattle.std.proofs.Common.{◌≡◌, ◌≢◌, ℕ, Bool, true, false, Option, Some, None, Result, Err, sym, ap, ◌∙◌, subst}
use Rattle.std.specs.Prelude.{not, IfSome}
use Rattle.sb_machine.proofs.Passed.{both}
use Rattle.sb_desk.specs.Spared.{SparesFrom}
use Rattle.sb_machine.specs.Answers.{answer_of, moment_of}
use Rattle.sb_machine.specs.Due.{is_due}
use Rattle.sb_machine.specs.History.{Log, IsLegalFrom, advanced, is_fault}
use Rattle.sb_machine.specs.declared.call.Call.{Call}
use Rattle.sb_machine.specs.declared.reply.Answered.{Answered}
use Rattle.sb_machine.specs.declared.reply.Refusal.{Refusal}
use Rattle.sb_machine.specs.declared.reply.Refusal.TheVariants.{DiskFault, OutOfMemory}
use Rattle.sb_machine.specs.declared.state.State.{State}
use Rattle.sb_engine.specs.Small.{takes_no_memory}
use Rattle.sb_node.specs.Steps.{entries_with, is_spared, IsTicked, ticked_to}
use Rattle.sb_node.proofs.Machine.{no_fault}

-- the machine refuses nothing so
pub refused_spared : (t : ℕ) (call : Call) (s : State) (e : Refusal) (answer : Result Answered Refusal) → answer ≡ Err e → answer_of s t call ≡ Err e → answer ≢ Err OutOfMemory
refused_spared t call s e answer is from same = let no' : true ≡ false = ap is_fault (sym same ∙ is ∙ sym from) ∙ no_fault s t call in absurd cc

pub fault_spared : (e : Refusal) (answer : Result Answered Refusal) → answer ≡ Err e → e ≡ DiskFault → answer ≢ Err OutOfMemory
fault_spared e answer is disk same = let wrong : ◌≡◌ {A = Result Answered Refusal} (Err DiskFault) (Err OutOfMemory) = sym (is ∙ ap Err disk) ∙ same in absurd cc

-- a tick is made where something is due
ticked : (tick : Option ℕ) (t : ℕ) (s s1 : State) → IsTicked tick t s s1 → ticked_to tick s ≡ s1
ticked None t s s1 went = sym went.1
ticked (Some m) t s s1 went = ap (advanced s) went.0 ∙ sym went.3

pub spared_on : (tick later : Option ℕ) (t m : ℕ) (call : Call) (s s1 : State) (answer : Result Answered Refusal) → later ≡ tick → m ≡ t → IsTicked tick t s s1 → (takes_no_memory s1.space call ≡ true → answer ≢ Err OutOfMemory) → is_spared m call (ticked_to later s) ≡ true → answer ≢ Err OutOfMemory
spared_on tick later t m call s s1 answer same at went free spared =
    let parts = both (not (is_due m (ticked_to later s).space)) (takes_no_memory (ticked_to later s).space call) spared in
    free (subst (λ (x : State). takes_no_memory x.space call ≡ true) (ap (λ (o : Option ℕ). ticked_to o s) same ∙ ticked tick t s s1 went) parts.1)

not_so : (b : Bool) → b ≡ true → not b ≡ true → ⊥
not_so true is no' = absurd cc
not_so false is no' = absurd cc

pub spared_tick : (later : Option ℕ) (t m : ℕ) (call : Call) (s : State) (answer : Result Answered Refusal) → later ≡ None → m ≡ t → is_due t s.space ≡ true → is_spared m call (ticked_to later s) ≡ true → answer ≢ Err OutOfMemory
spared_tick later t m call s answer none at due spared same =
    let calm = (both (not (is_due m (ticked_to later s).space)) (takes_no_memory (ticked_to later s).space call) spared).0 in
    not_so (is_due m s.space) (ap (λ (n : ℕ). is_due n s.space) at ∙ due) (subst (λ (o : Option ℕ). not (is_due m (ticked_to o s).space) ≡ true) none calm)

-- ---- the entries of a step

-- its call acts behind its tick, at the moment of the reading
pub step_spares : (tick : Option ℕ) (l : Log) (seat reading : ℕ) (call : Call) (answer : Result Answered Refusal) → IfSome tick (λ t. t ≡ moment_of l.state reading) → IsLegalFrom l (entries_with tick seat reading call answer)
    → (is_spared (moment_of l.state reading) call (ticked_to tick l.state) ≡ true → answer ≢ Err OutOfMemory) → SparesFrom is_spared l (entries_with tick seat reading call answer)
step_spares None l seat reading call answer at legal free = (free, tt)
step_spares (Some t) l seat reading call answer at legal free =
    ((λ spared. free (subst (λ (m : ℕ). is_spared m call (advanced l.state t) ≡ true) (legal.1.0.0.1 ∙ at) spared)), tt)
