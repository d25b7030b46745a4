use Rattle.std.proofs.Common.{[], inl, inr, refl, ◌∷◌}
use Rattle.std.specs.Str.{chars}
use Rattle.sb_laws.proofs.worked.worked_failures.Goals as goal
use Rattle.sb_laws.specs.Worked.{receiving, sending, sending_also}
use Rattle.sb_machine.specs.declared.call.Event.TheVariants.{Called, Tick}

pub returns-clause-nothing : goal.returns-clause-nothing
unfolding chars
returns-clause-nothing c = ([], [], refl, inl refl, refl)

pub returns-clause-tick : goal.returns-clause-tick
unfolding chars
returns-clause-tick c = (Tick 60005 ∷ [], [], refl, inr (inl refl), refl)

pub returns-clause-step : goal.returns-clause-step
unfolding chars
returns-clause-step c = (Tick 60005 ∷ Called 60005 receiving.call ∷ [], [], refl, inr (inr ((refl, refl), refl)), refl)

pub returns-clause-call : goal.returns-clause-call
unfolding chars
returns-clause-call c = (Called 5 sending.call ∷ [], [], refl, inr (inr ((refl, refl), refl)), refl)

pub returns-clause-legal : goal.returns-clause-legal
unfolding chars
returns-clause-legal c = ((tt, λ fine. refl), ((tt, λ fine. absurd cc), ((tt, refl), ((tt, refl), refl))))

pub returns-clause-first : goal.returns-clause-first
unfolding chars
returns-clause-first c = (Called 5 sending.call ∷ [], [], refl, inr (inr ((refl, refl), refl)), ([], [], refl, inl refl, refl))

pub returns-clause-both : goal.returns-clause-both
unfolding chars
returns-clause-both c = (Called 5 sending.call ∷ [], Called 5 sending_also.call ∷ [], refl, inr (inr ((refl, refl), refl)), (Called 5 sending_also.call ∷ [], [], refl, inr (inr ((refl, refl), refl)), refl))

pub returns-clause-with_nothing : goal.returns-clause-with_nothing
unfolding chars
returns-clause-with_nothing c = refl

pub returns-clause-with_tick : goal.returns-clause-with_tick
unfolding chars
returns-clause-with_tick c = refl

pub returns-clause-with_step : goal.returns-clause-with_step
unfolding chars
returns-clause-with_step c = refl

pub returns-clause-with_call : goal.returns-clause-with_call
unfolding chars
returns-clause-with_call c = refl
