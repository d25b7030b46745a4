use Rattle.std.proofs.Common.{subst, sym}
use Rattle.sb_http.specs.Stages.{Left}
use Rattle.sb_http.specs.Causes.{IsCaused}
use Rattle.sb_http.proofs.Kept.{caused_more}
use Rattle.sb_http.proofs.incoming.Incoming.put.Goals as goal

pub invariant_of-self : goal.invariant_of-self
invariant_of-self c = subst (λ (l : Left). IsCaused c.self.inside.refused l) (sym c.put.ensures.taken) (caused_more _ _ _ c.self.invariant)

pub returns-in-Some-clause-caused : goal.returns-in-Some-clause-caused
returns-in-Some-clause-caused c = subst (λ (l : Left). IsCaused c.self.inside.refused l) (sym c.put.ensures.taken) (caused_more _ _ _ c.self.invariant)
