use Rattle.std.proofs.Common.{ap, Option, Some, None}
use Rattle.sb_machine.specs.declared.state.Session.{Session}
use Rattle.sb_engine.proofs.acts.accept.holder_in.Goals as goal

pub returns-in-Some : goal.returns-in-Some
returns-in-Some c = ap (λ (o : Option Session). elim o [ Some x ↦ x.holder | None ↦ None ]) c.in-Some.ensures

pub returns-in-None : goal.returns-in-None
returns-in-None c = ap (λ (o : Option Session). elim o [ Some x ↦ x.holder | None ↦ None ]) c.in-None.ensures
