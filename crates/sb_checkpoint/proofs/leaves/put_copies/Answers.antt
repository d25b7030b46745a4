use Rattle.std.proofs.Common.{map, ap, subst, ◌∙◌}
use Rattle.std.specs.Prelude.{OnOk}
use Rattle.std.specs.List.{All}
use Rattle.sb_snapshot.specs.Copies.{copy}
use Rattle.sb_checkpoint.proofs.leaves.put_copies.Goals as goal

pub returns-clause-fits : goal.returns-clause-fits
returns-clause-fits g c = subst (λ xs. OnOk c.put_found.result (All copy.Fits xs)) (ap (λ xs. map (λ x. x.now) xs) c.deref.ensures.value ∙ c.in_ok-found.ensures) c.put_found.ensures.fits
