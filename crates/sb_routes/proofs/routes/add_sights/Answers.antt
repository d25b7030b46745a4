use Rattle.std.proofs.Common.{refl}
use Rattle.sb_routes.specs.Routes.{sights}
use Rattle.sb_routes.proofs.routes.add_sights.Goals as goal

pub returns : goal.returns
unfolding sights
returns c = rw (c.in_ok-add-5.ensures, c.in_ok-add-4.ensures, c.in_ok-add-3.ensures, c.in_ok-add-2.ensures, c.in_ok-add.ensures) refl
