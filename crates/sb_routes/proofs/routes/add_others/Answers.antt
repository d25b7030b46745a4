use Rattle.std.proofs.Common.{refl}
use Rattle.sb_routes.specs.Routes.{others}
use Rattle.sb_routes.proofs.routes.add_others.Goals as goal

pub returns : goal.returns
unfolding others
returns c = rw (c.in_ok-add_sights.ensures, c.in_ok-add-4.ensures, c.in_ok-add-3.ensures, c.in_ok-add-2.ensures, c.in_ok-add.ensures) refl
