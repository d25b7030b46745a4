use Rattle.std.proofs.Common.{refl}
use Rattle.sb_routes.specs.Routes.{of_sessions}
use Rattle.sb_routes.proofs.routes.add_sessions.Goals as goal

pub returns : goal.returns
unfolding of_sessions
returns c = rw (c.in_ok-add_at-7.ensures, c.in_ok-add_at-6.ensures, c.in_ok-add_at-5.ensures, c.in_ok-add_at-4.ensures, c.in_ok-add_at-3.ensures, c.in_ok-add_at-2.ensures, c.in_ok-add_at.ensures) refl
