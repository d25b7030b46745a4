use Rattle.std.proofs.Common.{refl}
use Rattle.sb_routes.specs.Routes.{of_messages}
use Rattle.sb_routes.proofs.routes.add_messages.Goals as goal

pub returns : goal.returns
unfolding of_messages
returns c = rw (c.in_ok-add_at-4.ensures, c.in_ok-add_at-3.ensures, c.in_ok-add_at-2.ensures, c.in_ok-add_at.ensures) refl
