use Rattle.std.proofs.Common.{refl}
use Rattle.sb_routes.specs.Routes.{of_messages, of_sessions, of_address}
use Rattle.sb_routes.proofs.routes.add_address.Goals as goal

pub returns : goal.returns
unfolding of_messages of_sessions of_address
returns c = rw (c.in_ok-add_sessions.ensures, c.in_ok-add_messages.ensures) refl
