use Rattle.std.proofs.Common.{refl}
use Rattle.sb_routes.specs.Routes.{addresses}
use Rattle.sb_routes.proofs.routes.add_addresses.Goals as goal

pub returns : goal.returns
unfolding addresses
returns c = rw (c.in_ok-add_address-6.ensures, c.in_ok-add_address-5.ensures, c.in_ok-add_address-4.ensures, c.in_ok-add_address-3.ensures, c.in_ok-add_address-2.ensures, c.in_ok-add_address.ensures) refl
