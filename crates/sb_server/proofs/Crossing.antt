-- Threads may share the routes, an access, limits of time and a desk, where what it serves may go to another thread.
use denote.Param.Send.{IsSend, IsSync, sendable}
use denote.RattleType.{RattleType}
use Rattle.std.proofs.Crossing.{crosses, frees, send, sync}
use Rattle.std.specs.contracts.option.Option as option
use Rattle.atomic_table.proofs.owned.Table.TheSendSync as table
use Rattle.matchit.proofs.tree.Node.TheLaws.TheKnot as knot
use Rattle.matchit.specs.contracts.router.Router as router
use Rattle.sb_desk.proofs.bells.Bells.TheSendSync as bells
use Rattle.sb_desk.proofs.post.Post.TheSendSync as post
use Rattle.sb_desk.specs.declared.served.Served.{Ghosts}
use Rattle.sb_desk.specs.contracts.desk.Desk as desk
use Rattle.sb_desk.specs.contracts.view.Held as held
use Rattle.sb_routes.proofs.routes.Route.TheSendSync as route
use Rattle.sb_routes.specs.contracts.routes.Routes as routes
use Rattle.sb_rest.specs.contracts.access.Access as access
use Rattle.sb_server.specs.contracts.limits.Limits as limits

router_sync : (T : RattleType) → IsSync T → IsSync (router.the_row T)
router_sync T s = search (crosses, knot.crosses, sendable) depth 60 fits 20000

pub routes_sync : IsSync routes.the_row
routes_sync = search (crosses, sendable, router_sync, route.the_sync) depth 60 fits 20000

pub access_sync : IsSync access.the_row
access_sync = search (crosses, sendable) depth 60 fits 20000

pub limits_sync : IsSync limits.the_row
limits_sync = search (crosses, sendable) depth 60 fits 20000

held_send : (V : RattleType) → IsSend V → IsSend (held.the_row V)
held_send V s = search (crosses, sendable, post.the_send) depth 60 fits 20000

slot_send : (V : RattleType) → IsSend V → IsSend (option.the_row (held.the_row V))
slot_send V s = search (crosses, sendable, held_send) depth 60 fits 20000

pub desk_sync : (V : RattleType) (S : Ghosts V.Denot) → IsSend V → IsSync (desk.the_row V S)
desk_sync V S s = search (crosses, sendable, slot_send, send, sync, frees, table.the_field_sync, bells.the_field_sync) depth 60 fits 20000
