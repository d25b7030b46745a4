use Rattle.std.proofs.Common.{◌≡◌, ◌+◌, ◌-◌, ◌*◌, drop, map}
use Rattle.std.specs.List.{flat_map}
use Rattle.sb_machine.specs.Visits.{transferred, offered, came_to}
use Rattle.sb_fanout.specs.Tallies.{told, all_visited}
use Rattle.sb_fanout.proofs.course.+course.Given as goal

abbrev pub decreases-transfer : goal.decreases-transfer
decreases-transfer g l = 16 * (4 - l.hops)

abbrev pub decreases-bury_in : goal.decreases-bury_in
decreases-bury_in g l = 16 * (4 - l.hops) + 1

abbrev pub decreases-dead_letter : goal.decreases-dead_letter
decreases-dead_letter g l = 16 * (4 - l.hops) + 2

abbrev pub decreases-settle : goal.decreases-settle
decreases-settle g l = 16 * (4 - l.hops) + 3

abbrev pub decreases-come : goal.decreases-come
decreases-come g l = 16 * (4 - l.hops) + 4

abbrev pub decreases-come_each : goal.decreases-come_each
decreases-come_each g l = 16 * (4 - l.hops) + 5

abbrev pub decreases-offer : goal.decreases-offer
decreases-offer g l = 16 * (4 - l.hops) + 6

abbrev pub decreases-offer_each : goal.decreases-offer_each
decreases-offer_each g l = 16 * (4 - l.hops) + 7

abbrev pub decreases-fan : goal.decreases-fan
decreases-fan g l = 16 * (4 - l.hops) + 8

abbrev pub decreases-enter : goal.decreases-enter
decreases-enter g l = 16 * (4 - l.hops) + 9

-- what came of those so far, and then comes of the others, is what comes of all
abbrev pub invariant-offer_each-subscriptions : goal.invariant-offer_each-subscriptions
invariant-offer_each-subscriptions g l =
    all_visited (g.N.Directory.last_of l.course.directory.now) (told l.tally) (flat_map (offered (transferred (4 - l.hops) (g.N.Directory.listed l.course.directory.now)) l.hops l.message) (map (λ e. e.now) (drop l.subscription-index l.subscriptions)))
    ≡ all_visited (g.N.Directory.last_of l.course.directory.now) (told l.fn.tally) (flat_map (offered (transferred (4 - l.hops) (g.N.Directory.listed l.course.directory.now)) l.hops l.message) (map (λ e. e.now) l.subscriptions))

abbrev pub invariant-come_each-messages : goal.invariant-come_each-messages
invariant-come_each-messages g l =
    told l.tally ≡ all_visited (g.N.Directory.last_of l.course.directory.now) (told l.fn.tally) (flat_map (came_to (transferred (4 - l.hops) (g.N.Directory.listed l.course.directory.now)) l.hops l.entity) l.yielded)
