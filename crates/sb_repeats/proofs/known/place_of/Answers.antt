use Rattle.std.proofs.Common.{rules, length, ◌≤◌}
use Rattle.std.proofs.lemmas.List.Sorted.{IsPartitionPoint-from_clause}
use Rattle.sb_machine.specs.Changes.{is_earlier}
use Rattle.sb_repeats.proofs.Bisecting.{point_is}
use Rattle.sb_repeats.proofs.Ids.{ids_parted}
use Rattle.sb_repeats.proofs.known.place_of.Goals as goal

pub returns-clause-place : goal.returns-clause-place
returns-clause-place c =
    let id = c.args.id.now in
    let ids = c.args.ids.now.items in
    let p = is_earlier c.args.moment id in
    let point = IsPartitionPoint-from_clause p ids c.partition_point.result c.partition_point.ensures.partitioned (ids_parted c.args.moment id ids c.requires.order) (λ a r f k. search rules) in
    let le : c.partition_point.result ≤ length ids = search rules in
    point_is p ids c.partition_point.result le point
