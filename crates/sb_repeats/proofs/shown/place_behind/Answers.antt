use Rattle.std.proofs.Common.{rules}
use Rattle.std.proofs.lemmas.List.Sorted.{IsPartitionPoint-from_clause}
use Rattle.sb_repeats.proofs.Bisecting.{point_is}
use Rattle.sb_repeats.proofs.Showing.{behind_parted, is_up_to}
use Rattle.sb_repeats.proofs.shown.place_behind.Goals as goal

pub returns-clause-place : goal.returns-clause-place
returns-clause-place c =
    let after = c.args.after.now in
    let rows = c.args.rows.now in
    let point = IsPartitionPoint-from_clause (is_up_to after) rows c.partition_point.result c.partition_point.ensures.partitioned (behind_parted after rows c.requires.order) (λ a r f k. search rules) in
    point_is (is_up_to after) rows c.partition_point.result c.partition_point.ensures.bound point
