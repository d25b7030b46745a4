use Rattle.std.proofs.Common.{rules}
use Rattle.std.proofs.lemmas.List.Sorted.{IsPartitionPoint-from_clause}
use Rattle.sb_machine.specs.Names.{is_before}
use Rattle.sb_repeats.proofs.Bisecting.{point_is}
use Rattle.sb_repeats.proofs.Keeping.{clients_parted}
use Rattle.sb_repeats.proofs.clients.entry_of.Goals as goal

pub returns-clause-place : goal.returns-clause-place
returns-clause-place c =
    let client = c.args.client.now in
    let rows = c.args.rows.now in
    let point = IsPartitionPoint-from_clause (λ x. is_before x.client client) rows c.partition_point.result c.partition_point.ensures.partitioned (clients_parted client rows c.requires.order) (λ a r f k. search rules) in
    point_is (λ x. is_before x.client client) rows c.partition_point.result c.partition_point.ensures.bound point
