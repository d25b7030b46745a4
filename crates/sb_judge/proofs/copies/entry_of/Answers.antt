use Rattle.std.proofs.Common.{rules}
use Rattle.std.proofs.lemmas.List.Sorted.{IsPartitionPoint-from_clause}
use Rattle.sb_machine.specs.Names.{is_before}
use Rattle.sb_judge.proofs.Placed.{point_is, sessions_parted}
use Rattle.sb_judge.proofs.copies.entry_of.Goals as goal

pub returns-clause-place : goal.returns-clause-place
returns-clause-place c =
    let parted = sessions_parted c.args.id.now c.args.sessions.now c.requires in
    let point = IsPartitionPoint-from_clause (λ x. is_before x.id c.args.id.now) c.args.sessions.now c.partition_point.result c.partition_point.ensures.partitioned parted (λ a r q k. search rules) in
    point_is (λ x. is_before x.id c.args.id.now) c.args.sessions.now c.partition_point.result c.partition_point.ensures.bound point
