use Rattle.std.proofs.Common.{rules}
use Rattle.std.proofs.lemmas.List.Sorted.{IsPartitionPoint-from_clause}
use Rattle.sb_machine.specs.Names.{is_before}
use Rattle.sb_sessions.proofs.Sorted.{earlier_first, entry_is}
use Rattle.sb_sessions.proofs.rows.entry_of.Goals as goal

pub returns-clause-place : goal.returns-clause-place
returns-clause-place c =
    let parted = earlier_first c.args.id.now c.args.rows.now c.requires in
    let point = IsPartitionPoint-from_clause (λ y. is_before y.id c.args.id.now) c.args.rows.now c.partition_point.result c.partition_point.ensures.partitioned parted (λ a r q k. search rules) in
    entry_is c.args.id.now c.args.rows.now c.partition_point.result c.partition_point.ensures.bound point
