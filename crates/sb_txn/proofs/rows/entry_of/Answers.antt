use Rattle.std.proofs.Common.{rules}
use Rattle.std.proofs.lemmas.List.Sorted.{IsPartitionPoint-from_clause}
use Rattle.sb_txn.specs.Queued.{is_earlier}
use Rattle.sb_txn.proofs.Numbered.{earlier_first, entry_is}
use Rattle.sb_txn.proofs.rows.entry_of.Goals as goal

pub returns : goal.returns
returns c =
    let parted = earlier_first c.args.number c.args.rows.now c.requires in
    let point = IsPartitionPoint-from_clause (is_earlier c.args.number) c.args.rows.now c.partition_point.result c.partition_point.ensures.partitioned parted (λ a r q k. search rules) in
    entry_is c.args.number c.args.rows.now c.partition_point.result c.partition_point.ensures.bound point
