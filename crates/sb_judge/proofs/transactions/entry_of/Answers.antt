use Rattle.std.proofs.Common.{nat_lt, rules}
use Rattle.std.proofs.lemmas.List.Sorted.{IsPartitionPoint-from_clause}
use Rattle.sb_machine.specs.declared.state.Entity.{Entity}
use Rattle.sb_judge.proofs.Placed.{entities_parted, point_is}
use Rattle.sb_judge.proofs.transactions.entry_of.Goals as goal

pub returns-clause-place : goal.returns-clause-place
returns-clause-place c =
    let parted = entities_parted c.args.number c.args.entities.now c.requires in
    let point = IsPartitionPoint-from_clause (λ (e : Entity). nat_lt e.about.number c.args.number) c.args.entities.now c.partition_point.result c.partition_point.ensures.partitioned parted (λ a r q k. search rules) in
    point_is (λ (e : Entity). nat_lt e.about.number c.args.number) c.args.entities.now c.partition_point.result c.partition_point.ensures.bound point
