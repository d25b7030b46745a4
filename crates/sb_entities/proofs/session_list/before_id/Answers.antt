use Rattle.std.proofs.Common.{rules, List, ℕ, Bor}
use Rattle.std.proofs.lemmas.List.Sorted.{IsPartitionPoint-from_clause}
use Rattle.sb_machine.specs.Names.{is_before}
use Rattle.sb_entities.proofs.ById.{parted, point_is}
use Rattle.sb_entities.proofs.session_list.before_id.Goals as goal

pub returns-clause-value : goal.returns-clause-value
returns-clause-value c =
    let n = c.args.id.now in
    let ids = c.args.ids.now in
    let point = IsPartitionPoint-from_clause (λ (q : Bor (List ℕ)). is_before q.now n) ids c.partition_point.result c.partition_point.ensures.partitioned (parted n ids c.requires) (λ a r f k. search rules) in
    point_is n ids c.partition_point.result c.partition_point.ensures.bound point
