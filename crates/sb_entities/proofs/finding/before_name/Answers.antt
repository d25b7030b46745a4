use Rattle.std.proofs.Common.{rules, Bor}
use Rattle.std.proofs.lemmas.List.Sorted.{IsPartitionPoint-from_clause}
use Rattle.sb_machine.specs.Names.{is_before}
use Rattle.sb_machine.specs.Visits.{own_name}
use Rattle.sb_machine.specs.declared.state.Listed.{Listed}
use Rattle.sb_entities.proofs.ByName.{parted, point_is}
use Rattle.sb_entities.proofs.finding.before_name.Goals as goal

pub returns-clause-value : goal.returns-clause-value
returns-clause-value c =
    let n = c.args.name.now in
    let found = c.args.found.now in
    let point = IsPartitionPoint-from_clause (λ (q : Bor Listed). is_before (own_name q.now) n) found c.partition_point.result c.partition_point.ensures.partitioned (parted n found c.requires) (λ a r f k. search rules) in
    point_is n found c.partition_point.result c.partition_point.ensures.bound point
