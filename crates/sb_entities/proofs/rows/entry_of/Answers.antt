use Rattle.std.proofs.Common.{rules, nat_lt}
use Rattle.std.proofs.lemmas.List.Sorted.{IsPartitionPoint-from_clause}
use Rattle.sb_entities.specs.declared.entity.EntityStore.{EntityStore}
use Rattle.sb_entities.proofs.Bisecting.{parted, point_is}
use Rattle.sb_entities.proofs.rows.entry_of.Goals as goal

pub returns-clause-place : goal.returns-clause-place
returns-clause-place c =
    let n = c.args.number in
    let rows = c.args.rows.now in
    let point = IsPartitionPoint-from_clause (λ (e : EntityStore). nat_lt e.listing.about.number n) rows c.partition_point.result c.partition_point.ensures.partitioned (parted (λ e. e.listing.about.number) n rows c.requires) (λ a r f k. search rules) in
    point_is (λ (e : EntityStore). e.listing.about.number) n rows c.partition_point.result c.partition_point.ensures.bound point
