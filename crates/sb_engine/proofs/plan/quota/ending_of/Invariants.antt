use Rattle.std.proofs.Common.{◌≡◌, ◌+◌, ◌≤◌, drop, sum_by}
use Rattle.sb_engine.specs.Quotas.{ends_in}
use Rattle.sb_engine.proofs.plan.quota.ending_of.Given as goal

abbrev pub invariant-loop-place : goal.invariant-loop-place
invariant-loop-place l = record {
  count : l.ending + sum_by ends_in (drop l.place l.changes.items) ≡ sum_by ends_in l.changes.items;
  few : l.ending ≤ l.place;
}
