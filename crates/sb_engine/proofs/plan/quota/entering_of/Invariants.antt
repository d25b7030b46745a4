use Rattle.std.proofs.Common.{◌≡◌, ◌+◌, ◌≤◌, drop, sum_by}
use Rattle.sb_engine.specs.Quotas.{enters_in}
use Rattle.sb_engine.proofs.plan.quota.entering_of.Given as goal

abbrev pub invariant-loop-place : goal.invariant-loop-place
invariant-loop-place l = record {
  count : l.entering + sum_by enters_in (drop l.place l.changes.items) ≡ sum_by enters_in l.changes.items;
  few : l.entering ≤ l.place;
}
