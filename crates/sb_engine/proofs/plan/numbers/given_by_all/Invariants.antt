use Rattle.std.proofs.Common.{◌≡◌, ◌+◌, ◌≤◌, drop, sum_by}
use Rattle.sb_engine.specs.Numbers.{given_in}
use Rattle.sb_engine.proofs.plan.numbers.given_by_all.Given as goal

abbrev pub invariant-loop-place : goal.invariant-loop-place
invariant-loop-place l = record {
  count : l.given + sum_by (given_in l.what) (drop l.place l.changes.items) ≡ sum_by (given_in l.what) l.changes.items;
  few : l.given ≤ l.place;
}
