use Rattle.std.proofs.Common.{◌≡◌, ◌≤◌, vec_len}
use Rattle.sb_index.proofs.index.promise_more.Given as goal

abbrev pub invariant-loop : goal.invariant-loop
invariant-loop l = (vec_len l.nodes ≡ l.counter) × (l.there ≤ l.counter) × (l.there ≡ vec_len l.fn.nodes)
