use Rattle.std.proofs.Common.{◌≡◌, drop}
use Rattle.std.specs.List.{list_all}
use Rattle.sb_judge.specs.Clients.{kept_verdict}
use Rattle.sb_judge.proofs.clients.are_kept.Given as goal

abbrev pub invariant-loop-kept : goal.invariant-loop-kept
invariant-loop-kept l = list_all (λ k. (kept_verdict k).0) (drop l.kept-index l.clients) ≡ list_all (λ k. (kept_verdict k).0) l.clients
