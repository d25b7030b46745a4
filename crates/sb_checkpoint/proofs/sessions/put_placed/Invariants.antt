use Rattle.std.proofs.Common.{Ok, map, take}
use Rattle.std.specs.List.{AllByRecursion, flat_map}
use Rattle.sb_snapshot.specs.Sessions.{in_part, session}
use Rattle.sb_checkpoint.specs.Takings.{Takes}
use Rattle.sb_checkpoint.proofs.sessions.put_placed.Given as goal

abbrev pub invariant-loop-session : goal.invariant-loop-session
invariant-loop-session g l = record {
  takes : Takes g.P.Pieces l.fn.out l.out (flat_map session.spell (map (in_part l.key) (take l.session-index l.sessions))) (Ok tt);
  fits : AllByRecursion (λ x. session.Fits (in_part l.key x)) (take l.session-index l.sessions);
}
