use Rattle.std.proofs.Common.{sym}
use Rattle.sb_snapshot.proofs.Steps.{front_next}
use Rattle.sb_snapshot.proofs.gathering.front_of.Goals as goal

pub next-preserved : goal.next-preserved
next-preserved c =
    front_next c.args.key.now c.args.left.now.items c.next.front c.push.new.self c.next.left.items c.in-Some.placed c.pop_front.new.self.items c.in-Some.ensures.items (sym c.next-test.ensures.is) c.in_ok-push.ensures.ok c.next.invariant
