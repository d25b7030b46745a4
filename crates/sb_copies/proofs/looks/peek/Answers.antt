use Rattle.std.proofs.Common.{◌+◌, ◌-◌, ◌++◌, ◌∷◌, [], ◌≡◌, ◌∙◌, ap, arith}
use Rattle.sb_machine.specs.Receiving.{browsed}
use Rattle.sb_copies.specs.Shelf.{copies_in}
use Rattle.sb_copies.proofs.Walking.{seen_all, seen_one}
use Rattle.sb_copies.proofs.looks.peek.Goals as goal

pub returns-in_default : goal.returns-in_default
returns-in_default c = seen_all (copies_in c.args.slots.now c.args.order.now.rows) c.loop.from (c.args.count - c.loop.counter) c.loop.seen.items _ c.in_default.ensures c.loop.invariant

pub loop-preserved : goal.loop-preserved
loop-preserved c =
    let gained : c.push.new.self.items ≡ c.loop.seen.items ++ browsed c.in-Some.copy.now ∷ [] = c.in_ok-push.ensures.items ∙ ap (λ s. c.loop.seen.items ++ s ∷ []) c.in_ok-browsed.ensures in
    rw gained (seen_one (copies_in c.args.slots.now c.args.order.now.rows) c.loop.from (c.from-from-in-loop.result + 1) (c.args.count - c.loop.counter) (c.args.count - (c.loop.counter + 1)) c.in-Some.copy.now c.loop.seen.items _ c.requires.order c.in-Some.ensures (ap (λ n. n + 1) c.from-from-in-loop.ensures) (omega arith) c.loop.invariant)
