use Rattle.std.proofs.Common.{◌<◌, rules, arith, map-id}
use Rattle.std.proofs.lemmas.Iterator.Consumers.{YieldsList-end}
use Rattle.std.proofs.lemmas.Iterator.Adapters.{YieldsList-from_vec}
use Rattle.sb_fanout.proofs.Hops.{onward_to, found_at, nowhere_to, missed_at}
use Rattle.sb_fanout.proofs.course.+course.Goals as goal

pub come_each-returns : goal.come_each-returns
come_each-returns g t c =
    let end = YieldsList-end (YieldsList-from_vec {s = c.into_iter-message-iterator.result} c.args.messages (search rules) (search rules))
    c.messages.yielded c.messages.message-iterator c.messages.yielded_by c.next.result c.next.new.self c.in-None.is c.next.ensures.steps in
    rw (← end.0, map-id) c.messages.invariant

pub transfer-returns : goal.transfer-returns
transfer-returns g t c =
    let fewer : c.args.hops < 4 = omega arith in
    let there = found_at (g.N.Directory.listed c.args.course.now.directory.now) c.args.to.now c.destination.result c.in-Some.target c.destination.ensures c.in-Some.is in
    rw (onward_to _ c.args.hops c.args.entity.now c.args.message c.args.to.now c.in-Some.target.now fewer there) c.enter.ensures

pub transfer-returns-in_default : goal.transfer-returns-in_default
transfer-returns-in_default g t c =
    let fewer : c.args.hops < 4 = omega arith in
    let none = missed_at (g.N.Directory.listed c.args.course.now.directory.now) c.args.to.now c.destination.result c.destination.ensures c.in_default.is in
    rw (nowhere_to _ c.args.hops c.args.entity.now c.args.message c.args.to.now fewer none) c.fail-in_default.ensures
