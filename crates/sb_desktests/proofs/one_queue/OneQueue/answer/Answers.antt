use Rattle.std.proofs.Common.{rules, ◌≡◌}
use Rattle.sb_desktests.specs.Namespaces.{creation}
use Rattle.sb_desktests.proofs.Adding.{makes, exists, wants}
use Rattle.sb_desktests.proofs.one_queue.OneQueue.answer.Goals as goal

pub returns-then-not-is_creation : goal.returns-then-not-is_creation
returns-then-not-is_creation c =
    wants c.args.self.now.numbers c.refuse.new.self.numbers c.args.self.now.made c.refuse.new.self.made c.args.reading c.args.call.now c.refuse.result c.refuse.ensures.answer c.refuse.ensures.same.0 c.refuse.ensures.counted.0 c.refuse.ensures.same.1 c.refuse.ensures.counted.1

pub returns-then-is_some : goal.returns-then-is_some
returns-then-is_some c =
    let r = c.refuse-then-is_some in
    let is : c.args.call.now ≡ creation = search rules in
    exists c.args.self.now.numbers r.new.self.numbers c.args.self.now.made r.new.self.made c.args.reading c.args.call.now r.result (search rules) is r.ensures.answer r.ensures.same.0 r.ensures.counted.0 r.ensures.same.1 r.ensures.counted.1

pub returns : goal.returns
returns c =
    let is : c.args.call.now ≡ creation = search rules in
    makes c.args.self.now.numbers _ c.args.self.now.made c.args.reading c.min.result c.args.call.now (search rules) is (search rules) (search rules) (search rules) (search rules)
