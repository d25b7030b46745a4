use Rattle.std.proofs.Common.{◌∙◌, ◌+◌, ◌*◌, length}
use Rattle.std.specs.Str.{chars}
use Rattle.sb_sqleval.proofs.Turning.{few_steps, one_more}
use Rattle.sb_sqleval.specs.Places.{is_open, turns_left}
use Rattle.sb_sqleval.proofs.likes.like.Goals as goal

pub returns-in-Ended-clause-answers : goal.returns-in-Ended-clause-answers
returns-in-Ended-clause-answers g c = c.in-Ended.ensures (length (chars c.args.text.now)) (length (chars c.args.pattern.now)) c.turns.invariant.within ∙ c.turns.invariant.same

pub returns-in-Ended-clause-bounded : goal.returns-in-Ended-clause-bounded
returns-in-Ended-clause-bounded g c = few_steps c.args.steps.now c.turns.steps c.tick.new.self (turns_left (length (chars c.args.text.now)) (length (chars c.args.pattern.now)) c.turns.places) (length (chars c.args.text.now)) (length (chars c.args.pattern.now)) c.turns.invariant.counted c.tick.ensures

pub turns-preserved : goal.turns-preserved
turns-preserved g c =
    let n = length (chars c.args.text.now) in
    let p = length (chars c.args.pattern.now) in
    let t = c.in-Goes.ensures n p c.turns.invariant.within in
    record {
      same = ◌∙◌ {b = is_open c.args.escape c.turns.places} t.same c.turns.invariant.same;
      marked = t.marked;
      within = t.within;
      counted = one_more c.turns.steps c.tick.new.self (turns_left n p c.turns.places) (turns_left n p c.in-Goes.next) (c.args.steps.now + ((n + 1) * (p + 1) + p)) c.tick.ensures c.turns.invariant.counted t.fewer;
    }
