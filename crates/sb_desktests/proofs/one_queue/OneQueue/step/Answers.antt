use Rattle.std.proofs.Common.{rules, ◌≡◌, ◌++◌, Some, None, sym, subst}
use Rattle.sb_desk.specs.Posts.{went_entries}
use Rattle.sb_desktests.specs.Namespaces.{StandsFor}
use Rattle.sb_desktests.proofs.one_queue.OneQueue.step.Goals as goal

pub returns-clause-stands : goal.returns-clause-stands
returns-clause-stands c from h s =
    let p = c.args.post.now in
    let is : c.replace-before.new.self ≡ Some (record { answer = c.answer-answer.result; tick = None }) = search rules in
    subst (λ w. StandsFor c.answer-answer.new.self.made c.answer-answer.new.self.numbers from (h ++ went_entries p.seat p.reading p.call w)) (sym is) (c.answer-answer.ensures p.seat from h s)
