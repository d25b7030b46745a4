use Rattle.sb_node.proofs.Resting.{stands_alone}
use Rattle.sb_app.proofs.drilling.answer_to.Goals as goal

pub returns-clause-stands : goal.returns-clause-stands
returns-clause-stands g c start h is =
    let made = c.step.ensures in
    let asked = c.args.asked.now in
    stands_alone c.args.node.now c.step.new.self 0 asked.reading asked.call c.step.result start h
    (record {
      step = made.step 0;
      numbers = made.numbers 0;
      origin = made.origin;
      goes_on = made.goes_on;
      honesty = made.honesty;
      later = made.later;
      failed = made.disk_fault;
      undone = made.undone;
      stopped = made.stopped;
      stays = made.stays_stopped;
      kept = made.kept;
      untouched = made.untouched;
      refused = made.refused;
      follows = λ kept. made.follows kept 0;
      quiet = made.quiet;
      ticked = made.ticked;
      free = made.free;
    }) is
