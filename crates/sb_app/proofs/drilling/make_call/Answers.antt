use Rattle.std.proofs.Common.{◌≡◌, ◌+◌, sym, refl, arith}
use Rattle.sb_node.specs.Nodes.{node_stopped, node_ticked}
use Rattle.sb_app.specs.Drills.{drill_history}
use Rattle.sb_app.proofs.Cuts.{failed_answer, wanting_answer}
use Rattle.sb_app.proofs.Drills.{failed_cut, few_counted, goes_on, one_accepted, one_refused, unasked_cut, wanting_cut}
use Rattle.sb_app.proofs.Steps.{accepted_answer, refused_answer}
use Rattle.sb_app.proofs.drilling.make_call.Goals as goal

pub returns-in-Accepted-clause-ok : goal.returns-in-Accepted-clause-ok
returns-in-Accepted-clause-ok g c start so =
    let step = c.answer_to-answer in
    let kind = accepted_answer step.result (sym c.in-Accepted.ensures) in
    let few = few_counted c.args.so_far.accepted c.args.so_far.refused c.args.n so.all c.requires.few in
    let same : c.args.so_far.refused ≡ c.args.so_far.refused + 0 = omega arith in
    goes_on c.args.seed c.args.n start c.args.node.now step.new.node c.args.so_far c.in-Ok.asked step.result
    (record {
      before = so;
      says = c.in-Ok.ensures.says;
      stands = step.ensures.stands start (drill_history c.args.seed start c.args.n) so.stands;
      step = step.ensures.step;
      ticked = step.ensures.ticked;
      consistent = step.ensures.consistent;
      origin = step.ensures.origin;
    })
    (record { memory = c.heard-memory.result; accepted = c.one_more.result; refused = c.args.so_far.refused }) 1 0 kind.0 c.heard-memory.ensures (c.one_more.ensures few.0) same (one_accepted (node_ticked step.new.node) c.in-Ok.asked step.result kind.1) refl

pub returns-in-Refused-clause-ok : goal.returns-in-Refused-clause-ok
returns-in-Refused-clause-ok g c start so =
    let step = c.answer_to-answer in
    let kind = refused_answer step.result (sym c.in-Refused.ensures) in
    let few = few_counted c.args.so_far.accepted c.args.so_far.refused c.args.n so.all c.requires.few in
    let same : c.args.so_far.accepted ≡ c.args.so_far.accepted + 0 = omega arith in
    goes_on c.args.seed c.args.n start c.args.node.now step.new.node c.args.so_far c.in-Ok.asked step.result
    (record {
      before = so;
      says = c.in-Ok.ensures.says;
      stands = step.ensures.stands start (drill_history c.args.seed start c.args.n) so.stands;
      step = step.ensures.step;
      ticked = step.ensures.ticked;
      consistent = step.ensures.consistent;
      origin = step.ensures.origin;
    })
    (record { memory = c.heard-memory.result; accepted = c.args.so_far.accepted; refused = c.one_more-in-Refused.result }) 0 1 kind.0 c.heard-memory.ensures same (c.one_more-in-Refused.ensures few.1) (one_refused (node_ticked step.new.node) c.in-Ok.asked step.result kind.1) refl

pub returns-in-Failed-clause-err : goal.returns-in-Failed-clause-err
returns-in-Failed-clause-err g c start so =
    let step = c.answer_to-answer in
    failed_cut c.args.seed c.args.n start c.args.node.now step.new.node c.args.so_far c.in-Ok.asked step.result
    (record {
      before = so;
      says = c.in-Ok.ensures.says;
      stands = step.ensures.stands start (drill_history c.args.seed start c.args.n) so.stands;
      step = step.ensures.step;
      ticked = step.ensures.ticked;
      consistent = step.ensures.consistent;
      origin = step.ensures.origin;
    })
    (failed_answer step.result (node_stopped c.args.node.now) so.running step.ensures.stopped (sym c.in-Failed.ensures)) step.ensures.disk_fault

pub returns-clause-err : goal.returns-clause-err
returns-clause-err g c start so =
    let step = c.answer_to-answer in
    wanting_cut c.args.seed c.args.n start c.args.node.now step.new.node c.args.so_far c.in-Ok.asked step.result
    (record {
      before = so;
      says = c.in-Ok.ensures.says;
      stands = step.ensures.stands start (drill_history c.args.seed start c.args.n) so.stands;
      step = step.ensures.step;
      ticked = step.ensures.ticked;
      consistent = step.ensures.consistent;
      origin = step.ensures.origin;
    })
    (wanting_answer step.result (sym c.in-Wanting.ensures))

pub returns-in_default-clause-err : goal.returns-in_default-clause-err
returns-in_default-clause-err g c start so = unasked_cut c.args.seed c.args.n start c.args.node.now c.args.so_far so
