use Rattle.sb_node.specs.Nodes.{node_last, node_state}
use Rattle.sb_app.specs.Outside.{output_of}
use Rattle.sb_app.proofs.Drills.{cut_over, told_over}
use Rattle.sb_app.proofs.drilling.drill_status.Goals as goal

pub returns-in-Ok-clause-done : goal.returns-in-Ok-clause-done
returns-in-Ok-clause-done g c =
    told_over c.args.count c.args.seed c.calls_for.result (node_state c.args.node.now) (output_of g.K.Sink c.args.output.now) (output_of g.K.Sink c.tell_counts.new.output) c.make_calls.new.node c.in-Ok.so_far c.summary.result (node_last c.make_calls.new.node) c.counts_of-counts.result c.tell_counts.result
    c.calls_for.ensures c.in-Ok.ensures.ok (c.summary.ensures.numbers c.in-Ok.ensures.ok.running) c.counts_of-counts.ensures c.tell_counts.ensures

pub returns-in-Err-clause-done : goal.returns-in-Err-clause-done
returns-in-Err-clause-done g c =
    let cut = c.in-Err.ensures.err in
    cut_over c.args.count c.args.seed cut.0 c.calls_for.result (node_state c.args.node.now) (output_of g.K.Sink c.args.output.now) c.make_calls.new.node c.in-Err.end c.status_of.result c.calls_for.ensures cut.1 cut.2 c.status_of.ensures
