use Rattle.std.proofs.Common.{ap, sym, ◌∙◌}
use Rattle.sb_node.specs.Nodes.{node_stopped}
use Rattle.sb_app.specs.Outside.{output_of}
use Rattle.sb_app.specs.Servings.{serve_status}
use Rattle.sb_app.proofs.Ends.{served_runs}
use Rattle.sb_app.proofs.Stages.{server_ended}
use Rattle.sb_app.proofs.serving.end_serving.Goals as goal

pub end_server-status-requires : goal.end_server-status-requires
end_server-status-requires g c =
    let status = c.status_of-served.ensures ∙ ap (λ b. serve_status b c.args.ending c.tell_report-told.result) c.stopped.ensures in
    record { running = λ is. served_runs (node_stopped c.args.node) c.args.ending c.tell_report-told.result (sym status ∙ is) }

pub returns : goal.returns
returns g c =
    let told = c.tell_report-told.result in
    let says = c.status_of-served.ensures ∙ ap (λ b. serve_status b c.args.ending told) c.stopped.ensures in
    let end = c.end_server-status.ensures in
    server_ended c.args.checkpoint c.args.ending c.args.report c.args.node c.end_server-status.new.node c.close-disk_a.result.0 c.close-disk_a.result.1 (output_of g.K.Sink c.args.output.now) (output_of g.K.Sink c.tell_report-told.new.output) told c.status_of-served.result c.end_server-status.result c.tell_report-told.ensures says
    end.unasked end.early end.ends end.has end.honesty c.close-disk_a.ensures.disk_a c.close-disk_a.ensures.disk_b
