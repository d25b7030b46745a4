use Rattle.std.proofs.Common.{sym, ◌∙◌, ap}
use Rattle.sb_node.specs.Nodes.{node_state, IsKept}
use Rattle.sb_app.specs.Nodes.{outside_with}
use Rattle.sb_app.specs.declared.ending.RunEnd.{RunEnd}
use Rattle.sb_app.specs.declared.ending.RunEnd.TheVariants.{DiskFault}
use Rattle.sb_app.specs.Endings.{IsCutRun, status_of_end}
use Rattle.sb_input.proofs.Errors.{same_error}
use Rattle.sb_app.proofs.Statuses.{named_end, same_end}
use Rattle.sb_app.proofs.alone.run_status.Goals as goal

pub returns-in-Err-clause-cut : goal.returns-in-Err-clause-cut
returns-in-Err-clause-cut g c end is =
    let was = outside_with g.S.Source g.K.Sink c.args.node.now c.args.input.now c.args.output.now in
    let now = outside_with g.S.Source g.K.Sink c.run_script.new.node c.run_script.new.input c.run_script.new.output in
    named_end (λ (e : RunEnd). IsCutRun (g.C.Clock.reads c.args.clock.now) c.args.max_jump (IsKept c.args.node.now) (node_state c.args.node.now) was now (node_state c.run_script.new.node) e) c.in-Err.end end c.status_of.result c.status_of.ensures c.in-Err.ensures.cut is

pub returns-in-Err-clause-read_quiet : goal.returns-in-Err-clause-read_quiet
returns-in-Err-clause-read_quiet g c other = c.in-Err.ensures.read_quiet (λ is. other (c.status_of.ensures ∙ ap status_of_end is))

pub returns-in-Err-clause-disk_fault : goal.returns-in-Err-clause-disk_fault
returns-in-Err-clause-disk_fault g c five = c.in-Err.ensures.disk_fault (same_end c.in-Err.end DiskFault (sym c.status_of.ensures ∙ five))

pub returns-in-Err-clause-kept : goal.returns-in-Err-clause-kept
returns-in-Err-clause-kept g c safe other = c.in-Err.ensures.kept safe (λ is. other (c.status_of.ensures ∙ ap status_of_end (same_error _ _ is)))
