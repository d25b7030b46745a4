use Rattle.std.proofs.Common.{◌≡◌, ◌≤◌}
use Rattle.sb_node.specs.Nodes.{node_aside, node_state}
use Rattle.sb_node.specs.Serving.{node_goes_on, opened_disks}
use Rattle.sb_app.specs.Drills.{DrillsSoFar}
use Rattle.sb_app.proofs.drilling.make_calls.Given as goal

-- the calls so far were answered, and the node stands for them
abbrev pub invariant-loop-n : goal.invariant-loop-n
invariant-loop-n g l = record {
  drills : DrillsSoFar l.seed (node_state l.fn.node) l.n l.node l.so_far;
  within : l.n ≤ l.calls;
  origin : opened_disks l.node ≡ opened_disks l.fn.node;
  goes_on : node_goes_on l.node ≡ node_goes_on l.fn.node;
  aside : node_aside l.node ≡ node_aside l.fn.node;
}
