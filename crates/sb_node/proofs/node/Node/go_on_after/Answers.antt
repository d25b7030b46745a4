use Rattle.sb_node.specs.Nodes.{node_disks}
use Rattle.sb_node.specs.Serving.{node_goes_on, opened_disks}
use Rattle.sb_node.proofs.ByGroups.{follows_none}
use Rattle.sb_node.proofs.node.Node.go_on_after.Goals as goal

pub returns-clause-stands : goal.returns-clause-stands
returns-clause-stands g c start is = record {
  consistent = is.consistent;
  legal = is.legal;
  spares = is.spares;
  leads = is.leads;
  numbers = is.numbers;
  honesty = is.honesty;
  later = is.later;
  cause = is.cause;
  quiet = is.quiet;
  kept = is.kept;
  began = is.began;
  follows = λ honest. follows_none (node_goes_on c.args.self.now) _ start (opened_disks c.args.self.now) (node_disks c.args.self.now) (is.follows honest);
  left = is.left;
}
