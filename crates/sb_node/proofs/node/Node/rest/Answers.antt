use Rattle.sb_node.specs.Nodes.{node_journal, node_last, node_state}
use Rattle.sb_node.proofs.Crashes.{kept_leads}
use Rattle.sb_node.proofs.node.Node.rest.Goals as goal

pub returns-then-not-is_long-clause-durable : goal.returns-then-not-is_long-clause-durable
returns-then-not-is_long-clause-durable g c kept x y on_x on_y =
    kept_leads (node_journal c.args.self.now) (node_last c.args.self.now) (node_state c.args.self.now) kept x y on_x on_y
