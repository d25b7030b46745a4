use Rattle.std.proofs.Common.{ℕ, ◌∙◌, sym, ap}
use Rattle.sb_engine.specs.Engines.{summary_of}
use Rattle.sb_engine.specs.declared.summary.Summary.{Summary}
use Rattle.sb_machine.specs.declared.state.State.{State}
use Rattle.sb_node.specs.Nodes.{node_journal, node_last, node_state}
use Rattle.sb_node.specs.Recovery.{recovers}
use Rattle.sb_node.proofs.Keeping.{kept_recovers}
use Rattle.sb_node.proofs.node.Node.summary.Goals as goal

pub returns-clause-numbers : goal.returns-clause-numbers
returns-clause-numbers g c runs = c.numbers_of.ensures ∙ ap (λ (s : State). summary_of s (node_last c.args.self.now)) (sym (c.args.self.now.same runs))

pub returns-clause-recovered : goal.returns-clause-recovered
returns-clause-recovered g c kept runs salt =
    let s = node_state c.args.self.now in
    kept_recovers (node_journal c.args.self.now) (node_last c.args.self.now) s salt kept ∙ ap (λ (n : ℕ). recovers s n) (sym (ap (λ (x : Summary). x.events) (returns-clause-numbers g c runs)))
