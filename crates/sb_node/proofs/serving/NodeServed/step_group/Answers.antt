use Rattle.sb_node.proofs.serving.NodeServed.step_group.Goals as goal

pub returns-clause-stands : goal.returns-clause-stands
returns-clause-stands g c start h is = c.take_entered-entered.ensures.stands start _ (c.make_group.ensures.stands start h is)
