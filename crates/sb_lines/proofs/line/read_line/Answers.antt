use Rattle.sb_lines.proofs.OrderedLines.{answered_in_order}
use Rattle.sb_lines.proofs.line.read_line.Goals as goal

pub returns-clause-in_order : goal.returns-clause-in_order
returns-clause-in_order c = answered_in_order c.args.text.now c.call_in.result c.call_in.ensures
