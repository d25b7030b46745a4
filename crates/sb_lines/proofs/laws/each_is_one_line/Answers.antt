use Rattle.sb_lines.specs.Replies.{answer_data}
use Rattle.sb_lines.proofs.OneLine.{of_data}
use Rattle.sb_lines.proofs.laws.each_is_one_line.Goals as goal

pub returns : goal.returns
returns c = λ form answer. of_data (answer_data form answer)
