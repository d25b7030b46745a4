use Rattle.std.proofs.Common.{ℕ, sym, ap}
use Rattle.sb_node.proofs.Counts.{all_raised, some_raised}
use Rattle.sb_node.proofs.counting.count_sealed.Goals as goal

pub returns-then-count-eq0 : goal.returns-then-count-eq0
returns-then-count-eq0 c k is = ap (λ (n : ℕ). record c.args.numbers.now { changing = n }) (sym (all_raised c.args.numbers.now.changing k c.args.count c.if-count-eq0.true is))

pub returns : goal.returns
returns c k is = ap (λ (n : ℕ). record c.args.numbers.now { changing = n }) (some_raised c.args.numbers.now.changing k c.args.count c.saturating_add-numbers.result c.if-count-eq0.false is c.saturating_add-numbers.ensures)
