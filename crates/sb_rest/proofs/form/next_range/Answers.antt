use Rattle.std.proofs.Common.{rules}
use Rattle.sb_rest.proofs.Listed.{json-nil, json_cut}
use Rattle.sb_rest.proofs.form.next_range.Goals as goal

pub returns-then-is_empty-clause-range : goal.returns-then-is_empty-clause-range
returns-then-is_empty-clause-range c = json-nil _ (search rules)

pub returns-clause-range : goal.returns-clause-range
returns-clause-range c = json_cut _ _ _ c.cut.ensures.before c.cut.ensures.after
