use Rattle.std.proofs.Common.{nat_lt, ap, ◌∙◌}
use Rattle.sb_judge.specs.Orders.{is_on}
use Rattle.sb_judge.proofs.Distinct.{strict}
use Rattle.sb_judge.proofs.locks.are_distinct.Goals as goal

pub returns : goal.returns
returns c =
    c.is_on.ensures
    ∙ ap (λ xs. is_on (λ a b. nat_lt a b) xs) c.as_slice.ensures.value
    ∙ strict c.args.locks.items c.sort_unstable.new.self.items c.sort_unstable.ensures.permutation c.sort_unstable.ensures.sorted
