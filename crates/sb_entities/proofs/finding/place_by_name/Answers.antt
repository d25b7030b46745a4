use Rattle.std.proofs.Common.{ℕ, List, Bor, ap, ◌∙◌}
use Rattle.std.specs.List.{prefix_len}
use Rattle.sb_machine.specs.Names.{is_before}
use Rattle.sb_machine.specs.Visits.{own_name}
use Rattle.sb_machine.specs.declared.state.Listed.{Listed}
use Rattle.sb_entities.proofs.finding.place_by_name.Goals as goal

pub returns-clause-value : goal.returns-clause-value
returns-clause-value c = c.before_name.ensures.value ∙ ap (λ (n : List ℕ). prefix_len (λ (q : Bor Listed). is_before (own_name q.now) n) c.args.found.now) c.own_name.ensures
