-- Subscriptions in the order of their names.
use Rattle.std.specs.Prelude.{◌≡◌, false, List}
use Rattle.sb_machine.specs.Each.{Pairs}
use Rattle.sb_machine.specs.Names.{is_before}
use Rattle.sb_machine.specs.Visits.{own_name}
use Rattle.sb_machine.specs.declared.state.Listed.{Listed}

-- none stands behind one of a later name
abbrev pub AreByName : List Listed → Type 0
AreByName es = Pairs (λ a b. is_before (own_name b) (own_name a) ≡ false) es
