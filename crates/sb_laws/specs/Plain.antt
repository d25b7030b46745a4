-- What is listed of an entity, but for what its rules hold inside.
use Rattle.std.specs.Prelude.{◌≡◌, [], true, false, None}
use Rattle.sb_machine.specs.Descriptions.{bad_in_description, has_rules}
use Rattle.sb_machine.specs.Each.{Each, IsSorted}
use Rattle.sb_machine.specs.Fit.{is_kind}
use Rattle.sb_machine.specs.Names.{is_address, is_main, is_rule_name, is_before}
use Rattle.sb_machine.specs.declared.state.Listed.{Listed}

-- its address and its description are as asked for
pub record IsPlain (about : Listed) : Type 0 where
  pub address : is_address about.path ≡ true
  pub whole : is_main about.path.part ≡ true
  pub kind : is_kind about.kind about.path ≡ true
  pub described : bad_in_description about.kind about.description ≡ None

-- rules stand in order of name, on subscriptions alone
pub record IsRuled (about : Listed) : Type 0 where
  pub order : IsSorted (λ a b. is_before a.name b.name) about.rules
  pub names : Each (λ r. is_rule_name r.name ≡ true) about.rules
  pub none : has_rules about.kind ≡ false → about.rules ≡ []
