-- What a name may be, by what it names.
use Rattle.std.specs.Prelude.{ℕ, List, Bool}
use Rattle.sb_machine.specs.Names.{is_name, is_short_name, is_rule_name}
use Rattle.sb_names.specs.declared.name.NameKind.{NameKind}
use Rattle.sb_names.specs.declared.name.NameKind.TheVariants.{Entity, Subscription, Rule}

-- what each kind may be named
abbrev pub is_name_of : NameKind → List ℕ → Bool
is_name_of Entity name = is_name name
is_name_of Subscription name = is_short_name name
is_name_of Rule name = is_rule_name name
