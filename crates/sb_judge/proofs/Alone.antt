-- The first bad field of an act that no client numbered.
use Rattle.std.proofs.Common.{◌≡◌, refl, ap, Bool, Some, None}
use Rattle.std.specs.Prelude.{is_none}
use Rattle.sb_machine.specs.Fields.{Key, bad_field, bad_in_act, first_some}
use Rattle.sb_machine.specs.declared.call.Act.{Act}

first_alone : (a : Key) → first_some a None ≡ a
first_alone None = refl
first_alone (Some key) = refl

pub alone : (is_via : Bool) (act : Act) → is_none (bad_field is_via act None) ≡ is_none (bad_in_act is_via act)
alone is_via act = ap is_none (first_alone (bad_in_act is_via act))
