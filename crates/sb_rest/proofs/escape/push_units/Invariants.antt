use Rattle.std.proofs.Common.{◌≡◌, ◌++◌, drop, flat_map}
use Rattle.sb_rest.specs.Escapes.{unit_escape}
use Rattle.sb_rest.proofs.escape.push_units.Given as goal

-- so far before what is left gives all
abbrev pub invariant-loop-unit : goal.invariant-loop-unit
invariant-loop-unit l = l.out.items ++ flat_map unit_escape (drop l.unit-index l.units) ≡ l.fn.out.items ++ flat_map unit_escape l.units
