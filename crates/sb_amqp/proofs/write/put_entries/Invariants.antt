use Rattle.std.proofs.Common.{◌≡◌, ◌++◌, drop}
use Rattle.std.specs.List.{flat_map}
use Rattle.sb_amqp.specs.Values.{joined}
use Rattle.sb_amqp.specs.Written.{entry}
use Rattle.sb_amqp.proofs.write.put_entries.Given as goal

-- so far before what is left gives all
abbrev pub invariant-loop-property : goal.invariant-loop-property
invariant-loop-property l = l.out.items ++ joined (flat_map entry (drop l.property-index l.props)) ≡ l.fn.out.items ++ joined (flat_map entry l.props)
