use Rattle.std.proofs.Common.{◌≡◌, ◌+◌, ◌-◌, ◌++◌}
use Rattle.sb_amqp.specs.Values.{joined}
use Rattle.sb_amqp.specs.Written.{fields}
use Rattle.sb_amqp.proofs.write.put_fields.Given as goal

-- so far before what is left gives all
abbrev pub invariant-loop-before : goal.invariant-loop-before
invariant-loop-before l = l.out.items ++ joined (fields l.sys (l.before + 1) (l.count - l.before)) ≡ l.fn.out.items ++ joined (fields l.sys 1 l.count)
