use Rattle.std.proofs.Common.{◌≡◌, ◌-◌}
use Rattle.sb_amqp.specs.Reading.{are_values}
use Rattle.sb_amqp.proofs.taken.are_values.Given as goal

-- what is left and the values that are left to find
abbrev pub invariant-loop : goal.invariant-loop
invariant-loop l = are_values (l.count - l.counter) l.rest ≡ are_values l.count l.bytes
