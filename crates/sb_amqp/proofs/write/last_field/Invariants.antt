use Rattle.std.proofs.Common.{◌≡◌, drop}
use Rattle.std.specs.Prelude.{max}
use Rattle.sb_amqp.specs.Written.{last_field}
use Rattle.sb_amqp.proofs.write.last_field.Given as goal

-- the last one so far, and the last one of those that are left
abbrev pub invariant-loop-text : goal.invariant-loop-text
invariant-loop-text l = max l.last (last_field (drop l.text-index l.sys)) ≡ last_field l.sys
