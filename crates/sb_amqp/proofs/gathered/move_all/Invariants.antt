use Rattle.std.proofs.Common.{◌≡◌, ◌++◌, map, btree_map_len}
use Rattle.sb_amqp.specs.Gathering.{property_at}
use Rattle.sb_amqp.proofs.gathered.move_all.Given as goal

-- those that were moved, before those that are left, are all
abbrev pub invariant-moving : goal.invariant-moving
invariant-moving l = l.rows.items ++ map property_at l.by_name.entries ≡ l.initial.rows.items ++ map property_at l.initial.by_name.entries

abbrev pub decreases-moving : goal.decreases-moving
decreases-moving l = btree_map_len l.by_name
