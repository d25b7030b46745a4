use Rattle.std.proofs.Common.{◌≡◌, ◌*◌, ◌+◌, ◌-◌, ◌≤◌, map}
use Rattle.std.specs.List.{fold}
use Rattle.sb_machine.specs.Visits.{with_next, subscriptions_of}
use Rattle.sb_entities.specs.ByHash.{span}
use Rattle.sb_entities.specs.Names.{AreByName}
use Rattle.sb_entities.specs.Stores.{entities_in}
use Rattle.sb_entities.proofs.Walking.{under_from}
use Rattle.sb_entities.proofs.finding.subscriptions_of.Given as goal

-- those found so far stand by name, and with those still to be found they are all
abbrev pub invariant-walk : goal.invariant-walk
invariant-walk l = record {
  found : fold with_next (map (λ e. e.now) l.found.items) (under_from l.topic l.hash l.from (entities_in l.rows)) ≡ subscriptions_of (map (λ e. e.about) (entities_in l.rows)) l.topic;
  order : AreByName (map (λ e. e.now) l.found.items);
  within : l.hash * span ≤ l.from;
}

abbrev pub decreases-walk : goal.decreases-walk
decreases-walk l = l.hash * span + span - l.from
