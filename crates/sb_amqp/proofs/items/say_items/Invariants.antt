use Rattle.std.proofs.Common.{◌≡◌, ◌+◌, ◌≤◌, ℕ, List, [], length}
use Rattle.sb_amqp.specs.Meaning.{items_say}
use Rattle.sb_amqp.specs.Values.{joined, AreValues}
use Rattle.sb_amqp.proofs.Left.{ItemsLeft}
use Rattle.sb_amqp.proofs.items.say_items.Given as goal

-- what is left says the same of the message so far
abbrev pub invariant-loop-value : goal.invariant-loop-value
invariant-loop-value l = record {
  within : l.index + length l.rest ≤ length l.items;
  says : (vs : List (List ℕ)) → AreValues vs → l.items ≡ joined vs → ItemsLeft l.code l.index l.before l.draft l.rest (length l.behind) (items_say l.code 0 [] l.fn.draft vs (length l.behind));
}

abbrev pub decreases-loop-value : goal.decreases-loop-value
decreases-loop-value l = length l.rest
