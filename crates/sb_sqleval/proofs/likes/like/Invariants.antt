use Rattle.std.proofs.Common.{◌≡◌, ◌+◌, ◌*◌, ◌≤◌, length}
use Rattle.std.specs.Str.{chars}
use Rattle.sb_sqleval.specs.Places.{fits, is_open, IsMarked, IsWithin, turns_left}
use Rattle.sb_sqleval.proofs.likes.like.Given as goal

-- what is open now is what was asked; with the turns that may be left the count stays within that of the first places
abbrev pub invariant-turns : goal.invariant-turns
invariant-turns g l = record {
  same : is_open l.escape l.places ≡ fits l.escape l.pattern (chars l.text);
  marked : IsMarked l.escape l.places.ahead.now l.places.left.now l.places.mark;
  within : IsWithin (length (chars l.text)) (length (chars l.pattern)) l.places;
  counted : l.steps + turns_left (length (chars l.text)) (length (chars l.pattern)) l.places ≤ l.initial.steps + ((length (chars l.text) + 1) * (length (chars l.pattern) + 1) + length (chars l.pattern));
}

abbrev pub decreases-turns : goal.decreases-turns
decreases-turns g l = turns_left (length (chars l.text)) (length (chars l.pattern)) l.places
