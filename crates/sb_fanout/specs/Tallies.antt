-- What has come of a message under way.
use Rattle.std.specs.Prelude.{◌≡◌, ℕ, ◌+◌, List, [], ◌∷◌, ◌++◌, Option, Some, Result, IfOk}
use Rattle.std.specs.List.{fold}
use Rattle.sb_machine.specs.Delivery.{visit_change, visit_key}
use Rattle.sb_machine.specs.Leaves.{seq_or}
use Rattle.sb_machine.specs.Visits.{Visit}
use Rattle.sb_machine.specs.declared.change.Change.{Change}
use Rattle.sb_fanout.specs.Lasts.{Given, given_in, raised}
use Rattle.sb_fanout.specs.declared.tally.Tally.{Tally}

-- the numbers given, the message's EnqueuedSequenceNumber and the changes
pub record Told : Type 0 where
  pub given : Given
  pub seq : Option ℕ
  pub changes : List Change

-- what a message under way says of itself in memory
abbrev pub told : Tally → Told
told y = record { given = given_in y.lasts; seq = y.seq; changes = y.changes }

-- one visit more; `last` are the last numbers where the plan begins
abbrev pub visited : Given → Told → Visit → Told
visited last y v = record {
  given = raised (visit_key v) y.given;
  seq = Some (seq_or y.seq (last (visit_key v) + y.given (visit_key v) + 1));
  changes = y.changes ++ visit_change y.seq v ∷ [];
}

-- visits more, one after another
abbrev pub all_visited : Given → Told → List Visit → Told
all_visited last y vs = fold (visited last) y vs

-- the visits were made, or memory was wanting
abbrev pub Visits : {E : Type 0} → Given → Tally → List Visit → Result Tally E → Type 0
Visits last y vs result = IfOk result (λ after. told after ≡ all_visited last (told y) vs)
