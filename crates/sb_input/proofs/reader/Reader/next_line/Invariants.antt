use Rattle.std.proofs.Common.{◌≡◌, ◌≤◌, ◌<◌, ◌+◌, ◌++◌, ℕ, List, length, Option}
use Rattle.sb_input.specs.Limits.{max_input}
use Rattle.sb_input.specs.Lines.{NoFeed}
use Rattle.sb_input.specs.PartialLines.{StandsFor}
use Rattle.sb_input.specs.Readers.{pending_of, work_of, IsAt}
use Rattle.sb_input.proofs.reader.Reader.next_line.Given as goal

-- a part of the line was read, and what is pending stands behind it
abbrev pub invariant-pieces : goal.invariant-pieces
invariant-pieces g l = record {
  more : List ℕ;
  line : List ℕ;
  stands : StandsFor l.partial line;
  no_feed : NoFeed line;
  whole : pending_of l.fn.self ++ more ≡ line ++ pending_of l.self;
  at : (start : Option (List ℕ)) (input : List ℕ) → IsAt start input (g.S.Source.left l.fn.source) l.fn.self → IsAt start (input ++ more) (g.S.Source.left l.source) l.self;
  work : work_of l.self + length line ≤ work_of l.fn.self;
  fits : l.self.taken < max_input;
  count : g.S.Source.count l.source ≡ g.S.Source.count l.fn.source;
}

abbrev pub decreases-pieces : goal.decreases-pieces
decreases-pieces g l = work_of l.self
