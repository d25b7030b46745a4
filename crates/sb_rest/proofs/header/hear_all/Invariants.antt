use Rattle.std.proofs.Common.{◌≡◌, map, length}
use Rattle.std.specs.Prelude.{All}
use Rattle.httparse.specs.Spans.{header_bytes, IsHeaderWithin}
use Rattle.sb_rest.specs.Headers.{heard_all}
use Rattle.sb_rest.proofs.header.hear_all.Given as goal

-- what is left says the same of the draft so far
abbrev pub invariant-loop-line : goal.invariant-loop-line
invariant-loop-line l = record {
  same : heard_all (map (header_bytes l.fn.text) l.left) l.draft ≡ heard_all (map (header_bytes l.fn.text) l.fn.lines) l.fn.draft;
  within : All (IsHeaderWithin (length l.fn.text)) l.left;
}

abbrev pub decreases-loop-line : goal.decreases-loop-line
decreases-loop-line l = length l.left
