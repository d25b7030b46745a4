use Rattle.std.proofs.Common.{◌≡◌, None, map, drop}
use Rattle.httparse.specs.Spans.{header_bytes}
use Rattle.sb_rest.specs.Callers.{shows_once}
use Rattle.sb_rest.proofs.access.shows_once.Given as goal

-- what is left goes on from what was found
abbrev pub invariant-loop-line : goal.invariant-loop-line
invariant-loop-line l = shows_once l.key l.found (map (header_bytes l.text) (drop l.line-index l.lines)) ≡ shows_once l.key None (map (header_bytes l.text) l.lines)
