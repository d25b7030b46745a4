use Rattle.std.proofs.Common.{◌≡◌, map, drop, option_map}
use Rattle.httparse.specs.Spans.{header_bytes}
use Rattle.sb_rest.specs.Repeats.{last_from, last_of}
use Rattle.sb_rest.proofs.repeat.last_of.Given as goal

-- what is left goes on from what was found
abbrev pub invariant-loop-line : goal.invariant-loop-line
invariant-loop-line l = last_from l.name (option_map (λ v. v.now) l.found) (map (header_bytes l.text) (drop l.line-index l.lines)) ≡ last_of l.name (map (header_bytes l.text) l.lines)
