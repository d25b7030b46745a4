use Rattle.std.proofs.Common.{◌≡◌, map, drop}
use Rattle.httparse.specs.Spans.{header_bytes}
use Rattle.sb_rest.specs.Responses.{host_in}
use Rattle.sb_rest.proofs.response.host_in.Given as goal

-- no Host line so far
abbrev pub invariant-loop-line : goal.invariant-loop-line
invariant-loop-line l = host_in (map (header_bytes l.text) (drop l.line-index l.lines)) ≡ host_in (map (header_bytes l.text) l.lines)
