use Rattle.std.proofs.Common.{◌≡◌, map, drop}
use Rattle.std.specs.List.{list_any}
use Rattle.httparse.specs.Spans.{header_bytes}
use Rattle.sb_rest.specs.Callers.{is_foreign_field}
use Rattle.sb_rest.proofs.access.has_foreign.Given as goal

-- none so far
abbrev pub invariant-loop-line : goal.invariant-loop-line
invariant-loop-line l = list_any (is_foreign_field l.hosts) (map (header_bytes l.text) (drop l.line-index l.lines)) ≡ list_any (is_foreign_field l.hosts) (map (header_bytes l.text) l.lines)
