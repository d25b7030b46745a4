use Rattle.std.proofs.Common.{◌≡◌, map, drop}
use Rattle.std.specs.Prelude.{fold}
use Rattle.httparse.specs.Spans.{header_bytes}
use Rattle.sb_http.specs.Fields.{with_line, stated_by}
use Rattle.sb_http.proofs.fields.stated_by.Given as goal

-- what was said so far and the lines that are left say what all lines say
abbrev pub invariant-loop-line : goal.invariant-loop-line
invariant-loop-line l = fold with_line l.so_far (map (header_bytes l.text) (drop l.line-index l.lines)) ≡ stated_by (map (header_bytes l.text) l.lines)
