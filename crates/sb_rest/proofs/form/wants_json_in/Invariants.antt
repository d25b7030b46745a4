use Rattle.std.proofs.Common.{◌≡◌, map, drop}
use Rattle.httparse.specs.Spans.{header_bytes}
use Rattle.sb_rest.specs.Forms.{wants_json}
use Rattle.sb_rest.proofs.form.wants_json_in.Given as goal

-- none so far
abbrev pub invariant-loop-line : goal.invariant-loop-line
invariant-loop-line l = wants_json (map (header_bytes l.text) (drop l.line-index l.lines)) ≡ wants_json (map (header_bytes l.text) l.lines)
