use Rattle.std.proofs.Common.{◌≡◌, ◌++◌, drop, map}
use Rattle.std.specs.List.{flat_map}
use Rattle.sb_http.specs.Responses.{field_in, field_line}
use Rattle.sb_http.proofs.write.push_headers.Given as goal

-- what was written so far and the lines that are left are all lines
abbrev pub invariant-loop-header : goal.invariant-loop-header
invariant-loop-header l = l.out.items ++ flat_map field_line (map field_in (drop l.header-index l.headers)) ≡ l.fn.out.items ++ flat_map field_line (map field_in l.headers)
