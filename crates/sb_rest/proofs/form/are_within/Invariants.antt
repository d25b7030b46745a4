use Rattle.std.proofs.Common.{◌≡◌, ◌+◌, map, drop}
use Rattle.sb_http.specs.Responses.{field_in}
use Rattle.sb_rest.specs.Forms.{lines_length}
use Rattle.sb_rest.proofs.form.are_within.Given as goal

-- what is left for the lines that are left
abbrev pub invariant-loop-header : goal.invariant-loop-header
invariant-loop-header l = l.left + lines_length (map field_in l.headers) ≡ l.most + lines_length (map field_in (drop l.header-index l.headers))
