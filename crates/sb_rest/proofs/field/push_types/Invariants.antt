use Rattle.std.proofs.Common.{◌≡◌, ◌++◌, map, drop}
use Rattle.std.specs.List.{flat_map}
use Rattle.sb_http.specs.Responses.{field_in}
use Rattle.sb_rest.specs.Shown.{type_fields}
use Rattle.sb_rest.proofs.field.push_types.Given as goal

-- so far before what is left gives all
abbrev pub invariant-loop-text : goal.invariant-loop-text
invariant-loop-text l = map field_in l.headers.items ++ flat_map type_fields (drop l.text-index l.texts) ≡ map field_in l.fn.headers.items ++ flat_map type_fields l.texts
