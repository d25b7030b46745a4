use Rattle.std.proofs.Common.{◌≡◌, ◌++◌, map, drop}
use Rattle.std.specs.List.{flat_map}
use Rattle.sb_http.specs.Responses.{field_in}
use Rattle.sb_rest.specs.Shown.{property_fields}
use Rattle.sb_rest.proofs.field.push_properties.Given as goal

-- so far before what is left gives all
abbrev pub invariant-loop-property : goal.invariant-loop-property
invariant-loop-property l = map field_in l.headers.items ++ flat_map property_fields (drop l.property-index l.properties) ≡ map field_in l.fn.headers.items ++ flat_map property_fields l.properties
