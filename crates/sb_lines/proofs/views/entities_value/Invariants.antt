use Rattle.std.proofs.Common.{◌≡◌, map, take}
use Rattle.serde_json.specs.View.{view}
use Rattle.sb_lines.specs.Views.{entity_data}
use Rattle.sb_lines.proofs.views.entities_value.Given as goal

abbrev pub invariant-loop-entity : goal.invariant-loop-entity
invariant-loop-entity l = map view l.items.items ≡ map entity_data (take l.entity-index l.entities)
