use Rattle.std.proofs.Common.{◌≡◌, map, take}
use Rattle.serde_json.specs.View.{view}
use Rattle.sb_lines.specs.Views.{client_data}
use Rattle.sb_lines.proofs.views.clients_value.Given as goal

abbrev pub invariant-loop-client : goal.invariant-loop-client
invariant-loop-client l = map view l.items.items ≡ map client_data (take l.client-index l.clients)
