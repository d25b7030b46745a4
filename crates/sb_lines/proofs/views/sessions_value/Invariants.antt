use Rattle.std.proofs.Common.{◌≡◌, map, take}
use Rattle.serde_json.specs.View.{view}
use Rattle.sb_lines.specs.Views.{session_data}
use Rattle.sb_lines.proofs.views.sessions_value.Given as goal

abbrev pub invariant-loop-session : goal.invariant-loop-session
invariant-loop-session l = map view l.items.items ≡ map session_data (take l.session-index l.sessions)
