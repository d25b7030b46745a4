use Rattle.std.proofs.Common.{◌≡◌, drop}
use Rattle.serde_json.specs.Data.{no_members}
use Rattle.serde_json.specs.View.{members_view}
use Rattle.sb_lines.specs.Shown.{with_properties}
use Rattle.sb_lines.proofs.shown.properties_value.Given as goal

-- those that are left, put into what is there, give all
abbrev pub invariant-loop-property : goal.invariant-loop-property
invariant-loop-property l = with_properties (members_view l.members.entries) (drop l.property-index l.properties) ≡ with_properties no_members l.properties
