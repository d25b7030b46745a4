use Rattle.std.proofs.Common.{◌≡◌, drop}
use Rattle.serde_json.specs.Data.{no_members}
use Rattle.serde_json.specs.View.{members_view}
use Rattle.sb_lines.specs.Shown.{with_texts}
use Rattle.sb_lines.proofs.shown.texts_value.Given as goal

-- those that are left, put into what is there, give all
abbrev pub invariant-loop-text : goal.invariant-loop-text
invariant-loop-text l = with_texts (members_view l.members.entries) (drop l.text-index l.texts) ≡ with_texts no_members l.texts
