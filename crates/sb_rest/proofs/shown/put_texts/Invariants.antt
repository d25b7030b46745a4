use Rattle.std.proofs.Common.{◌≡◌, drop}
use Rattle.serde_json.specs.View.{members_view}
use Rattle.sb_rest.specs.Shown.{with_texts}
use Rattle.sb_rest.proofs.shown.put_texts.Given as goal

-- those that are left, put into what is there, give all
abbrev pub invariant-loop-text : goal.invariant-loop-text
invariant-loop-text l = with_texts (drop l.text-index l.texts) (members_view l.members.entries) ≡ with_texts l.texts (members_view l.fn.members.entries)
