use Rattle.std.proofs.Common.{◌≡◌}
use Rattle.serde_json.specs.View.{members_view}
use Rattle.sb_rest.specs.Batches.{with_members}
use Rattle.sb_rest.proofs.batch.gather.Given as goal

-- those that are left, put into what is there, give all
abbrev pub invariant-loop-name : goal.invariant-loop-name
invariant-loop-name l = with_members (members_view l.name-iterator) l.props ≡ with_members (members_view l.members.entries) l.initial.props
