use Rattle.std.proofs.Common.{refl}
use Rattle.serde_json.proofs.OnLiterals.{serde_json_on_literals}
use Rattle.sb_client.specs.Replies.{refuses}
use Rattle.sb_client.proofs.worked.worked_replies.Goals as goal

pub returns-clause-done : goal.returns-clause-done
unfolding serde_json_on_literals refuses
returns-clause-done c = refl

pub returns-clause-kept : goal.returns-clause-kept
unfolding serde_json_on_literals refuses
returns-clause-kept c = refl

pub returns-clause-missing : goal.returns-clause-missing
unfolding serde_json_on_literals refuses
returns-clause-missing c = refl

pub returns-clause-failed : goal.returns-clause-failed
unfolding serde_json_on_literals refuses
returns-clause-failed c = refl

pub returns-clause-unknown : goal.returns-clause-unknown
unfolding serde_json_on_literals refuses
returns-clause-unknown c = refl
