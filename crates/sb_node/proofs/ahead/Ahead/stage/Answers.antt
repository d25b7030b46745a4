use Rattle.sb_recorder.proofs.Beside.{no_account}
use Rattle.sb_node.specs.Ahead.{ahead_journal}
use Rattle.sb_node.proofs.Accounts.{quiet_account, unstaged_account, unstaged_tells}
use Rattle.sb_node.proofs.ahead.Ahead.stage.Goals as goal

pub returns-in_default-clause-account : goal.returns-in_default-clause-account
returns-in_default-clause-account g c = no_account (ahead_journal c.args.self.now) c.requires.running

pub returns-in-Ok-stage-clause-account : goal.returns-in-Ok-stage-clause-account
returns-in-Ok-stage-clause-account g c =
    quiet_account (ahead_journal c.args.self.now) c.stage.new.self.journal c.stage.ensures.later c.stage.ensures.honesty c.in-Ok-stage.ensures.running c.in-Ok-stage.ensures.quiet

pub returns-in-Err-clause-account : goal.returns-in-Err-clause-account
returns-in-Err-clause-account g c =
    unstaged_account (ahead_journal c.args.self.now) c.stage.new.self.journal c.stage.ensures.later c.stage.ensures.honesty c.in-Err.refusal c.requires.running c.in-Err.ensures.refused

pub returns-in-Err-clause-failed : goal.returns-in-Err-clause-failed
returns-in-Err-clause-failed g c = unstaged_tells (ahead_journal c.args.self.now) c.stage.new.self.journal c.in-Err.refusal c.requires.running c.in-Err.ensures.refused
