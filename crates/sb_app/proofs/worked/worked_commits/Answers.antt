use Rattle.std.proofs.Common.{◌-◌, ℕ, if◌then◌else◌, ap₂}
use Rattle.sb_machine.specs.Rows.{refuses, answers, is_beyond}
use Rattle.sb_machine.specs.Transactions.{commit_changes}
use Rattle.sb_machine.specs.declared.reply.Refusal.TheVariants.{QuotaExceeded}
use Rattle.sb_machine.specs.declared.reply.Reply.TheVariants.{Committed}
use Rattle.sb_app.proofs.worked.worked_commits.Goals as goal

pub returns-clause-past : goal.returns-clause-past
returns-clause-past c s t x e before later = ap₂ (λ (a b : ℕ). if is_beyond a b then refuses (QuotaExceeded a (b - a)) else answers Committed (commit_changes t e x s)) before later

pub returns-clause-net : goal.returns-clause-net
returns-clause-net c s t x e before later = ap₂ (λ (a b : ℕ). if is_beyond a b then refuses (QuotaExceeded a (b - a)) else answers Committed (commit_changes t e x s)) before later
