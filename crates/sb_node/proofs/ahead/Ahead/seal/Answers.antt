use Rattle.std.proofs.Common.{refl}
use Rattle.sb_engine.specs.Engines.{engine_state}
use Rattle.sb_recorder.proofs.Beside.{no_account}
use Rattle.sb_node.specs.Ahead.{ahead_journal}
use Rattle.sb_node.proofs.Accounts.{failed_account, quiet_account}
use Rattle.sb_node.proofs.Staged.{sealed_is, sealed_none, sealing_leads, staged_leads}
use Rattle.sb_node.proofs.ahead.Ahead.seal.Goals as goal

pub returns-then-self-eq0-clause-sealed : goal.returns-then-self-eq0-clause-sealed
returns-then-self-eq0-clause-sealed g c file events ahead = let a = c.args.self.now in sealed_none (ahead_journal a) a.last a.staged file events (engine_state a.engine) c.if-self-eq0.true ahead

pub returns-then-self-eq0-clause-any_moment : goal.returns-then-self-eq0-clause-any_moment
returns-then-self-eq0-clause-any_moment g c file events s ahead leads = let a = c.args.self.now in staged_leads (ahead_journal a) a.last a.staged file events (engine_state a.engine) s ahead leads

pub returns-then-self-eq0-clause-account : goal.returns-then-self-eq0-clause-account
returns-then-self-eq0-clause-account g c = no_account (ahead_journal c.args.self.now) c.requires.running

pub returns-in_default-clause-account : goal.returns-in_default-clause-account
returns-in_default-clause-account g c =
    failed_account (ahead_journal c.args.self.now) c.seal_events.new.self.journal c.seal_events.ensures.later c.seal_events.ensures.honesty c.in_default.ensures.failed c.in_default.ensures.cause

pub returns-in_default-clause-any_moment : goal.returns-in_default-clause-any_moment
returns-in_default-clause-any_moment g c file events s ahead leads =
    let a = c.args.self.now in
    sealing_leads (ahead_journal a) c.seal_events.new.self.journal a.last a.staged file events (engine_state a.engine) s ahead leads (c.seal_events.ensures.any_moment file ahead.staged ahead.holds)

pub returns-clause-account : goal.returns-clause-account
returns-clause-account g c =
    quiet_account (ahead_journal c.args.self.now) c.seal_events.new.self.journal c.seal_events.ensures.later c.seal_events.ensures.honesty c.in-Ok.ensures.running c.in-Ok.ensures.quiet

pub returns-clause-any_moment : goal.returns-clause-any_moment
returns-clause-any_moment g c file events s ahead leads =
    let a = c.args.self.now in
    sealing_leads (ahead_journal a) c.seal_events.new.self.journal a.last a.staged file events (engine_state a.engine) s ahead leads (c.seal_events.ensures.any_moment file ahead.staged ahead.holds)

pub returns-clause-sealed : goal.returns-clause-sealed
returns-clause-sealed g c file events ahead =
    let a = c.args.self.now in
    sealed_is (ahead_journal a) c.seal_events.new.self.journal a.last a.staged c.saturating_add-self.result file events (engine_state a.engine) (engine_state a.engine) ahead c.saturating_add-self.ensures refl (c.in-Ok.ensures.sealed file ahead.staged ahead.holds)
