use Rattle.std.proofs.Common.{sym, ◌∙◌, subst}
use Rattle.std.specs.Prelude.{IsTrue}
use Rattle.sb_journal.proofs.Moments.{stays}
use Rattle.sb_journal.proofs.Shutting as aside
use Rattle.sb_journal.proofs.aside.shut_aside.Goals as goal

pub returns-then-not-unshut-clause-ok : goal.returns-then-not-unshut-clause-ok
returns-then-not-unshut-clause-ok g c honest at known = aside.rests_aside _ at (sym known ∙ c.if-not-unshut.true)

pub returns-then-not-unshut-clause-any_moment : goal.returns-then-not-unshut-clause-any_moment
returns-then-not-unshut-clause-any_moment g c honest at known = aside.shut_starts _ _ at

pub returns-in_err-write_at-clause-any_moment : goal.returns-in_err-write_at-clause-any_moment
returns-in_err-write_at-clause-any_moment g c honest at known = aside.shut_fails _ _ at (sym known ∙ c.if-not-unshut.false) _ _ (c.in_err-write_at.ensures.err honest)

pub returns-in_err-sync-clause-any_moment : goal.returns-in_err-sync-clause-any_moment
returns-in_err-sync-clause-any_moment g c honest at known =
    let failed = c.in_err-sync.ensures.err (subst IsTrue (sym c.write_at.ensures.honesty) honest) in
    stays _ _ _ _ _ _ (aside.shut_done _ _ at (sym known ∙ c.if-not-unshut.false) _ _ (c.in_ok-write_at.ensures.ok honest)) failed.0 failed.1

pub returns-clause-any_moment : goal.returns-clause-any_moment
returns-clause-any_moment g c honest at known =
    aside.shut_synced _ _ at (sym known ∙ c.if-not-unshut.false) _ _ (c.in_ok-write_at.ensures.ok honest) _ _ (c.in_ok-sync.ensures.ok (subst IsTrue (sym c.write_at.ensures.honesty) honest))

pub returns-clause-ok : goal.returns-clause-ok
returns-clause-ok g c honest at known =
    aside.shut_aside _ _ at (sym known ∙ c.if-not-unshut.false) _ _ (c.in_ok-write_at.ensures.ok honest) _ _ (c.in_ok-sync.ensures.ok (subst IsTrue (sym c.write_at.ensures.honesty) honest))
