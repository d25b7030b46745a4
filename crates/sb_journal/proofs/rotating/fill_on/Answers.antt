use Rattle.sb_journal.proofs.Filling as filling
use Rattle.sb_journal.proofs.rotating.fill_on.Goals as goal

pub returns-in_err-write_at-clause-any_moment : goal.returns-in_err-write_at-clause-any_moment
returns-in_err-write_at-clause-any_moment g c text honest filled =
    filling.fill_fails text _ _ filled _ _ c.args.place _ c.requires.behind (c.in_err-write_at.ensures.err honest)

pub returns-clause-any_moment : goal.returns-clause-any_moment
returns-clause-any_moment g c text honest filled =
    filling.fill_goes text _ _ filled _ _ c.args.place _ _ c.requires.behind (c.in_ok-write_at.ensures.ok honest)

pub returns-clause-ok : goal.returns-clause-ok
returns-clause-ok g c text honest filled at =
    filling.fill_holds text _ _ filled _ _ c.args.place c.args.bytes.now c.requires.behind at (c.in_ok-write_at.ensures.ok honest)
