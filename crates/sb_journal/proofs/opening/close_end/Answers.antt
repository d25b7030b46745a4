use Rattle.std.proofs.Common.{sym, ◌∙◌, subst}
use Rattle.std.specs.Prelude.{IsTrue}
use Rattle.sb_journal.proofs.Ending as ending
use Rattle.sb_journal.proofs.opening.close_end.Goals as goal

pub returns-then-closed-clause-any_moment : goal.returns-then-closed-clause-any_moment
returns-then-closed-clause-any_moment g c f honest spells end_is =
    ending.end_starts f (g.D.Disk.held c.args.disk.now).seen c.args.end spells end_is _ _ (c.requires.held honest)

pub returns-in_err-write_at-clause-any_moment : goal.returns-in_err-write_at-clause-any_moment
returns-in_err-write_at-clause-any_moment g c f honest spells end_is =
    let unclosed = sym (c.requires.closed honest) ∙ c.if-closed.false in
    ending.end_fails f (g.D.Disk.held c.args.disk.now).seen c.args.end spells end_is _ _ (c.requires.held honest) unclosed _ _ (c.in_err-write_at.ensures.err honest)

pub returns-in_err-sync-clause-any_moment : goal.returns-in_err-sync-clause-any_moment
returns-in_err-sync-clause-any_moment g c f honest spells end_is =
    let honest_1 = subst IsTrue (sym c.write_at.ensures.honesty) honest in
    let unclosed = sym (c.requires.closed honest) ∙ c.if-closed.false in
    let failed = c.in_err-sync.ensures.err honest_1 in
    ending.end_not_safe f (g.D.Disk.held c.args.disk.now).seen c.args.end spells end_is _ _ (c.requires.held honest) unclosed _ _ (c.in_ok-write_at.ensures.ok honest) _ _ failed.0 failed.1

pub returns-clause-any_moment : goal.returns-clause-any_moment
returns-clause-any_moment g c f honest spells end_is =
    let honest_1 = subst IsTrue (sym c.write_at.ensures.honesty) honest in
    let unclosed = sym (c.requires.closed honest) ∙ c.if-closed.false in
    ending.end_safe f (g.D.Disk.held c.args.disk.now).seen c.args.end spells end_is _ _ (c.requires.held honest) unclosed _ _ (c.in_ok-write_at.ensures.ok honest) _ _ (c.in_ok-sync.ensures.ok honest_1)
