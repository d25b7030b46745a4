use Rattle.std.proofs.Common.{sym, subst}
use Rattle.std.specs.Prelude.{IsTrue}
use Rattle.sb_journal.proofs.Filling as filling
use Rattle.sb_journal.proofs.rotating.open_file.Goals as goal

pub returns-in_err-write_at-clause-any_moment : goal.returns-in_err-write_at-clause-any_moment
returns-in_err-write_at-clause-any_moment g c text honest filled at =
    filling.end_fails text _ _ filled c.args.place c.requires.behind at _ _ (c.in_err-write_at.ensures.err honest)

pub returns-in_err-sync-clause-any_moment : goal.returns-in_err-sync-clause-any_moment
returns-in_err-sync-clause-any_moment g c text honest filled at =
    let honest_1 = subst IsTrue (sym c.write_at.ensures.honesty) honest in
    let same = c.in_err-sync.ensures.err honest_1 in
    filling.not_safe text _ _ filled c.args.place c.requires.behind at _ _ (c.in_ok-write_at.ensures.ok honest) _ _ same.0 same.1

pub returns-in_err-write_at-2-clause-any_moment : goal.returns-in_err-write_at-2-clause-any_moment
returns-in_err-write_at-2-clause-any_moment g c text honest filled at =
    let honest_1 = subst IsTrue (sym c.write_at.ensures.honesty) honest in
    let honest_2 = subst IsTrue (sym c.sync.ensures.honesty) honest_1 in
    filling.open_fails text _ _ filled c.args.place c.requires.behind at _ _ (c.in_ok-write_at.ensures.ok honest) _ _ (c.in_ok-sync.ensures.ok honest_1) _ _ (c.in_err-write_at-2.ensures.err honest_2)

pub returns-in_err-sync-2-clause-any_moment : goal.returns-in_err-sync-2-clause-any_moment
returns-in_err-sync-2-clause-any_moment g c text honest filled at =
    let honest_1 = subst IsTrue (sym c.write_at.ensures.honesty) honest in
    let honest_2 = subst IsTrue (sym c.sync.ensures.honesty) honest_1 in
    let honest_3 = subst IsTrue (sym c.write_at-2.ensures.honesty) honest_2 in
    let same = c.in_err-sync-2.ensures.err honest_3 in
    filling.open_not_safe text _ _ filled c.args.place c.requires.behind at _ _ (c.in_ok-write_at.ensures.ok honest) _ _ (c.in_ok-sync.ensures.ok honest_1) _ _ (c.in_ok-write_at-2.ensures.ok honest_2) _ _ same.0 same.1

pub returns-clause-any_moment : goal.returns-clause-any_moment
returns-clause-any_moment g c text honest filled at =
    let honest_1 = subst IsTrue (sym c.write_at.ensures.honesty) honest in
    let honest_2 = subst IsTrue (sym c.sync.ensures.honesty) honest_1 in
    let honest_3 = subst IsTrue (sym c.write_at-2.ensures.honesty) honest_2 in
    filling.open_safe text _ _ filled c.args.place c.requires.behind at _ _ (c.in_ok-write_at.ensures.ok honest) _ _ (c.in_ok-sync.ensures.ok honest_1) _ _ (c.in_ok-write_at-2.ensures.ok honest_2) _ _ (c.in_ok-sync-2.ensures.ok honest_3)

pub returns-clause-ok : goal.returns-clause-ok
returns-clause-ok g c text honest filled at =
    let honest_1 = subst IsTrue (sym c.write_at.ensures.honesty) honest in
    let honest_2 = subst IsTrue (sym c.sync.ensures.honesty) honest_1 in
    let honest_3 = subst IsTrue (sym c.write_at-2.ensures.honesty) honest_2 in
    filling.opened_is text _ _ filled c.args.place c.requires.behind at _ _ (c.in_ok-write_at.ensures.ok honest) _ _ (c.in_ok-sync.ensures.ok honest_1) _ _ (c.in_ok-write_at-2.ensures.ok honest_2) _ _ (c.in_ok-sync-2.ensures.ok honest_3)
