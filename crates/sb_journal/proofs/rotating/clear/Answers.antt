use Rattle.std.proofs.Common.{[], ◌∷◌, ◌∙◌, ap, sym, subst, lit≤}
use Rattle.std.specs.Prelude.{IsTrue}
use Rattle.sb_outside.specs.Held.{at_rest}
use Rattle.sb_journal.proofs.Filling as filling
use Rattle.sb_journal.proofs.Moments.{runs_on}
use Rattle.sb_journal.proofs.Shut as shut
use Rattle.sb_journal.proofs.rotating.clear.Goals as goal

pub returns-in_err-sync-clause-any_moment : goal.returns-in_err-sync-clause-any_moment
returns-in_err-sync-clause-any_moment g c honest aside =
    let same = c.in_err-sync.ensures.err honest in
    filling.clear_not_safe _ _ aside _ _ same.0 same.1

pub returns-in_err-close_file-clause-any_moment : goal.returns-in_err-close_file-clause-any_moment
returns-in_err-close_file-clause-any_moment g c honest aside =
    let synced = c.in_ok-sync.ensures.ok honest in
    let honest_1 = subst IsTrue (sym c.sync.ensures.honesty) honest in
    let at = synced.now_is ∙ ap (λ h. at_rest h.seen) (sym synced.now_is) in
    filling.clear_on _ _ aside _ _ synced _ _ (c.close_file.ensures.any_moment (0 ∷ []) honest_1 at (filling.clear_known _ _ aside _ _ synced) (lit≤ tt))

pub returns-in_err-cut-clause-any_moment : goal.returns-in_err-cut-clause-any_moment
returns-in_err-cut-clause-any_moment g c honest aside =
    let synced = c.in_ok-sync.ensures.ok honest in
    let honest_1 = subst IsTrue (sym c.sync.ensures.honesty) honest in
    let honest_2 = subst IsTrue (sym c.close_file.ensures.honesty) honest_1 in
    let at = synced.now_is ∙ ap (λ h. at_rest h.seen) (sym synced.now_is) in
    let closed = c.close_file.ensures.any_moment (0 ∷ []) honest_1 at (filling.clear_known _ _ aside _ _ synced) (lit≤ tt) in
    let gate = shut.shut_of _ _ (c.in_ok-close_file.ensures.rest honest_1 at) (c.in_ok-close_file.ensures.ok honest_1) (c.in_ok-close_file.ensures.short honest_1) in
    filling.clear_on _ _ aside _ _ synced _ _ (runs_on _ _ _ _ _ _ closed (shut.shut_not_cut _ (0 ∷ []) _ _ _ _ gate 1 (lit≤ tt) (c.in_err-cut.ensures.err honest_2)))

pub returns-clause-any_moment : goal.returns-clause-any_moment
returns-clause-any_moment g c honest aside =
    let synced = c.in_ok-sync.ensures.ok honest in
    let honest_1 = subst IsTrue (sym c.sync.ensures.honesty) honest in
    let honest_2 = subst IsTrue (sym c.close_file.ensures.honesty) honest_1 in
    let at = synced.now_is ∙ ap (λ h. at_rest h.seen) (sym synced.now_is) in
    let closed = c.close_file.ensures.any_moment (0 ∷ []) honest_1 at (filling.clear_known _ _ aside _ _ synced) (lit≤ tt) in
    let gate = shut.shut_of _ _ (c.in_ok-close_file.ensures.rest honest_1 at) (c.in_ok-close_file.ensures.ok honest_1) (c.in_ok-close_file.ensures.short honest_1) in
    filling.clear_on _ _ aside _ _ synced _ _ (runs_on _ _ _ _ _ _ closed (shut.shut_cuts _ (0 ∷ []) _ _ _ _ gate 1 _ (lit≤ tt) (c.in_ok-cut.ensures.ok honest_2)).0)

pub returns-clause-ok : goal.returns-clause-ok
returns-clause-ok g c honest =
    let synced = c.in_ok-sync.ensures.ok honest in
    let honest_1 = subst IsTrue (sym c.sync.ensures.honesty) honest in
    let honest_2 = subst IsTrue (sym c.close_file.ensures.honesty) honest_1 in
    let at = synced.now_is ∙ ap (λ h. at_rest h.seen) (sym synced.now_is) in
    let gate = shut.shut_of _ _ (c.in_ok-close_file.ensures.rest honest_1 at) (c.in_ok-close_file.ensures.ok honest_1) (c.in_ok-close_file.ensures.short honest_1) in
    filling.cleared (g.D.Disk.held c.sync.new.self).seen _ _ _ _ gate (c.in_ok-close_file.ensures.ok honest_1) (c.in_ok-cut.ensures.ok honest_2)
