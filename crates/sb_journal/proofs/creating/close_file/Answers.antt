use Rattle.std.proofs.Common.{[], ◌∷◌, refl, sym, subst}
use Rattle.std.specs.Prelude.{IsTrue}
use Rattle.sb_outside.specs.Held.{touched, overwritten}
use Rattle.sb_journal.proofs.Moments.{stays, Moves_from, MayMove_from}
use Rattle.sb_journal.proofs.Shut as shut
use Rattle.sb_journal.proofs.creating.close_file.Goals as goal

pub returns-in_err-has_closed_gate-clause-any_moment : goal.returns-in_err-has_closed_gate-clause-any_moment
returns-in_err-has_closed_gate-clause-any_moment g c new honest at known some =
    let same = c.has_closed_gate.ensures.same honest in
    stays _ _ _ _ _ _ (shut.closing_starts _ new known some _ _ at refl) same.1 same.0

pub returns-then-branch-clause-any_moment : goal.returns-then-branch-clause-any_moment
returns-then-branch-clause-any_moment g c new honest at known some =
    let same = c.has_closed_gate.ensures.same honest in
    stays _ _ _ _ _ _ (shut.closing_starts _ new known some _ _ at refl) same.1 same.0

pub returns-in_err-write_at-clause-any_moment : goal.returns-in_err-write_at-clause-any_moment
returns-in_err-write_at-clause-any_moment g c new honest at known some =
    let same = c.has_closed_gate.ensures.same honest in
    let honest_1 = subst IsTrue (sym c.has_closed_gate.ensures.honesty) honest in
    let off = c.in_ok-has_closed_gate.ensures.not honest c.if-branch.false in
    shut.closing_fails _ new known some _ _ at refl off _ _ (MayMove_from _ _ _ _ _ _ (λ h. touched h 0 1) same.1 same.0 (c.in_err-write_at.ensures.err honest_1))

pub returns-in_err-sync-clause-any_moment : goal.returns-in_err-sync-clause-any_moment
returns-in_err-sync-clause-any_moment g c new honest at known some =
    let same = c.has_closed_gate.ensures.same honest in
    let honest_1 = subst IsTrue (sym c.has_closed_gate.ensures.honesty) honest in
    let honest_2 = subst IsTrue (sym c.write_at.ensures.honesty) honest_1 in
    let off = c.in_ok-has_closed_gate.ensures.not honest c.if-branch.false in
    let first = Moves_from _ _ _ _ _ _ (λ h. touched h 0 1 (overwritten h.seen 0 (0 ∷ []))) same.1 same.0 (c.in_ok-write_at.ensures.ok honest_1) in
    let failed = c.in_err-sync.ensures.err honest_2 in
    stays _ _ _ _ _ _ (shut.closing_done _ new known some _ _ at refl off _ _ first) failed.0 failed.1

pub returns-clause-any_moment : goal.returns-clause-any_moment
returns-clause-any_moment g c new honest at known some =
    let same = c.has_closed_gate.ensures.same honest in
    let honest_1 = subst IsTrue (sym c.has_closed_gate.ensures.honesty) honest in
    let honest_2 = subst IsTrue (sym c.write_at.ensures.honesty) honest_1 in
    let off = c.in_ok-has_closed_gate.ensures.not honest c.if-branch.false in
    let first = Moves_from _ _ _ _ _ _ (λ h. touched h 0 1 (overwritten h.seen 0 (0 ∷ []))) same.1 same.0 (c.in_ok-write_at.ensures.ok honest_1) in
    shut.closed_rest _ new known some _ _ at refl off _ _ first _ _ (c.in_ok-sync.ensures.ok honest_2)
