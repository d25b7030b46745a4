use Rattle.std.proofs.Common.{[], refl, sym, ap, subst, arith, length}
use Rattle.std.specs.Prelude.{IsTrue}
use Rattle.sb_journal.specs.Crashes.{IsFilled}
use Rattle.sb_journal.specs.Text.{head}
use Rattle.sb_journal.proofs.Choices.{not_created}
use Rattle.sb_journal.proofs.Filling as filling
use Rattle.sb_journal.proofs.Heads.{length-head}
use Rattle.sb_journal.proofs.Moments.{runs_on, weaker_moments}
use Rattle.sb_journal.proofs.rotating.begin_file.Goals as goal

pub fill_on-requires-clause-place : goal.fill_on-requires-clause-place
fill_on-requires-clause-place g c honest =
    let honest_0 = subst IsTrue c.clear.ensures.honesty honest in
    omega (arith, ap length (c.in_ok-clear.ensures.ok honest_0).seen_is)

pub returns-in_err-fill_on-clause-any_moment : goal.returns-in_err-fill_on-clause-any_moment
returns-in_err-fill_on-clause-any_moment g c honest aside =
    let honest_1 = subst IsTrue (sym c.clear.ensures.honesty) honest in
    runs_on _ _ _ _ _ _ (c.clear.ensures.any_moment honest aside) (weaker_moments _ _ _ filling.IsHidden filling.IsNone not_created (c.fill_on.ensures.any_moment [] honest_1 (c.in_ok-clear.ensures.ok honest)))

pub returns-clause-any_moment : goal.returns-clause-any_moment
returns-clause-any_moment g c honest aside =
    let honest_1 = subst IsTrue (sym c.clear.ensures.honesty) honest in
    runs_on _ _ _ _ _ _ (c.clear.ensures.any_moment honest aside) (weaker_moments _ _ _ filling.IsHidden filling.IsNone not_created (c.fill_on.ensures.any_moment [] honest_1 (c.in_ok-clear.ensures.ok honest)))

pub returns-clause-ok : goal.returns-clause-ok
returns-clause-ok g c honest =
    let honest_1 = subst IsTrue (sym c.clear.ensures.honesty) honest in
    let text = head c.args.salt c.args.generation c.args.first c.args.base_length in
    let shown = filling.head_front _ _ text c.up_to.ensures c.head_bytes-head.ensures (length-head _ _ _ _) in
    subst (λ l. IsFilled (g.D.Disk.held c.fill_on.new.disk) l) shown (c.in_ok-fill_on.ensures.ok [] honest_1 (c.in_ok-clear.ensures.ok honest) refl)

pub returns-clause-place : goal.returns-clause-place
returns-clause-place g c honest =
    let honest_1 = subst IsTrue (sym c.clear.ensures.honesty) honest in
    let text = head c.args.salt c.args.generation c.args.first c.args.base_length in
    let shown = filling.head_front _ _ text c.up_to.ensures c.head_bytes-head.ensures (length-head _ _ _ _) in
    omega (arith, c.in_ok-fill_on.ensures.place honest_1, ap length shown, length-head c.args.salt c.args.generation c.args.first c.args.base_length)
