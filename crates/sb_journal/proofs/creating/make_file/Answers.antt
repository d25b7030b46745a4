use Rattle.std.proofs.Common.{◌≡◌, ℕ, List, [], ◌∷◌, ◌++◌, length, ap, sym, ◌∙◌, subst, arith, lit≤}
use Rattle.std.specs.Prelude.{IsTrue, max}
use Rattle.sb_outside.specs.Held.{overwritten, at_rest}
use Rattle.sb_journal.specs.Text.{head, new_bytes}
use Rattle.sb_journal.proofs.Making as making
use Rattle.sb_journal.proofs.Moments.{runs_on}
use Rattle.sb_journal.proofs.Shut as shut
use Rattle.sb_journal.proofs.creating.make_file.Goals as goal

pub returns-clause-ok : goal.returns-clause-ok
returns-clause-ok g c honest =
    let honest_1 = subst IsTrue (sym c.close_file.ensures.honesty) honest in
    let honest_2 = subst IsTrue (sym c.cut.ensures.honesty) honest_1 in
    let honest_3 = subst IsTrue (sym c.fill.ensures.honesty) honest_2 in
    let honest_4 = subst IsTrue (sym c.sync.ensures.honesty) honest_3 in
    let honest_5 = subst IsTrue (sym c.write_at.ensures.honesty) honest_4 in
    let base = c.args.base.now in
    let all = head c.args.salt c.args.generation c.args.first (length base) in
    let seen_1 = c.in_ok-fill.ensures.ok all honest_2 c.head_bytes-head.ensures in
    let seen_2 : (g.D.Disk.held c.sync.new.self).seen ≡ 0 ∷ (all ++ (base ++ 0 ∷ [])) = ap (λ h. h.seen) (c.in_ok-sync.ensures.ok honest_3).now_is ∙ seen_1 in
    let seen_3 = ap (λ h. h.seen) (c.in_ok-write_at.ensures.ok honest_4).now_is ∙ ap (λ (l : List ℕ). overwritten l 0 (1 ∷ [])) seen_2 ∙ making.file_opened c.args.salt c.args.generation c.args.first base in
    (c.in_ok-sync-2.ensures.ok honest_5).now_is ∙ ap at_rest seen_3

pub returns-in_err-cut-clause-any_moment : goal.returns-in_err-cut-clause-any_moment
returns-in_err-cut-clause-any_moment g c honest at known =
    let old = (g.D.Disk.held c.args.disk.now).seen in
    let new = new_bytes c.args.salt c.args.generation c.args.first c.args.base.now in
    let long = making.length-new_bytes c.args.salt c.args.generation c.args.first c.args.base.now in
    let closed = c.close_file.ensures.any_moment new honest at known (omega (arith, long)) in
    let honest_1 = subst IsTrue (sym c.close_file.ensures.honesty) honest in
    let shut_1 = shut.shut_of (max (length old) (length new)) _ (c.in_ok-close_file.ensures.rest honest at) (c.in_ok-close_file.ensures.ok honest) (omega (arith, c.in_ok-close_file.ensures.short honest, long)) in
    runs_on _ _ _ _ _ _ closed (shut.shut_not_cut old new _ _ _ _ shut_1 1 (lit≤ tt) (c.in_err-cut.ensures.err honest_1))

pub returns-in_err-fill-clause-any_moment : goal.returns-in_err-fill-clause-any_moment
returns-in_err-fill-clause-any_moment g c honest at known =
    let old = (g.D.Disk.held c.args.disk.now).seen in
    let new = new_bytes c.args.salt c.args.generation c.args.first c.args.base.now in
    let long = making.length-new_bytes c.args.salt c.args.generation c.args.first c.args.base.now in
    let closed = c.close_file.ensures.any_moment new honest at known (omega (arith, long)) in
    let honest_1 = subst IsTrue (sym c.close_file.ensures.honesty) honest in
    let shut_1 = shut.shut_of (max (length old) (length new)) _ (c.in_ok-close_file.ensures.rest honest at) (c.in_ok-close_file.ensures.ok honest) (omega (arith, c.in_ok-close_file.ensures.short honest, long)) in
    let honest_2 = subst IsTrue (sym c.cut.ensures.honesty) honest_1 in
    let cut = shut.shut_cuts old new _ _ _ _ shut_1 1 _ (lit≤ tt) (c.in_ok-cut.ensures.ok honest_1) in
    let filled = runs_on _ _ _ _ _ _ closed (runs_on _ _ _ _ _ _ cut.0 (c.fill.ensures.any_moment old new honest_2 cut.1 (omega (arith, long)))) in
    filled

pub returns-in_err-sync-clause-any_moment : goal.returns-in_err-sync-clause-any_moment
returns-in_err-sync-clause-any_moment g c honest at known =
    let old = (g.D.Disk.held c.args.disk.now).seen in
    let new = new_bytes c.args.salt c.args.generation c.args.first c.args.base.now in
    let long = making.length-new_bytes c.args.salt c.args.generation c.args.first c.args.base.now in
    let closed = c.close_file.ensures.any_moment new honest at known (omega (arith, long)) in
    let honest_1 = subst IsTrue (sym c.close_file.ensures.honesty) honest in
    let shut_1 = shut.shut_of (max (length old) (length new)) _ (c.in_ok-close_file.ensures.rest honest at) (c.in_ok-close_file.ensures.ok honest) (omega (arith, c.in_ok-close_file.ensures.short honest, long)) in
    let honest_2 = subst IsTrue (sym c.cut.ensures.honesty) honest_1 in
    let cut = shut.shut_cuts old new _ _ _ _ shut_1 1 _ (lit≤ tt) (c.in_ok-cut.ensures.ok honest_1) in
    let filled = runs_on _ _ _ _ _ _ closed (runs_on _ _ _ _ _ _ cut.0 (c.fill.ensures.any_moment old new honest_2 cut.1 (omega (arith, long)))) in
    let honest_3 = subst IsTrue (sym c.fill.ensures.honesty) honest_2 in
    let base = c.args.base.now in
    let all = head c.args.salt c.args.generation c.args.first (length base) ++ (base ++ 0 ∷ []) in
    let seen_3 = c.in_ok-fill.ensures.ok (head c.args.salt c.args.generation c.args.first (length base)) honest_2 c.head_bytes-head.ensures in
    let new_is : 1 ∷ all ≡ new = making.opened_text c.args.salt c.args.generation c.args.first base in
    let failed = c.in_err-sync.ensures.err honest_3 in
    shut.filled_fails old new all new_is _ _ _ filled seen_3 _ _ failed.0 failed.1

pub returns-in_err-write_at-clause-any_moment : goal.returns-in_err-write_at-clause-any_moment
returns-in_err-write_at-clause-any_moment g c honest at known =
    let old = (g.D.Disk.held c.args.disk.now).seen in
    let new = new_bytes c.args.salt c.args.generation c.args.first c.args.base.now in
    let long = making.length-new_bytes c.args.salt c.args.generation c.args.first c.args.base.now in
    let closed = c.close_file.ensures.any_moment new honest at known (omega (arith, long)) in
    let honest_1 = subst IsTrue (sym c.close_file.ensures.honesty) honest in
    let shut_1 = shut.shut_of (max (length old) (length new)) _ (c.in_ok-close_file.ensures.rest honest at) (c.in_ok-close_file.ensures.ok honest) (omega (arith, c.in_ok-close_file.ensures.short honest, long)) in
    let honest_2 = subst IsTrue (sym c.cut.ensures.honesty) honest_1 in
    let cut = shut.shut_cuts old new _ _ _ _ shut_1 1 _ (lit≤ tt) (c.in_ok-cut.ensures.ok honest_1) in
    let filled = runs_on _ _ _ _ _ _ closed (runs_on _ _ _ _ _ _ cut.0 (c.fill.ensures.any_moment old new honest_2 cut.1 (omega (arith, long)))) in
    let honest_3 = subst IsTrue (sym c.fill.ensures.honesty) honest_2 in
    let base = c.args.base.now in
    let all = head c.args.salt c.args.generation c.args.first (length base) ++ (base ++ 0 ∷ []) in
    let seen_3 = c.in_ok-fill.ensures.ok (head c.args.salt c.args.generation c.args.first (length base)) honest_2 c.head_bytes-head.ensures in
    let new_is : 1 ∷ all ≡ new = making.opened_text c.args.salt c.args.generation c.args.first base in
    let honest_4 = subst IsTrue (sym c.sync.ensures.honesty) honest_3 in
    let synced = c.in_ok-sync.ensures.ok honest_3 in
    shut.open_fails old new all new_is _ _ _ filled seen_3 _ _ synced _ _ (c.in_err-write_at.ensures.err honest_4)

pub returns-in_err-sync-2-clause-any_moment : goal.returns-in_err-sync-2-clause-any_moment
returns-in_err-sync-2-clause-any_moment g c honest at known =
    let old = (g.D.Disk.held c.args.disk.now).seen in
    let new = new_bytes c.args.salt c.args.generation c.args.first c.args.base.now in
    let long = making.length-new_bytes c.args.salt c.args.generation c.args.first c.args.base.now in
    let closed = c.close_file.ensures.any_moment new honest at known (omega (arith, long)) in
    let honest_1 = subst IsTrue (sym c.close_file.ensures.honesty) honest in
    let shut_1 = shut.shut_of (max (length old) (length new)) _ (c.in_ok-close_file.ensures.rest honest at) (c.in_ok-close_file.ensures.ok honest) (omega (arith, c.in_ok-close_file.ensures.short honest, long)) in
    let honest_2 = subst IsTrue (sym c.cut.ensures.honesty) honest_1 in
    let cut = shut.shut_cuts old new _ _ _ _ shut_1 1 _ (lit≤ tt) (c.in_ok-cut.ensures.ok honest_1) in
    let filled = runs_on _ _ _ _ _ _ closed (runs_on _ _ _ _ _ _ cut.0 (c.fill.ensures.any_moment old new honest_2 cut.1 (omega (arith, long)))) in
    let honest_3 = subst IsTrue (sym c.fill.ensures.honesty) honest_2 in
    let base = c.args.base.now in
    let all = head c.args.salt c.args.generation c.args.first (length base) ++ (base ++ 0 ∷ []) in
    let seen_3 = c.in_ok-fill.ensures.ok (head c.args.salt c.args.generation c.args.first (length base)) honest_2 c.head_bytes-head.ensures in
    let new_is : 1 ∷ all ≡ new = making.opened_text c.args.salt c.args.generation c.args.first base in
    let honest_4 = subst IsTrue (sym c.sync.ensures.honesty) honest_3 in
    let synced = c.in_ok-sync.ensures.ok honest_3 in
    let honest_5 = subst IsTrue (sym c.write_at.ensures.honesty) honest_4 in
    let wrote = c.in_ok-write_at.ensures.ok honest_4 in
    let failed = c.in_err-sync-2.ensures.err honest_5 in
    shut.open_not_safe old new all new_is _ _ _ filled seen_3 _ _ synced _ _ wrote _ _ failed.0 failed.1

pub returns-clause-any_moment : goal.returns-clause-any_moment
returns-clause-any_moment g c honest at known =
    let old = (g.D.Disk.held c.args.disk.now).seen in
    let new = new_bytes c.args.salt c.args.generation c.args.first c.args.base.now in
    let long = making.length-new_bytes c.args.salt c.args.generation c.args.first c.args.base.now in
    let closed = c.close_file.ensures.any_moment new honest at known (omega (arith, long)) in
    let honest_1 = subst IsTrue (sym c.close_file.ensures.honesty) honest in
    let shut_1 = shut.shut_of (max (length old) (length new)) _ (c.in_ok-close_file.ensures.rest honest at) (c.in_ok-close_file.ensures.ok honest) (omega (arith, c.in_ok-close_file.ensures.short honest, long)) in
    let honest_2 = subst IsTrue (sym c.cut.ensures.honesty) honest_1 in
    let cut = shut.shut_cuts old new _ _ _ _ shut_1 1 _ (lit≤ tt) (c.in_ok-cut.ensures.ok honest_1) in
    let filled = runs_on _ _ _ _ _ _ closed (runs_on _ _ _ _ _ _ cut.0 (c.fill.ensures.any_moment old new honest_2 cut.1 (omega (arith, long)))) in
    let honest_3 = subst IsTrue (sym c.fill.ensures.honesty) honest_2 in
    let base = c.args.base.now in
    let all = head c.args.salt c.args.generation c.args.first (length base) ++ (base ++ 0 ∷ []) in
    let seen_3 = c.in_ok-fill.ensures.ok (head c.args.salt c.args.generation c.args.first (length base)) honest_2 c.head_bytes-head.ensures in
    let new_is : 1 ∷ all ≡ new = making.opened_text c.args.salt c.args.generation c.args.first base in
    let honest_4 = subst IsTrue (sym c.sync.ensures.honesty) honest_3 in
    let synced = c.in_ok-sync.ensures.ok honest_3 in
    let honest_5 = subst IsTrue (sym c.write_at.ensures.honesty) honest_4 in
    let wrote = c.in_ok-write_at.ensures.ok honest_4 in
    shut.open_safe old new all new_is _ _ _ filled seen_3 _ _ synced _ _ wrote _ _ (c.in_ok-sync-2.ensures.ok honest_5)
