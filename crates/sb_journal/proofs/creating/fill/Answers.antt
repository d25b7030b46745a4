use Rattle.std.proofs.Common.{◌≡◌, ℕ, ◌+◌, List, [], ◌∷◌, ◌++◌, length, ap, sym, ◌∙◌, subst, arith, length-append}
use Rattle.std.specs.Prelude.{IsTrue}
use Rattle.sb_outside.specs.Held.{overwritten}
use Rattle.sb_journal.proofs.Making as making
use Rattle.sb_journal.proofs.Moments.{runs_on}
use Rattle.sb_journal.proofs.Shut as shut
use Rattle.sb_journal.proofs.creating.fill.Goals as goal

pub write_at-requires-then-base-gt0-2 : goal.write_at-requires-then-base-gt0-2
write_at-requires-then-base-gt0-2 g c honest =
    let honest_0 = subst IsTrue (c.write_at-then-base-gt0.ensures.honesty ∙ c.write_at.ensures.honesty) honest in
    let honest_1 = subst IsTrue c.write_at-then-base-gt0.ensures.honesty honest in
    let seen_1 : (g.D.Disk.held c.write_at.new.self).seen ≡ 0 ∷ c.args.head.now = ap (λ h. h.seen) (c.in_ok-write_at.ensures.ok honest_0).now_is ∙ making.head_written _ c.args.head.now (c.requires.gate honest_0) in
    let seen_2 : (g.D.Disk.held c.write_at-then-base-gt0.new.self).seen ≡ overwritten (0 ∷ c.args.head.now) 42 c.args.base.now = ap (λ h. h.seen) (c.in_ok-write_at-2.ensures.ok honest_1).now_is ∙ ap (λ (l : List ℕ). overwritten l 42 c.args.base.now) seen_1 in
    omega (arith, ap length seen_2, making.length-overwritten (0 ∷ c.args.head.now) 42 c.args.base.now (omega (arith, c.requires.head)))

pub returns-in_ok-write_at-3-clause-ok : goal.returns-in_ok-write_at-3-clause-ok
returns-in_ok-write_at-3-clause-ok g c bytes honest head_is =
    let honest_1 = subst IsTrue (sym c.write_at.ensures.honesty) honest in
    let honest_2 = subst IsTrue (sym c.write_at-then-base-gt0.ensures.honesty) honest_1 in
    let long : length bytes ≡ 41 = omega (arith, c.requires.head, ap length head_is, length-append bytes (0 ∷ [])) in
    let base = c.args.base.now in
    let seen_1 : (g.D.Disk.held c.write_at.new.self).seen ≡ 0 ∷ (bytes ++ 0 ∷ []) = ap (λ h. h.seen) (c.in_ok-write_at.ensures.ok honest).now_is ∙ making.head_written _ c.args.head.now (c.requires.gate honest) ∙ ap (λ (l : List ℕ). 0 ∷ l) head_is in
    let seen_2 : (g.D.Disk.held c.write_at-then-base-gt0.new.self).seen ≡ 0 ∷ (bytes ++ base) = ap (λ h. h.seen) (c.in_ok-write_at-2.ensures.ok honest_1).now_is ∙ ap (λ (l : List ℕ). overwritten l 42 base) seen_1 ∙ making.base_written bytes base long c.if-base-gt0.true in
    ap (λ h. h.seen) (c.in_ok-write_at-3.ensures.ok honest_2).now_is ∙ ap (λ (l : List ℕ). overwritten l (42 + length base) (0 ∷ [])) seen_2 ∙ making.gate_written bytes base long

pub returns-in_err-write_at-clause-any_moment : goal.returns-in_err-write_at-clause-any_moment
returns-in_err-write_at-clause-any_moment g c old new honest closed fits =
    shut.shut_fails old new _ _ _ _ closed 1 _ (omega arith) (omega (arith, fits, c.requires.head)) (c.in_err-write_at.ensures.err honest)

pub returns-in_err-write_at-2-clause-any_moment : goal.returns-in_err-write_at-2-clause-any_moment
returns-in_err-write_at-2-clause-any_moment g c old new honest closed fits =
    let honest_1 = subst IsTrue (sym c.write_at.ensures.honesty) honest in
    let one = shut.shut_writes old new _ _ _ _ closed 1 _ _ (omega arith) (omega (arith, fits, c.requires.head)) (c.in_ok-write_at.ensures.ok honest) in
    runs_on _ _ _ _ _ _ one.0 (shut.shut_fails old new _ _ _ _ one.1 42 _ (omega arith) (omega (arith, fits)) (c.in_err-write_at-2.ensures.err honest_1))

pub returns-in_err-write_at-3-clause-any_moment : goal.returns-in_err-write_at-3-clause-any_moment
returns-in_err-write_at-3-clause-any_moment g c old new honest closed fits =
    let honest_1 = subst IsTrue (sym c.write_at.ensures.honesty) honest in
    let honest_2 = subst IsTrue (sym c.write_at-then-base-gt0.ensures.honesty) honest_1 in
    let one = shut.shut_writes old new _ _ _ _ closed 1 _ _ (omega arith) (omega (arith, fits, c.requires.head)) (c.in_ok-write_at.ensures.ok honest) in
    let two = shut.shut_writes old new _ _ _ _ one.1 42 _ _ (omega arith) (omega (arith, fits)) (c.in_ok-write_at-2.ensures.ok honest_1) in
    runs_on _ _ _ _ _ _ one.0 (runs_on _ _ _ _ _ _ two.0 (shut.shut_fails old new _ _ _ _ two.1 (42 + length c.args.base.now) _ (omega arith) (omega (arith, fits)) (c.in_err-write_at-3.ensures.err honest_2)))

pub returns-in_ok-write_at-3-clause-any_moment : goal.returns-in_ok-write_at-3-clause-any_moment
returns-in_ok-write_at-3-clause-any_moment g c old new honest closed fits =
    let honest_1 = subst IsTrue (sym c.write_at.ensures.honesty) honest in
    let honest_2 = subst IsTrue (sym c.write_at-then-base-gt0.ensures.honesty) honest_1 in
    let one = shut.shut_writes old new _ _ _ _ closed 1 _ _ (omega arith) (omega (arith, fits, c.requires.head)) (c.in_ok-write_at.ensures.ok honest) in
    let two = shut.shut_writes old new _ _ _ _ one.1 42 _ _ (omega arith) (omega (arith, fits)) (c.in_ok-write_at-2.ensures.ok honest_1) in
    let three = shut.shut_writes old new _ _ _ _ two.1 (42 + length c.args.base.now) _ _ (omega arith) (omega (arith, fits)) (c.in_ok-write_at-3.ensures.ok honest_2) in
    runs_on _ _ _ _ _ _ one.0 (runs_on _ _ _ _ _ _ two.0 three.0)

pub returns-else-base-gt0-clause-any_moment : goal.returns-else-base-gt0-clause-any_moment
returns-else-base-gt0-clause-any_moment g c old new honest closed fits =
    (shut.shut_writes old new _ _ _ _ closed 1 _ _ (omega arith) (omega (arith, fits, c.requires.head)) (c.in_ok-write_at.ensures.ok honest)).0
