use Rattle.std.proofs.Common.{refl, sym, subst, arith}
use Rattle.std.specs.Prelude.{IsTrue}
use Rattle.sb_journal.specs.Disks.{Disks, AreQuiet, HaveFailed, Finishes, NoneFell, SameHonesty}
use Rattle.sb_journal.specs.Unopened.{unopened_disks}
use Rattle.sb_journal.proofs.Shutting.{shut_starts}
use Rattle.sb_journal.proofs.Pairs.{honest_sides, made_ready, stands_current}
use Rattle.sb_journal.proofs.Both.{given_disks, quiet_then, later_then, honest_then, current_failed, other_failed}
use Rattle.sb_journal.proofs.unopened.Unopened.finish.Goals as goal

pub returns-clause-ok : goal.returns-clause-ok
returns-clause-ok g c side file honest stands =
    let u = c.args.self in
    let were = honest_sides g.D.Disk u.side u.current u.other honest in
    let alone = stands_current g.D.Disk u.salt u.side u.current u.other side file (u.counts were.0 were.1) stands in
    c.started.ensures.holds file (subst IsTrue (sym c.make_ready.ensures.honesty) were.0) (subst IsTrue (sym c.shut_aside.ensures.honesty) were.1) (c.in-Ok.ensures.ok file were.0 alone) (u.named _ file were.0 alone).0 (u.named _ file were.0 alone).1 (c.in-Ok-shut_aside.ensures.ok were.1 (u.rests were.1) (u.known were.0 were.1))

pub returns-clause-any_moment : goal.returns-clause-any_moment
returns-clause-any_moment g c side file honest stands =
    let u = c.args.self in
    let were = honest_sides g.D.Disk u.side u.current u.other honest in
    let counts = u.counts were.0 were.1 in
    let alone = stands_current g.D.Disk u.salt u.side u.current u.other side file counts stands in
    subst (λ (d : Disks). Finishes u.salt (unopened_disks u) d) (sym (given_disks g.D.Disk u.side c.make_ready.new.disk c.shut_aside.new.disk _ _ c.started.ensures.disk_a c.started.ensures.disk_b))
    (made_ready g.D.Disk u.salt u.side u.current u.other c.make_ready.new.disk c.shut_aside.new.disk counts (λ ours. c.make_ready.ensures.any_moment file were.0 alone ours) (c.shut_aside.ensures.any_moment were.1 (u.rests were.1) (u.known were.0 were.1)))

pub returns-clause-later : goal.returns-clause-later
returns-clause-later g c =
    let u = c.args.self in
    subst (λ (d : Disks). NoneFell (unopened_disks u) d) (sym (given_disks g.D.Disk u.side c.make_ready.new.disk c.shut_aside.new.disk _ _ c.started.ensures.disk_a c.started.ensures.disk_b)) (later_then g.D.Disk u.current u.other c.make_ready.new.disk c.shut_aside.new.disk u.side c.make_ready.ensures.cause.later c.shut_aside.ensures.cause.later)

pub returns-clause-honesty : goal.returns-clause-honesty
returns-clause-honesty g c =
    let u = c.args.self in
    subst (λ (d : Disks). SameHonesty (unopened_disks u) d) (sym (given_disks g.D.Disk u.side c.make_ready.new.disk c.shut_aside.new.disk _ _ c.started.ensures.disk_a c.started.ensures.disk_b)) (honest_then g.D.Disk u.current u.other c.make_ready.new.disk c.shut_aside.new.disk u.side c.make_ready.ensures.honesty c.shut_aside.ensures.honesty)

pub returns-clause-quiet : goal.returns-clause-quiet
returns-clause-quiet g c =
    let u = c.args.self in
    subst (λ (d : Disks). AreQuiet (unopened_disks u) d) (sym (given_disks g.D.Disk u.side c.make_ready.new.disk c.shut_aside.new.disk _ _ c.started.ensures.disk_a c.started.ensures.disk_b)) (quiet_then g.D.Disk u.current u.other c.make_ready.new.disk c.shut_aside.new.disk u.side c.in-Ok.ensures.cause.passed c.in-Ok-shut_aside.ensures.cause.passed)

pub returns-in_default-clause-any_moment : goal.returns-in_default-clause-any_moment
returns-in_default-clause-any_moment g c side file honest stands =
    let u = c.args.self in
    let were = honest_sides g.D.Disk u.side u.current u.other honest in
    let counts = u.counts were.0 were.1 in
    let alone = stands_current g.D.Disk u.salt u.side u.current u.other side file counts stands in
    subst (λ (d : Disks). Finishes u.salt (unopened_disks u) d) (sym (given_disks g.D.Disk u.side c.make_ready.new.disk c.args.self.other _ _ c.given_back.ensures.disk_a c.given_back.ensures.disk_b))
    (made_ready g.D.Disk u.salt u.side u.current u.other c.make_ready.new.disk c.args.self.other counts (λ ours. c.make_ready.ensures.any_moment file were.0 alone ours) (shut_starts _ _ (u.rests were.1)))

pub returns-in_default-clause-later : goal.returns-in_default-clause-later
returns-in_default-clause-later g c =
    let u = c.args.self in
    subst (λ (d : Disks). NoneFell (unopened_disks u) d) (sym (given_disks g.D.Disk u.side c.make_ready.new.disk c.args.self.other _ _ c.given_back.ensures.disk_a c.given_back.ensures.disk_b)) (later_then g.D.Disk u.current u.other c.make_ready.new.disk c.args.self.other u.side c.make_ready.ensures.cause.later (omega arith))

pub returns-in_default-clause-honesty : goal.returns-in_default-clause-honesty
returns-in_default-clause-honesty g c =
    let u = c.args.self in
    subst (λ (d : Disks). SameHonesty (unopened_disks u) d) (sym (given_disks g.D.Disk u.side c.make_ready.new.disk c.args.self.other _ _ c.given_back.ensures.disk_a c.given_back.ensures.disk_b)) (honest_then g.D.Disk u.current u.other c.make_ready.new.disk c.args.self.other u.side c.make_ready.ensures.honesty refl)

pub returns-in_default-clause-cause : goal.returns-in_default-clause-cause
returns-in_default-clause-cause g c =
    let u = c.args.self in
    subst (λ (d : Disks). HaveFailed (unopened_disks u) d) (sym (given_disks g.D.Disk u.side c.make_ready.new.disk c.args.self.other _ _ c.given_back.ensures.disk_a c.given_back.ensures.disk_b)) (current_failed g.D.Disk u.current u.other c.make_ready.new.disk c.args.self.other u.side c.in_default.ensures.cause.failed refl)

pub returns-in_default-shut_aside-clause-any_moment : goal.returns-in_default-shut_aside-clause-any_moment
returns-in_default-shut_aside-clause-any_moment g c side file honest stands =
    let u = c.args.self in
    let were = honest_sides g.D.Disk u.side u.current u.other honest in
    let counts = u.counts were.0 were.1 in
    let alone = stands_current g.D.Disk u.salt u.side u.current u.other side file counts stands in
    subst (λ (d : Disks). Finishes u.salt (unopened_disks u) d) (sym (given_disks g.D.Disk u.side c.make_ready.new.disk c.shut_aside.new.disk _ _ c.given_back-in_default-shut_aside.ensures.disk_a c.given_back-in_default-shut_aside.ensures.disk_b))
    (made_ready g.D.Disk u.salt u.side u.current u.other c.make_ready.new.disk c.shut_aside.new.disk counts (λ ours. c.make_ready.ensures.any_moment file were.0 alone ours) (c.shut_aside.ensures.any_moment were.1 (u.rests were.1) (u.known were.0 were.1)))

pub returns-in_default-shut_aside-clause-later : goal.returns-in_default-shut_aside-clause-later
returns-in_default-shut_aside-clause-later g c =
    let u = c.args.self in
    subst (λ (d : Disks). NoneFell (unopened_disks u) d) (sym (given_disks g.D.Disk u.side c.make_ready.new.disk c.shut_aside.new.disk _ _ c.given_back-in_default-shut_aside.ensures.disk_a c.given_back-in_default-shut_aside.ensures.disk_b)) (later_then g.D.Disk u.current u.other c.make_ready.new.disk c.shut_aside.new.disk u.side c.make_ready.ensures.cause.later c.shut_aside.ensures.cause.later)

pub returns-in_default-shut_aside-clause-honesty : goal.returns-in_default-shut_aside-clause-honesty
returns-in_default-shut_aside-clause-honesty g c =
    let u = c.args.self in
    subst (λ (d : Disks). SameHonesty (unopened_disks u) d) (sym (given_disks g.D.Disk u.side c.make_ready.new.disk c.shut_aside.new.disk _ _ c.given_back-in_default-shut_aside.ensures.disk_a c.given_back-in_default-shut_aside.ensures.disk_b)) (honest_then g.D.Disk u.current u.other c.make_ready.new.disk c.shut_aside.new.disk u.side c.make_ready.ensures.honesty c.shut_aside.ensures.honesty)

pub returns-in_default-shut_aside-clause-cause : goal.returns-in_default-shut_aside-clause-cause
returns-in_default-shut_aside-clause-cause g c =
    let u = c.args.self in
    subst (λ (d : Disks). HaveFailed (unopened_disks u) d) (sym (given_disks g.D.Disk u.side c.make_ready.new.disk c.shut_aside.new.disk _ _ c.given_back-in_default-shut_aside.ensures.disk_a c.given_back-in_default-shut_aside.ensures.disk_b)) (other_failed g.D.Disk u.current u.other c.make_ready.new.disk c.shut_aside.new.disk u.side c.in_default-shut_aside.ensures.cause.failed c.in-Ok.ensures.cause.passed)
