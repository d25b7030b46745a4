use Rattle.std.proofs.Common.{inl, sym, ◌∙◌, ap, subst}
use Rattle.sb_journal.specs.Disks.{Disks, disks_of, HaveFailed, IsAtRest}
use Rattle.sb_journal.specs.Opened.{opened_by}
use Rattle.sb_journal.proofs.Both.{both_rest, failed_by, given_disks}
use Rattle.sb_journal.proofs.unopened.Unopened.read_by.Goals as goal

-- ---- nothing counts

pub returns-in-Err-clause-cause : goal.returns-in-Err-clause-cause
returns-in-Err-clause-cause g c failed =
    let given = c.given_back-in-Err.ensures in
    subst (λ (d : Disks). HaveFailed (disks_of g.D.Disk c.args.disk_a c.args.disk_b) d) (λ i. disks_of g.D.Disk (sym given.disk_a i) (sym given.disk_b i)) (c.in-Err.ensures.cause (sym given.why ∙ failed))

pub returns-in-Err-clause-damaged : goal.returns-in-Err-clause-damaged
returns-in-Err-clause-damaged g c honest side place is =
    let was = disks_of g.D.Disk c.args.disk_a c.args.disk_b in
    let given = c.given_back-in-Err.ensures in
    let damaged = c.in-Err.ensures.damaged honest.0 honest.1 side place (sym given.why ∙ is) in (
      inl (ap (opened_by c.args.salt was.a.held.seen was.b.held.seen) damaged.0),
      subst (λ (d : Disks). IsAtRest side was d) (λ i. disks_of g.D.Disk (sym given.disk_a i) (sym given.disk_b i)) (both_rest g.D.Disk was c.pick_synced.new.disk_a c.pick_synced.new.disk_b side damaged.1 damaged.2),
    )

-- ---- the file that counts isn't read

pub returns-in-Err-look_at-clause-cause : goal.returns-in-Err-look_at-clause-cause
returns-in-Err-look_at-clause-cause g c failed =
    let was = disks_of g.D.Disk c.args.disk_a c.args.disk_b in
    let side = c.in-Ok-pick_synced.picked.side in
    let cur = c.by_side-current.result.0 in
    let o = c.by_side-current.result.1 in
    let now = c.look_at.new.disk in
    let given = c.given_back-in-Err-look_at.ensures in
    subst (λ (d : Disks). HaveFailed was d) (sym (given_disks g.D.Disk side now o _ _ given.disk_a given.disk_b))
    (failed_by g.D.Disk was c.pick_synced.new.disk_a c.pick_synced.new.disk_b cur o now side c.by_side-current.ensures.first c.by_side-current.ensures.second c.in-Ok-pick_synced.ensures.passed (c.in-Err-look_at.ensures.cause (sym given.why ∙ failed)))
