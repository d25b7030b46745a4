use Rattle.std.proofs.Common.{refl, sym, subst}
use Rattle.std.specs.Prelude.{IsTrue}
use Rattle.sb_journal.specs.Disks.{disks_of}
use Rattle.sb_journal.proofs.Finishing.{unwritten_synced}
use Rattle.sb_journal.proofs.Pairs.{one_fault, other_fault}
use Rattle.sb_journal.proofs.picking.pick_synced.Goals as goal

pub returns-in_default-clause-cause : goal.returns-in_default-clause-cause
returns-in_default-clause-cause g c failed =
    one_fault (disks_of g.D.Disk c.args.disk_a.now c.args.disk_b.now) (disks_of g.D.Disk c.sync.new.self c.args.disk_b.now) c.in_default.ensures.cause.failed refl

pub returns-in_default-sync-clause-untouched_a : goal.returns-in_default-sync-clause-untouched_a
returns-in_default-sync-clause-untouched_a g c honest = unwritten_synced _ _ _ _ _ _ (c.in-Ok.ensures.ok honest) refl refl

pub returns-in_default-sync-clause-cause : goal.returns-in_default-sync-clause-cause
returns-in_default-sync-clause-cause g c failed =
    other_fault (disks_of g.D.Disk c.args.disk_a.now c.args.disk_b.now) (disks_of g.D.Disk c.sync.new.self c.sync-2.new.self) c.in_default-sync.ensures.cause.failed c.in-Ok.ensures.cause.passed

pub returns-clause-untouched_a : goal.returns-clause-untouched_a
returns-clause-untouched_a g c honest =
    let same = c.pick.ensures.same_a (subst IsTrue (sym c.sync.ensures.honesty) honest) in
    unwritten_synced _ _ _ _ _ _ (c.in-Ok.ensures.ok honest) same.1 same.0

pub returns-clause-untouched_b : goal.returns-clause-untouched_b
returns-clause-untouched_b g c honest =
    let same = c.pick.ensures.same_b (subst IsTrue (sym c.sync-2.ensures.honesty) honest) in
    unwritten_synced _ _ _ _ _ _ (c.in-Ok-sync.ensures.ok honest) same.1 same.0
