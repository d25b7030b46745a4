use Rattle.std.proofs.Common.{refl}
use Rattle.sb_journal.specs.Disks.{disks_of}
use Rattle.sb_journal.proofs.Pairs.{fault_on, one_fault, other_fault}
use Rattle.sb_journal.proofs.looking.look_by.Goals as goal

pub returns-in-Err-look_at-clause-cause : goal.returns-in-Err-look_at-clause-cause
returns-in-Err-look_at-clause-cause g c failed =
    let was = disks_of g.D.Disk c.args.disk_a.now c.args.disk_b.now in
    let mid = disks_of g.D.Disk c.pick.new.disk_a c.pick.new.disk_b in
    let later = disks_of g.D.Disk c.look_at.new.disk c.pick.new.disk_b in
    fault_on was mid later c.in-Ok.ensures.passed (one_fault mid later (c.in-Err-look_at.ensures.cause failed) refl)

pub returns-in-Err-look_at-2-clause-cause : goal.returns-in-Err-look_at-2-clause-cause
returns-in-Err-look_at-2-clause-cause g c failed =
    let was = disks_of g.D.Disk c.args.disk_a.now c.args.disk_b.now in
    let mid = disks_of g.D.Disk c.pick.new.disk_a c.pick.new.disk_b in
    let later = disks_of g.D.Disk c.pick.new.disk_a c.look_at-in-B.new.disk in
    fault_on was mid later c.in-Ok.ensures.passed (other_fault mid later (c.in-Err-look_at-2.ensures.cause failed) refl)
