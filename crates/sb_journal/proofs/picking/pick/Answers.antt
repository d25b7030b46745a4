use Rattle.std.proofs.Common.{◌∙◌, refl}
use Rattle.sb_journal.specs.Disks.{disks_of}
use Rattle.sb_journal.proofs.Choices.{picked_front, damaged_front}
use Rattle.sb_journal.proofs.Pairs.{one_fault, other_fault}
use Rattle.sb_journal.proofs.picking.pick.Goals as goal

pub returns-in-Err-Disk-clause-cause : goal.returns-in-Err-Disk-clause-cause
returns-in-Err-Disk-clause-cause g c failed =
    one_fault (disks_of g.D.Disk c.args.disk_a.now c.args.disk_b.now) (disks_of g.D.Disk c.front_of.new.disk c.args.disk_b.now) (c.in-Err-Disk.ensures.cause c.in-Err-Disk.field-0-is) refl

pub returns-in-Err-Disk-front_of-clause-cause : goal.returns-in-Err-Disk-front_of-clause-cause
returns-in-Err-Disk-front_of-clause-cause g c failed =
    other_fault (disks_of g.D.Disk c.args.disk_a.now c.args.disk_b.now) (disks_of g.D.Disk c.front_of.new.disk c.front_of-2.new.disk) (c.in-Err-Disk-front_of.ensures.cause c.in-Err-Disk-front_of.field-0-is) c.in-Ok.ensures.passed

pub returns-clause-ok : goal.returns-clause-ok
returns-clause-ok g c honest_a honest_b =
    picked_front c.picked_of.result c.deref.result.now c.deref-2.result.now (g.D.Disk.held c.args.disk_a.now).seen (g.D.Disk.held c.args.disk_b.now).seen (c.deref.ensures.value ∙ c.in-Ok.ensures.front honest_a) (c.deref-2.ensures.value ∙ c.in-Ok-front_of.ensures.front honest_b) c.picked_of.ensures.ok

pub returns-clause-damaged : goal.returns-clause-damaged
returns-clause-damaged g c honest_a honest_b =
    damaged_front c.picked_of.result c.deref.result.now c.deref-2.result.now (g.D.Disk.held c.args.disk_a.now).seen (g.D.Disk.held c.args.disk_b.now).seen (c.deref.ensures.value ∙ c.in-Ok.ensures.front honest_a) (c.deref-2.ensures.value ∙ c.in-Ok-front_of.ensures.front honest_b) c.picked_of.ensures.damaged
