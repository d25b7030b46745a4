use Rattle.sb_journal.proofs.Turning.{turned_disks}
use Rattle.sb_journal.proofs.journal.Journal.fail_other.Goals as goal

pub returns-clause-disks : goal.returns-clause-disks
returns-clause-disks g c =
    let j = c.args.self.now in
    turned_disks g.D.Disk j.side _ j.current j.other _ _ c.facing-self.ensures c.swap.ensures.x_after c.swap.ensures.y_after
