use Rattle.std.proofs.Common.{◌∙◌, sym, ap}
use Rattle.sb_journal.specs.declared.choosing.Choice.TheVariants.{Counts}
use Rattle.sb_journal.specs.Disks.{disks_of}
use Rattle.sb_journal.specs.Journals.{journal_disks, fault_disks}
use Rattle.sb_journal.specs.Unopened.{unopened_disks}
use Rattle.sb_journal.proofs.Pairs.{still_honest, fault_on, opening_stays_pair, opening_finishes_pair, kept_aside}
use Rattle.sb_journal.proofs.journal.Journal.open.Goals as goal

pub returns-in-Ok-finish-clause-ok : goal.returns-in-Ok-finish-clause-ok
returns-in-Ok-finish-clause-ok g c honest =
    let was = disks_of g.D.Disk c.args.disk_a c.args.disk_b in
    let honest_1 = still_honest was (unopened_disks c.in-Ok.unopened) c.in-Ok.ensures.honesty honest in
    (c.in-Ok.ensures.ok honest, c.in-Ok-finish.ensures.ok _ _ honest_1 (c.in-Ok.ensures.stands honest))

pub returns-in-Ok-finish-clause-any_moment : goal.returns-in-Ok-finish-clause-any_moment
returns-in-Ok-finish-clause-any_moment g c honest =
    let was = disks_of g.D.Disk c.args.disk_a c.args.disk_b in
    let mid = unopened_disks c.in-Ok.unopened in
    let honest_1 = still_honest was mid c.in-Ok.ensures.honesty honest in
    opening_finishes_pair c.args.salt _ was mid (journal_disks c.in-Ok-finish.journal) c.in-Ok.ensures.salt (c.in-Ok.ensures.synced honest) (c.in-Ok-finish.ensures.any_moment _ _ honest_1 (c.in-Ok.ensures.stands honest))

pub returns-in-Ok-finish-clause-aside : goal.returns-in-Ok-finish-clause-aside
returns-in-Ok-finish-clause-aside g c honest =
    let was = disks_of g.D.Disk c.args.disk_a c.args.disk_b in
    let later = journal_disks c.in-Ok-finish.journal in
    kept_aside c.args.salt c.in-Ok-finish.journal.side was later (c.in-Ok.ensures.counts honest ∙ ap Counts (sym c.in-Ok-finish.ensures.side)) (returns-in-Ok-finish-clause-any_moment g c honest)

pub returns-in-Err-finish-clause-any_moment : goal.returns-in-Err-finish-clause-any_moment
returns-in-Err-finish-clause-any_moment g c honest =
    let was = disks_of g.D.Disk c.args.disk_a c.args.disk_b in
    let mid = unopened_disks c.in-Ok.unopened in
    let honest_1 = still_honest was mid c.in-Ok.ensures.honesty honest in
    opening_finishes_pair c.args.salt _ was mid (fault_disks g.D.Disk c.in-Err-finish.fault) c.in-Ok.ensures.salt (c.in-Ok.ensures.synced honest) (c.in-Err-finish.ensures.any_moment _ _ honest_1 (c.in-Ok.ensures.stands honest))

pub returns-in-Err-clause-any_moment : goal.returns-in-Err-clause-any_moment
returns-in-Err-clause-any_moment g c honest =
    opening_stays_pair c.args.salt (disks_of g.D.Disk c.args.disk_a c.args.disk_b) (fault_disks g.D.Disk c.in-Err.fault) (c.in-Err.ensures.untouched honest)

pub returns-in-Err-finish-clause-cause : goal.returns-in-Err-finish-clause-cause
returns-in-Err-finish-clause-cause g c failed =
    fault_on (disks_of g.D.Disk c.args.disk_a c.args.disk_b) (unopened_disks c.in-Ok.unopened) (fault_disks g.D.Disk c.in-Err-finish.fault) c.in-Ok.ensures.quiet c.in-Err-finish.ensures.cause
