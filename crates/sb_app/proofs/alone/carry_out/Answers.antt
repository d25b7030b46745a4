use Rattle.std.proofs.Common.{refl}
use Rattle.sb_journal.specs.Disks.{disks_of}
use Rattle.sb_journal.proofs.Pairs.{keeps_still}
use Rattle.sb_app.specs.Outside.{outside_of}
use Rattle.sb_app.specs.Clients.{exchanges_of}
use Rattle.sb_app.proofs.Calls.{unread_call}
use Rattle.sb_app.proofs.Clients.{no_two_client}
use Rattle.sb_app.proofs.alone.carry_out.Goals as goal

pub returns-in-Err-OutOfMemory-clause-done : goal.returns-in-Err-OutOfMemory-clause-done
returns-in-Err-OutOfMemory-clause-done g c task days named =
    unread_call (g.C.Clock.reads c.args.clock.now) days task c.args.salt (outside_of g.D.Disk g.S.Source g.K.Sink c.args.disk_a c.args.disk_b c.args.input.now c.args.output.now) (exchanges_of c.args.key.now g.N.Link c.args.link.now)

pub returns-in-Client-clause-usage : goal.returns-in-Client-clause-usage
returns-in-Client-clause-usage g c two =
    let was = outside_of g.D.Disk g.S.Source g.K.Sink c.args.disk_a c.args.disk_b c.args.input.now c.args.output.now in
    absurd (no_two_client _ (c.client_status-status.ensures was.disks) two)

pub returns-in-Client-clause-usage_alone : goal.returns-in-Client-clause-usage_alone
returns-in-Client-clause-usage_alone g c two =
    let was = outside_of g.D.Disk g.S.Source g.K.Sink c.args.disk_a c.args.disk_b c.args.input.now c.args.output.now in
    absurd (no_two_client _ (c.client_status-status.ensures was.disks) two)

pub returns-in-Err-BadWords-clause-aside : goal.returns-in-Err-BadWords-clause-aside
returns-in-Err-BadWords-clause-aside g c task days named plain honest = let was = disks_of g.D.Disk c.args.disk_a c.args.disk_b in keeps_still c.args.salt was was ((refl, refl), (refl, refl))

pub returns-in-Err-OutOfMemory-clause-aside : goal.returns-in-Err-OutOfMemory-clause-aside
returns-in-Err-OutOfMemory-clause-aside g c task days named plain honest = let was = disks_of g.D.Disk c.args.disk_a c.args.disk_b in keeps_still c.args.salt was was ((refl, refl), (refl, refl))

pub returns-in-Client-clause-aside : goal.returns-in-Client-clause-aside
returns-in-Client-clause-aside g c task days named plain honest = let was = disks_of g.D.Disk c.args.disk_a c.args.disk_b in keeps_still c.args.salt was was ((refl, refl), (refl, refl))

pub returns-in-Look-clause-aside : goal.returns-in-Look-clause-aside
returns-in-Look-clause-aside g c task days named plain honest =
    keeps_still c.args.salt (disks_of g.D.Disk c.args.disk_a c.args.disk_b) (disks_of g.D.Disk c.look_over.result.1 c.look_over.result.2) (c.look_over.ensures.done.still honest)
