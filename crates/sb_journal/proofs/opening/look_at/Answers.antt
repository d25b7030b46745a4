use Rattle.std.proofs.Common.{◌∙◌, sym, subst}
use Rattle.std.specs.Prelude.{IsTrue}
use Rattle.sb_journal.specs.Opened.{IsReading, IsJudged, opened_alone, placed}
use Rattle.sb_journal.specs.Framing.{framing}
use Rattle.sb_journal.proofs.Finishing.{read_no_file, read_stand}
use Rattle.sb_journal.proofs.Judging as judging
use Rattle.sb_journal.proofs.opening.look_at.Goals as goal

pub returns-in-Ok-NoFile-clause-ok : goal.returns-in-Ok-NoFile-clause-ok
returns-in-Ok-NoFile-clause-ok g c =
    let bytes = (g.D.Disk.held c.args.disk.now).seen in
    let honest = IsTrue (g.D.Disk.honest c.args.disk.now) in
    let none = subst (λ r. IsReading g.J.Judge honest bytes r) c.in-Ok-NoFile.field-0-is c.in-Ok-NoFile.ensures.reading in
    subst (λ j. IsJudged g.J.Judge honest (placed c.args.side (opened_alone c.args.salt (framing bytes))) j) (sym c.seen_as.ensures.judged) (judging.judged_new g.J.Judge honest bytes c.args.salt c.args.side c.new_stand.result c.ranges.salt.fits none c.new_stand.ensures.file c.new_stand.ensures.stand)

pub returns-in-Ok-AFile-clause-ok : goal.returns-in-Ok-AFile-clause-ok
returns-in-Ok-AFile-clause-ok g c =
    let bytes = (g.D.Disk.held c.args.disk.now).seen in
    let honest = IsTrue (g.D.Disk.honest c.args.disk.now) in
    let s = c.in-Ok-AFile.stand in
    let found = subst (λ r. IsReading g.J.Judge honest bytes r) c.in-Ok-AFile.field-0-is c.in-Ok-AFile.ensures.reading in
    subst (λ j. IsJudged g.J.Judge honest (placed c.args.side (opened_alone c.args.salt (framing bytes))) j) (sym c.seen_as-in-Ok-AFile.ensures.judged) (judging.judged_stand g.J.Judge honest bytes c.args.salt c.args.side s found.0 found.1 found.2 found.3)

pub returns-in-Ok-NoFile-clause-read : goal.returns-in-Ok-NoFile-clause-read
returns-in-Ok-NoFile-clause-read g c honest =
    let none = subst (λ r. IsReading g.J.Judge (IsTrue (g.D.Disk.honest c.args.disk.now)) (g.D.Disk.held c.args.disk.now).seen r) c.in-Ok-NoFile.field-0-is c.in-Ok-NoFile.ensures.reading in
    let e = c.seen_as.ensures in
    read_no_file _ c.seen_as.result.ending (none honest) e.made (e.end ∙ c.new_stand.ensures.end) (e.next ∙ c.new_stand.ensures.next)

pub returns-in-Ok-AFile-clause-read : goal.returns-in-Ok-AFile-clause-read
returns-in-Ok-AFile-clause-read g c honest =
    let s = c.in-Ok-AFile.stand in
    let found = subst (λ r. IsReading g.J.Judge (IsTrue (g.D.Disk.honest c.args.disk.now)) (g.D.Disk.held c.args.disk.now).seen r) c.in-Ok-AFile.field-0-is c.in-Ok-AFile.ensures.reading in
    let e = c.seen_as-in-Ok-AFile.ensures in
    read_stand g.J.Judge _ s found.0 found.1 c.seen_as-in-Ok-AFile.result.ending (found.3 honest) found.2 e.made e.closed e.end e.next
