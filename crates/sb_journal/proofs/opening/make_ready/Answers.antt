use Rattle.std.proofs.Common.{ap}
use Rattle.sb_journal.specs.Opened.{opened_alone}
use Rattle.sb_journal.proofs.Finishing as finishing
use Rattle.sb_journal.proofs.Texts.{spells_text}
use Rattle.sb_journal.proofs.opening.make_ready.Goals as goal

pub returns-then-ending-clause-ok : goal.returns-then-ending-clause-ok
returns-then-ending-clause-ok g c file honest stands =
    let read = c.requires honest in
    let whole = finishing.some_is c.args.salt _ _ file read c.if-ending.true stands in
    c.in_ok-close_end.ensures.ok file c.args.ending.next honest (spells_text file _ (read.text file whole)) (read.end c.args.salt file stands) (read.next c.args.salt file stands)

pub returns-then-ending-clause-any_moment : goal.returns-then-ending-clause-any_moment
returns-then-ending-clause-any_moment g c file honest stands ours =
    let read = c.requires honest in
    let whole = finishing.some_is c.args.salt _ _ file read c.if-ending.true stands in
    finishing.closes c.args.salt _ _ (g.D.Disk.held c.args.disk.now) _ file whole (c.close_end.ensures.any_moment file honest (spells_text file _ (read.text file whole)) (read.end c.args.salt file stands))

pub returns-in_err-close_end-clause-any_moment : goal.returns-in_err-close_end-clause-any_moment
returns-in_err-close_end-clause-any_moment g c file honest stands ours =
    let read = c.requires honest in
    let whole = finishing.some_is c.args.salt _ _ file read c.if-ending.true stands in
    finishing.closes c.args.salt _ _ (g.D.Disk.held c.args.disk.now) _ file whole (c.close_end.ensures.any_moment file honest (spells_text file _ (read.text file whole)) (read.end c.args.salt file stands))

pub returns-clause-ok : goal.returns-clause-ok
returns-clause-ok g c file honest stands =
    let read = c.requires honest in
    let none = finishing.none_is _ _ read c.if-ending.false in
    finishing.new_rests_there c.args.salt _ _ _ file read none stands c.ranges.salt.fits (c.in_ok-create.ensures.ok honest)

pub returns-clause-room : goal.returns-clause-room
returns-clause-room g c honest =
    let read = c.requires honest in
    let none = finishing.none_is _ _ read c.if-ending.false in
    finishing.room_there _ _ _ _ (finishing.new_rests_there c.args.salt _ _ _ _ read none (ap (opened_alone c.args.salt) none) c.ranges.salt.fits (c.in_ok-create.ensures.ok honest))

pub returns-clause-any_moment : goal.returns-clause-any_moment
returns-clause-any_moment g c file honest stands ours =
    let read = c.requires honest in
    let none = finishing.none_is _ _ read c.if-ending.false in
    finishing.makes c.args.salt _ _ _ _ read.rests none (c.create.ensures.any_moment honest (ours none))

pub returns-in_err-create-clause-any_moment : goal.returns-in_err-create-clause-any_moment
returns-in_err-create-clause-any_moment g c file honest stands ours =
    let read = c.requires honest in
    let none = finishing.none_is _ _ read c.if-ending.false in
    finishing.makes c.args.salt _ _ _ _ read.rests none (c.create.ensures.any_moment honest (ours none))
