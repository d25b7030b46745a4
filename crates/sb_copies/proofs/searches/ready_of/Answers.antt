use Rattle.std.proofs.Common.{◌+◌, ◌*◌, refl, sym}
use Rattle.sb_index.specs.Rows.{is_marked_within}
use Rattle.sb_copies.specs.BySession.{session_hash}
use Rattle.sb_copies.specs.Grouped.{span}
use Rattle.sb_copies.specs.Heads.{undue, undue_rows}
use Rattle.sb_copies.specs.Shelf.{copies_in}
use Rattle.sb_copies.proofs.SessionFinds.{ready_nowhere, ready_there}
use Rattle.sb_copies.proofs.Undue.{undue_none, undue_some}
use Rattle.sb_copies.proofs.searches.ready_of.Goals as goal

pub returns-in_default : goal.returns-in_default
returns-in_default c =
    let h = session_hash c.args.session.now in
    ready_nowhere c.args.session.now (undue_rows c.args.by_session.now.rows) (copies_in c.args.slots.now c.args.order.now.rows) c.requires.holds (undue_none (is_marked_within (h * span) (h * span + span)) (λ x. refl) c.args.by_session.now.rows c.in_default.ensures)

pub returns-then-is_of : goal.returns-then-is_of
returns-then-is_of c =
    let h = session_hash c.args.session.now in
    ready_there c.args.session.now (undue c.in-Some.row) (undue_rows c.args.by_session.now.rows) (copies_in c.args.slots.now c.args.order.now.rows) c.in-Some-numbered.copy.now c.requires.holds c.requires.order
    (undue_some (is_marked_within (h * span) (h * span + span)) (λ x. refl) c.in-Some.row c.args.by_session.now.rows c.in-Some.ensures) c.in-Some-numbered.ensures (sym c.if-is_of.ensures)
