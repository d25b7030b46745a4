use Rattle.std.proofs.Common.{◌≡◌, true, false, sym, rules}
use Rattle.std.proofs.lemmas.Option.{slice_get_past}
use Rattle.sb_machine.specs.Leaves.{has_id}
use Rattle.sb_machine.proofs.Places.{get_some}
use Rattle.sb_sessions.proofs.Sorted.{id_here, id_other, id_past}
use Rattle.sb_sessions.proofs.rows.place_of.Goals as goal

pub returns-in_default : goal.returns-in_default
returns-in_default c =
    let got = slice_get_past c.args.rows.now c.entry_of-place.result c.in_default.ensures.lookup.3 in
    id_past c.args.id.now c.args.rows.now c.entry_of-place.result c.requires c.entry_of-place.ensures.place (sym got)

pub returns-then-eq : goal.returns-then-eq
returns-then-eq c =
    let got = get_some c.args.rows.now c.entry_of-place.result c.in-Some.session.now c.in-Some.ensures.lookup.3.0 c.in-Some.ensures.lookup.1 in
    let has : has_id c.args.id.now c.in-Some.session.now ≡ true = search rules in
    id_here c.args.id.now c.args.rows.now c.entry_of-place.result c.in-Some.session.now c.requires c.entry_of-place.ensures.place (sym got) has

pub returns-else-eq : goal.returns-else-eq
returns-else-eq c =
    let got = get_some c.args.rows.now c.entry_of-place.result c.in-Some.session.now c.in-Some.ensures.lookup.3.0 c.in-Some.ensures.lookup.1 in
    let other : has_id c.args.id.now c.in-Some.session.now ≡ false = search rules in
    id_other c.args.id.now c.args.rows.now c.entry_of-place.result c.in-Some.session.now c.requires c.entry_of-place.ensures.place (sym got) other
