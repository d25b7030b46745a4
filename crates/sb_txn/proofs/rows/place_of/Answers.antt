use Rattle.std.proofs.Common.{◌≡◌, true, false, sym, rules}
use Rattle.std.proofs.lemmas.Option.{slice_get_past}
use Rattle.sb_machine.proofs.Places.{get_some}
use Rattle.sb_txn.specs.Txns.{has_txn}
use Rattle.sb_txn.proofs.Numbered.{number_here, number_other, number_past}
use Rattle.sb_txn.proofs.rows.place_of.Goals as goal

pub returns-in_default : goal.returns-in_default
returns-in_default c =
    let got = slice_get_past c.args.rows.now c.entry_of-place.result c.in_default.ensures.lookup.3 in
    number_past c.args.number c.args.rows.now c.entry_of-place.result c.requires c.entry_of-place.ensures (sym got)

pub returns-then-number : goal.returns-then-number
returns-then-number c =
    let got = get_some c.args.rows.now c.entry_of-place.result c.in-Some.row.now c.in-Some.ensures.lookup.3.0 c.in-Some.ensures.lookup.1 in
    let has : has_txn c.args.number c.in-Some.row.now ≡ true = search rules in
    number_here c.args.number c.args.rows.now c.entry_of-place.result c.in-Some.row.now c.requires c.entry_of-place.ensures (sym got) has

pub returns-else-number : goal.returns-else-number
returns-else-number c =
    let got = get_some c.args.rows.now c.entry_of-place.result c.in-Some.row.now c.in-Some.ensures.lookup.3.0 c.in-Some.ensures.lookup.1 in
    let other : has_txn c.args.number c.in-Some.row.now ≡ false = search rules in
    number_other c.args.number c.args.rows.now c.entry_of-place.result c.in-Some.row.now c.requires c.entry_of-place.ensures (sym got) other
