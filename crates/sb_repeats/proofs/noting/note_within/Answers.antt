use Rattle.std.proofs.Common.{rules, ◌≡◌, ◌<◌, ◌^◌, false, sym, subst, List}
use Rattle.sb_machine.specs.Changes.{is_known}
use Rattle.sb_machine.specs.declared.state.AcceptedId.{AcceptedId}
use Rattle.sb_repeats.specs.Windows.{AreTold, key_of}
use Rattle.sb_repeats.proofs.Forgetting.{told_noted}
use Rattle.sb_repeats.proofs.Ids.{one}
use Rattle.sb_repeats.proofs.noting.note_within.Goals as goal

pub returns-clause-told : goal.returns-clause-told
returns-clause-told c =
    let ids = c.args.ids.now.items in
    let id = c.args.id in
    let none : is_known c.args.seconds id c.args.moment ids ≡ false = search rules in
    let small : c.args.moment < 2 ^ 64 = c.ranges.moment.fits in
    let is : c.key_of.result ≡ key_of (one c.args.moment id) = search rules in
    let told = told_noted c.args.seconds c.args.moment c.key_of.result id ids c.forget.new.ids.items c.forget.new.known.rows c.tell.new.known.rows none c.requires.told.order c.forget.ensures.ids c.forget.ensures.told small is c.tell.ensures.told in
    subst (λ (l : List AcceptedId). AreTold l c.tell.new.known.rows) (sym c.insert_id.ensures.ids) told
