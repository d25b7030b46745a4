use Rattle.std.proofs.Common.{◌≡◌, List, map, IfOk, ap, sym, subst, ◌∙◌}
use Rattle.sb_machine.specs.Looks.{sessions_shown}
use Rattle.sb_machine.specs.declared.look.SessionShown.{SessionShown}
use Rattle.sb_sessions.specs.Sessions.{AreSorted}
use Rattle.sb_entities.specs.SessionList.{first_ids, shown_of}
use Rattle.sb_entities.specs.Stores.{leaf_in}
use Rattle.sb_entities.proofs.ById.{seen}
use Rattle.sb_entities.proofs.SessionList.{shown_are}
use Rattle.sb_entities.proofs.part.PartStore.sessions_shown.Goals as goal

pub returns : goal.returns
returns c =
    let leaf = leaf_in c.args.self.now in
    let sorted : AreSorted leaf.sessions = subst AreSorted c.sessions.ensures c.rises.ensures in
    let ids : seen c.deref.result.now ≡ first_ids c.args.after.now c.args.count leaf = ap seen c.deref.ensures.value ∙ c.in_ok-ids.ensures in
    let shown : map (shown_of leaf) (seen c.deref.result.now) ≡ sessions_shown c.args.after.now c.args.count leaf = ap (map (shown_of leaf)) ids ∙ sym (shown_are leaf c.args.after.now c.args.count sorted) in
    subst (λ (ys : List SessionShown). IfOk c.all_shown.result (λ x. x ≡ ys)) shown c.all_shown.ensures
