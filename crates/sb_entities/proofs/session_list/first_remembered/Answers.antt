use Rattle.std.proofs.Common.{ℕ, List, take, ap, sym, subst, ◌∙◌, Bor}
use Rattle.std.proofs.lemmas.List.{take-map}
use Rattle.sb_entities.specs.SessionList.{AreById}
use Rattle.sb_entities.proofs.ById.{remembered_by_id, seen}
use Rattle.sb_entities.proofs.session_list.first_remembered.Goals as goal

pub returns-clause-found : goal.returns-clause-found
returns-clause-found c =
    ap seen c.truncate.ensures.items ∙ sym (take-map (λ (t : Bor (List ℕ)). t.now) c.args.count c.in_ok-ids.ids.items) ∙ ap (take c.args.count) c.in_ok-ids.ensures

pub returns-clause-order : goal.returns-clause-order
returns-clause-order c = subst AreById (sym (returns-clause-found c)) (remembered_by_id c.args.after.now c.args.count c.args.sessions.now c.requires)
