use Rattle.std.proofs.Common.{ℕ, List, ap, sym, subst, ◌∙◌, Bor}
use Rattle.std.specs.List.{prefix_len}
use Rattle.sb_entities.specs.SessionList.{AreById}
use Rattle.sb_entities.proofs.ById.{is_first, kept_order, placed, seen}
use Rattle.sb_entities.proofs.session_list.with_id.Goals as goal

pub returns-clause-found : goal.returns-clause-found
returns-clause-found c =
    placed c.args.count c.args.ids.items c.insert.new.self.items c.truncate.new.self.items c.args.id c.as_str.result.now c.before_id-place.result c.as_str.ensures (c.before_id-place.ensures.value ∙ ap (λ (xs : List (Bor (List ℕ))). prefix_len (is_first c.as_str.result.now) xs) c.deref.ensures.value) c.in_ok-insert.ensures.items c.truncate.ensures.items

pub returns-clause-order : goal.returns-clause-order
returns-clause-order c = subst AreById (sym (returns-clause-found c)) (kept_order c.args.count (seen c.args.ids.items) c.args.id.now c.requires)
