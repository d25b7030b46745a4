use Rattle.std.proofs.Common.{◌≡◌, List, map, ap, sym, subst, ◌∙◌, Bor}
use Rattle.std.specs.List.{insert, prefix_len}
use Rattle.sb_machine.specs.Names.{is_before}
use Rattle.sb_machine.specs.Visits.{own_name}
use Rattle.sb_machine.specs.declared.state.Listed.{Listed}
use Rattle.sb_entities.specs.Names.{AreByName}
use Rattle.sb_entities.proofs.ByName.{by_name_with}
use Rattle.sb_entities.proofs.References.{with_one_next}
use Rattle.sb_entities.proofs.finding.with_next.Goals as goal

pub returns-clause-found : goal.returns-clause-found
returns-clause-found c =
    let added : c.insert.new.self.items ≡ insert c.args.found.items (prefix_len (λ (q : Bor Listed). is_before (own_name q.now) (own_name c.args.entity.now)) c.args.found.items) c.args.entity = cc (c.in_ok-insert.ensures.items, c.place_by_name-place.ensures.value, c.deref.ensures.value) in
    ap (map (λ (b : Bor Listed). b.now)) added ∙ with_one_next c.args.found.items c.args.entity

pub place_by_name-place-requires : goal.place_by_name-place-requires
place_by_name-place-requires c = subst (λ (es : List (Bor Listed)). AreByName (map (λ (b : Bor Listed). b.now) es)) (sym c.deref.ensures.value) c.requires

pub returns-clause-order : goal.returns-clause-order
returns-clause-order c = subst AreByName (sym (returns-clause-found c)) (by_name_with (map (λ (b : Bor Listed). b.now) c.args.found.items) c.args.entity.now c.requires)
