use Rattle.std.proofs.Common.{◌+◌, ◌*◌, ◌-◌, ◌<◌, ◌≤◌, List, map, Bor, sym, subst, ap, ◌∙◌, arith}
use Rattle.sb_machine.specs.Visits.{subscriptions_of}
use Rattle.sb_machine.specs.declared.state.Listed.{Listed}
use Rattle.sb_entities.specs.ByHash.{entity_key, hash_of_topic, span}
use Rattle.sb_entities.specs.Names.{AreByName}
use Rattle.sb_entities.specs.Stores.{entities_in, entity_in}
use Rattle.sb_entities.proofs.HashFinds.{sorted_seen}
use Rattle.sb_entities.proofs.Walking.{next_above, walk_begun, walk_done, walked}
use Rattle.sb_entities.proofs.finding.subscriptions_of.Goals as goal

pub walk-init : goal.walk-init
walk-init c = record {
  found = walk_begun c.args.topic.now c.name_hash-hash.result c.key_of-from.result (entities_in c.args.rows.now) c.new-found.result.items c.new-found.ensures.items c.key_of-from.ensures;
  order = subst (λ (xs : List (Bor Listed)). AreByName (map (λ (b : Bor Listed). b.now) xs)) (sym c.new-found.ensures.items) tt;
  within = omega (arith, c.key_of-from.ensures);
}

pub walk-smaller : goal.walk-smaller
walk-smaller c =
    let h = c.name_hash-hash.result in
    let e = entity_in c.in-Some.entity.now in
    let above : c.walk.from ≤ entity_key h e.about.number = next_above c.args.topic.now h c.name_hash-hash.ensures.hash c.walk.from e (entities_in c.args.rows.now) (c.in-Some.ensures hash_of_topic c.requires.holds) in
    let number = ap (λ (l : Listed). l.number) c.about-in-Some.ensures in
    let less : h * span + span - (c.key_of-from-in-Some.result + 1) < h * span + span - c.walk.from = omega (arith, above, number, c.key_of-from-in-Some.ensures) in
    less

pub walk-preserved : goal.walk-preserved
walk-preserved c =
    let h = c.name_hash-hash.result in
    let es = entities_in c.args.rows.now in
    record {
      found =
          walked c.args.topic.now h c.name_hash-hash.ensures.hash c.walk.from (c.key_of-from-in-Some.result + 1) (entity_in c.in-Some.entity.now) c.about.result.now es (map (λ (b : Bor Listed). b.now) c.walk.found.items) (map (λ (b : Bor Listed). b.now) c.in_ok-found.found.items)
          (subscriptions_of (map (λ e. e.about) es) c.args.topic.now) (sorted_seen c.args.rows.now c.requires.order) (c.in-Some.ensures hash_of_topic c.requires.holds) c.about.ensures c.in_ok-found.ensures.found
          (ap (λ k. k + 1) c.key_of-from-in-Some.ensures ∙ ap (λ (l : Listed). entity_key h l.number + 1) (c.about-in-Some.ensures ∙ sym c.about.ensures)) c.walk.invariant.found;
      order = c.in_ok-found.ensures.order;
      within = omega (arith, c.key_of-from-in-Some.ensures);
    }

pub returns : goal.returns
returns c =
    let es = entities_in c.args.rows.now in
    walk_done c.args.topic.now c.name_hash-hash.result c.name_hash-hash.ensures.hash c.walk.from es (map (λ (b : Bor Listed). b.now) c.walk.found.items) (subscriptions_of (map (λ e. e.about) es) c.args.topic.now) (c.in_default.ensures hash_of_topic c.requires.holds) c.walk.invariant.found
