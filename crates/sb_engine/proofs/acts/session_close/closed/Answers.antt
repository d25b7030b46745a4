use Rattle.std.proofs.Common.{List, [], ap, false, filter, map, subst, ◌∙◌, ◌∷◌}
use Rattle.std.specs.Borrow.{Bor}
use Rattle.std.specs.List.{flat_map}
use Rattle.std.proofs.lemmas.Result.{on_ok_weaker}
use Rattle.sb_machine.specs.Delivery.{released, in_part}
use Rattle.sb_machine.specs.Leases.{is_under_session}
use Rattle.sb_machine.specs.Namespace.{listed, leaf_of}
use Rattle.sb_machine.specs.declared.change.LeafChange.TheVariants.{Closes}
use Rattle.sb_machine.specs.declared.state.StoredCopy.{StoredCopy}
use Rattle.sb_fanout.specs.Lasts.{given_in}
use Rattle.sb_entities.specs.Stores.{entity_in, space_in}
use Rattle.sb_engine.specs.Growing.{IsGrown}
use Rattle.sb_engine.proofs.Growing.{grown_more}
use Rattle.sb_engine.proofs.acts.session_close.closed.Goals as goal

pub returns : goal.returns
returns c =
    let s = space_in c.args.space.now in
    let e = entity_in c.args.entity.now in
    let p = λ (x : StoredCopy). is_under_session c.args.lock x.standing in
    let f = λ (x : StoredCopy). released (listed s) c.args.moment e c.args.part x false false in
    let copies = filter p (leaf_of c.args.part e).copies in
    let after = given_in c.release_all.new.lasts in
    on_ok_weaker c.release_all.result (λ (grown : IsGrown s (flat_map f (map (λ (b : Bor StoredCopy). b.now) c.deref.result.now)) (given_in c.args.lasts.now) after c.push_in.new.changes c.release_all.new.changes).
    grown_more s (in_part c.args.part e (Closes c.args.lock) ∷ []) (flat_map f copies) (given_in c.args.lasts.now) (given_in c.args.lasts.now) after c.args.changes.now c.push_in.new.changes c.release_all.new.changes
    (c.in_ok-push_in.ensures.grown s (given_in c.args.lasts.now))
    (subst (λ (l : List StoredCopy). IsGrown s (flat_map f l) (given_in c.args.lasts.now) after c.push_in.new.changes c.release_all.new.changes) (ap (map (λ (b : Bor StoredCopy). b.now)) c.deref.ensures.value ∙ c.in_ok-copies.ensures) grown))
    c.release_all.ensures
