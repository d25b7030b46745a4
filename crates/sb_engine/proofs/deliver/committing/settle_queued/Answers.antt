use Rattle.std.proofs.Common.{List, ap, refl, sym, ◌∙◌}
use Rattle.std.proofs.lemmas.Result.{on_ok_weaker}
use Rattle.sb_machine.specs.Leases.{leased}
use Rattle.sb_machine.specs.declared.call.Which.TheVariants.{Number}
use Rattle.sb_machine.specs.declared.state.Leaf.{Leaf}
use Rattle.sb_fanout.specs.Lasts.{given_in}
use Rattle.sb_entities.specs.Stores.{entity_in, space_in}
use Rattle.sb_engine.specs.Commits.{is_settled}
use Rattle.sb_engine.specs.Sendings.{told}
use Rattle.sb_engine.specs.declared.deliver.committing.SettledCopy.{SettledCopy}
use Rattle.sb_engine.proofs.SettledCommits.{acts_none, acts_settled}
use Rattle.sb_engine.proofs.deliver.committing.settle_queued.Goals as goal

pub returns-in_default-clause-acts : goal.returns-in_default-clause-acts
returns-in_default-clause-acts c =
    let t = c.args.moment in
    let s = space_in c.args.space.now in
    let from = c.args.from.now in
    acts_none t s (entity_in c.args.entity.now) c.args.done.now.items from c.args.number c.args.token c.args.session c.args.how.now c.is_settled.result (told c.args.sending.now) c.requires.under_way c.requires.found (c.is_settled.ensures ∙ ap (λ (l : List SettledCopy). is_settled l c.args.from.now.part c.args.number) c.as_slice.ensures.value) c.if-is_settled.false (sym (ap (λ (l : Leaf). leased s t c.args.token (Number c.args.number) l) c.part-part.ensures) ∙ sym c.in_default.ensures)

pub returns-clause-acts : goal.returns-clause-acts
returns-clause-acts c =
    let t = c.args.moment in
    let s = space_in c.args.space.now in
    let e = entity_in c.args.entity.now in
    let from = c.args.from.now in
    let p = c.args.sending.now in
    let looked = sym (ap (λ (l : Leaf). leased s t c.args.token (Number c.args.number) l) c.part-part.ensures) ∙ sym c.in-Some.ensures in
    on_ok_weaker c.settled.result (λ grown. (acts_settled t s e c.args.done.now.items c.push.new.self.items (record { part = from.part; number = c.in-Some.copy.now.number }) from c.args.number c.args.token c.args.session c.args.how.now c.is_settled.result c.goes_with.result c.in-Some.copy.now (given_in p.lasts) (given_in c.settled.new.lasts) p.noted.items p.changes c.settled.new.changes p.receipts.items c.requires.under_way c.requires.found c.goes_with.ensures c.if-not-goes_with.false (c.is_settled.ensures ∙ ap (λ (l : List SettledCopy). is_settled l c.args.from.now.part c.args.number) c.as_slice.ensures.value) c.if-is_settled.false looked c.in_ok-push.ensures.items refl refl grown).0) c.settled.ensures.grown

pub returns-clause-found : goal.returns-clause-found
returns-clause-found c =
    let t = c.args.moment in
    let s = space_in c.args.space.now in
    let e = entity_in c.args.entity.now in
    let from = c.args.from.now in
    let p = c.args.sending.now in
    let looked = sym (ap (λ (l : Leaf). leased s t c.args.token (Number c.args.number) l) c.part-part.ensures) ∙ sym c.in-Some.ensures in
    on_ok_weaker c.settled.result (λ grown. (acts_settled t s e c.args.done.now.items c.push.new.self.items (record { part = from.part; number = c.in-Some.copy.now.number }) from c.args.number c.args.token c.args.session c.args.how.now c.is_settled.result c.goes_with.result c.in-Some.copy.now (given_in p.lasts) (given_in c.settled.new.lasts) p.noted.items p.changes c.settled.new.changes p.receipts.items c.requires.under_way c.requires.found c.goes_with.ensures c.if-not-goes_with.false (c.is_settled.ensures ∙ ap (λ (l : List SettledCopy). is_settled l c.args.from.now.part c.args.number) c.as_slice.ensures.value) c.if-is_settled.false looked c.in_ok-push.ensures.items refl refl grown).1) c.settled.ensures.grown
