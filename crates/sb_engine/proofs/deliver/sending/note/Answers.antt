use Rattle.std.proofs.Common.{List, ap, sym, ℕ, ◌++◌, ◌∙◌}
use Rattle.std.proofs.lemmas.Result.{on_ok_weaker}
use Rattle.sb_machine.specs.declared.state.Listed.{Listed}
use Rattle.sb_entities.specs.Stores.{entity_in}
use Rattle.sb_engine.proofs.Sendings.{noted_none, noted_nameless, noted_one}
use Rattle.sb_engine.proofs.deliver.sending.note.Goals as goal

pub returns-in_default-clause-fresh : goal.returns-in_default-clause-fresh
returns-in_default-clause-fresh c = noted_none (entity_in c.args.entity.now) c.args.message.now c.args.noted.now.items c.about.result.now.description.window c.in_default.is (sym (ap (λ (a : Listed). a.description.window) c.about.ensures))

pub returns-in_default-id_of-clause-fresh : goal.returns-in_default-id_of-clause-fresh
returns-in_default-id_of-clause-fresh c = noted_nameless (entity_in c.args.entity.now) c.args.message.now c.args.noted.now.items (sym c.in_default-id_of.ensures)

pub returns-clause-fresh : goal.returns-clause-fresh
returns-clause-fresh c =
    on_ok_weaker c.note_id.result (λ is. is ∙ ap (λ (l : List (List ℕ)). c.args.noted.now.items ++ l) (noted_one (entity_in c.args.entity.now) c.args.message.now c.in-Some.field-0 c.in-Some-id_of.id.now (sym (ap (λ (a : Listed). a.description.window) c.about.ensures) ∙ c.in-Some.is) (sym c.in-Some-id_of.ensures))) c.note_id.ensures.fresh
