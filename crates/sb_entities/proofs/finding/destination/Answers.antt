use Rattle.std.proofs.Common.{ap, sym, Some, ◌∙◌}
use Rattle.sb_machine.specs.Visits.{is_named}
use Rattle.sb_machine.specs.declared.state.Listed.{Listed}
use Rattle.sb_entities.specs.ByHash.{hash_of_path}
use Rattle.sb_entities.specs.Stores.{entities_in, entity_in}
use Rattle.sb_entities.proofs.HashFinds.{name_found, name_nowhere}
use Rattle.sb_entities.proofs.finding.destination.Goals as goal

pub returns-in_default : goal.returns-in_default
returns-in_default c = name_nowhere c.args.name.now c.name_hash-hash.result c.key_of.result (entities_in c.args.rows.now) c.name_hash-hash.ensures.hash c.key_of.ensures (c.in_default.ensures hash_of_path c.requires.holds)

pub returns-then-is_named : goal.returns-then-is_named
returns-then-is_named c =
    ap (λ (l : Listed). Some l) c.about-then-is_named.ensures
    ∙ name_found c.args.name.now c.name_hash-hash.result c.key_of.result (entities_in c.args.rows.now) (entity_in c.in-Some.entity.now) c.name_hash-hash.ensures.hash c.key_of.ensures (c.in-Some.ensures hash_of_path c.requires.holds)
    (ap (λ (l : Listed). is_named c.args.name.now l) (sym c.about.ensures) ∙ sym c.if-is_named.ensures)
