use Rattle.std.proofs.Common.{ap, sym, ◌∙◌}
use Rattle.sb_machine.specs.Names.{is_same_entity}
use Rattle.sb_machine.specs.declared.state.Listed.{Listed}
use Rattle.sb_entities.specs.ByHash.{hash_of_path}
use Rattle.sb_entities.specs.Stores.{entities_in, entity_in}
use Rattle.sb_entities.proofs.HashFinds.{path_found, path_nowhere}
use Rattle.sb_entities.proofs.finding.entity_at.Goals as goal

pub returns-in_default : goal.returns-in_default
returns-in_default c = path_nowhere c.args.path.now c.path_hash-hash.result c.key_of.result (entities_in c.args.rows.now) c.path_hash-hash.ensures.hash c.key_of.ensures (c.in_default.ensures hash_of_path c.requires.holds)

pub returns-then-is_same_entity : goal.returns-then-is_same_entity
returns-then-is_same_entity c =
    path_found c.args.path.now c.path_hash-hash.result c.key_of.result (entities_in c.args.rows.now) (entity_in c.in-Some.entity.now) c.path_hash-hash.ensures.hash c.key_of.ensures (c.in-Some.ensures hash_of_path c.requires.holds)
    (ap (λ (l : Listed). is_same_entity l.path c.args.path.now) (sym c.about.ensures) ∙ sym c.if-is_same_entity.ensures)
