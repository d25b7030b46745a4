use Rattle.std.proofs.Common.{◌+◌, ◌∙◌, arith}
use Rattle.sb_entities.specs.Stores.{entities_in}
use Rattle.sb_entities.proofs.HashFinds.{first_nowhere, first_there, sorted_seen}
use Rattle.sb_entities.proofs.hashes.first_from.Goals as goal

pub returns-in-Some : goal.returns-in-Some
returns-in-Some c f holds =
    c.numbered.ensures
    ∙ first_there f c.args.hash c.args.from (c.key_of.result + 18446744073709551616) c.in-Some.row c.args.index.now.rows (entities_in c.args.rows.now) c.requires.within (omega (arith, c.key_of.ensures)) (sorted_seen c.args.rows.now c.requires.order) c.in-Some.ensures holds

pub returns-in-None : goal.returns-in-None
returns-in-None c f holds = first_nowhere f c.args.hash c.args.from (c.key_of.result + 18446744073709551616) c.args.index.now.rows (entities_in c.args.rows.now) c.requires.within (omega (arith, c.key_of.ensures)) c.in-None.ensures holds
