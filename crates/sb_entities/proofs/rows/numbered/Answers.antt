use Rattle.std.proofs.Common.{ap, ◌∙◌}
use Rattle.std.specs.Option.{option_map}
use Rattle.sb_machine.specs.Namespace.{is_entity}
use Rattle.sb_machine.proofs.Places.{found_at, found_none}
use Rattle.sb_entities.specs.Stocks.{has_number}
use Rattle.sb_entities.specs.Stores.{entity_in, entry_in}
use Rattle.sb_entities.proofs.Seen.{find_seen}
use Rattle.sb_entities.proofs.rows.numbered.Goals as goal

pub returns-in-Some : goal.returns-in-Some
returns-in-Some c =
    ap (option_map entity_in) (found_at (λ e. has_number c.args.number (entry_in e)) c.args.rows.now c.in-Some.place c.index-rows-place.result c.in-Some.ensures c.index-rows-place.is) ∙ find_seen entity_in (is_entity c.args.number) c.args.rows.now

pub returns-in-None : goal.returns-in-None
returns-in-None c = ap (option_map entity_in) (found_none (λ e. has_number c.args.number (entry_in e)) c.args.rows.now c.in-None.ensures) ∙ find_seen entity_in (is_entity c.args.number) c.args.rows.now
