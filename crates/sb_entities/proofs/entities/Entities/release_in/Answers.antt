use Rattle.std.proofs.Common.{sym, subst, arith}
use Rattle.sb_machine.specs.Keyed.{AreRising}
use Rattle.sb_entities.specs.ByHash.{hash_of_path, hash_of_topic}
use Rattle.sb_entities.specs.DueRows.{HoldsDues}
use Rattle.sb_entities.specs.Tables.{number_of}
use Rattle.sb_entities.proofs.Holding.{held_same}
use Rattle.sb_entities.proofs.InOrder.{sorted}
use Rattle.sb_entities.proofs.entities.Entities.release_in.Goals as goal

pub release_row-requires : goal.release_row-requires
release_row-requires c = sorted c.self.inside.last c.self.inside.rows.items c.self.invariant.0

pub invariant_of-self : goal.invariant_of-self
invariant_of-self c =
    let s = c.self.inside in (
      subst (λ es. AreRising number_of 0 s.last es) (sym c.release_row.ensures.entities) c.self.invariant.0,
      omega (arith, c.release_row.ensures.len, c.release_row.ensures.capacity, c.self.invariant.1),
      subst (λ es. HoldsDues s.spare s.dues es) (sym c.release_row.ensures.entities) c.self.invariant.2,
      c.self.invariant.3,
      c.self.invariant.4,
      held_same hash_of_path s.by_path.rows s.rows.items c.release_row.new.rows.items c.self.invariant.5 c.release_row.ensures.entities,
      held_same hash_of_topic s.by_topic.rows s.rows.items c.release_row.new.rows.items c.self.invariant.6 c.release_row.ensures.entities,
    )
