use Rattle.std.proofs.Common.{ap, ℕ, ◌∙◌}
use Rattle.std.specs.Prelude.{nat_le}
use Rattle.sb_entities.specs.Stores.{space_in}
use Rattle.sb_engine.proofs.DueEntities.{soonest_tells}
use Rattle.sb_engine.proofs.Dues.{comes_is_due}
use Rattle.sb_engine.proofs.time.due.is_due.Goals as goal

pub returns-then-moment-lt18446744073709551615 : goal.returns-then-moment-lt18446744073709551615
returns-then-moment-lt18446744073709551615 c =
    ap (λ (n : ℕ). nat_le n c.args.moment) c.soonest.ensures ∙ soonest_tells c.args.moment (space_in c.args.space.now) c.if-moment-lt18446744073709551615.true

pub returns : goal.returns
returns c = c.comes.ensures ∙ comes_is_due c.args.moment (space_in c.args.space.now)
