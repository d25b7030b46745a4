use Rattle.std.proofs.Common.{rules}
use Rattle.sb_desk.specs.Groups.{posts_in, IsArranged}
use Rattle.sb_desk.proofs.Turning.{draws}
use Rattle.sb_desk.proofs.turns.draw.Goals as goal

pub fetch_add-requires : goal.fetch_add-requires
fetch_add-requires g c = (search rules, search rules, draws (λ x. g.V.Served.stands x.value) (λ x. g.V.Served.origin x.value) posts_in IsArranged _ _ _ _ _ _ c.requires.idle.0 c.requires.idle.1)
