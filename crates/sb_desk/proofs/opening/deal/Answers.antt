use Rattle.std.proofs.Common.{rules}
use Rattle.sb_desk.specs.Groups.{posts_in, IsArranged}
use Rattle.sb_desk.proofs.Seating.{deals}
use Rattle.sb_desk.proofs.opening.deal.Goals as goal

pub split_seat-requires : goal.split_seat-requires
split_seat-requires g c = (search rules, search rules, deals (λ x. g.V.Served.stands x.value) (λ x. g.V.Served.origin x.value) posts_in IsArranged _ _ _ _ _ c.requires.idle.0 c.requires.idle.1 c.requires.idle.2 c.requires.idle.3)
