use Rattle.std.proofs.Common.{rules}
use Rattle.sb_desk.specs.Groups.{posts_in, IsArranged}
use Rattle.sb_desk.proofs.Seating.{gathers}
use Rattle.sb_desk.proofs.closing.gather.Goals as goal

pub join_seat-requires : goal.join_seat-requires
join_seat-requires g c = (search rules, search rules, search rules, search rules, gathers (λ x. g.V.Served.stands x.value) (λ x. g.V.Served.origin x.value) posts_in IsArranged _ _ _ _ _ _ _ c.requires.idle.0 c.requires.idle.2 c.requires.idle.3)
