use Rattle.std.proofs.Common.{rules}
use Rattle.sb_desk.specs.Groups.{posts_in, IsArranged}
use Rattle.sb_desk.proofs.Seating.{tells, compares}
use Rattle.sb_desk.proofs.notes.take_in.Goals as goal

pub join_seat-requires : goal.join_seat-requires
join_seat-requires g c = (search rules, search rules, search rules, search rules, tells (λ x. g.V.Served.stands x.value) (λ x. g.V.Served.origin x.value) posts_in IsArranged _ _ _ _ _ _ _ c.requires.idle.0 c.requires.idle.1 c.requires.news.1 c.requires.news.2)

pub load-requires : goal.load-requires
load-requires g c = (search rules, search rules, compares (λ x. g.V.Served.stands x.value) (λ x. g.V.Served.origin x.value) posts_in IsArranged _ _ _ _ _ _ (search rules))
