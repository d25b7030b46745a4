use Rattle.std.proofs.Common.{rules, ◌∷◌, ap, sym, ◌∙◌, Some}
use Rattle.atomic_table.specs.Table.{rest}
use Rattle.sb_desk.specs.Groups.{posts_in, IsArranged}
use Rattle.sb_desk.proofs.Turning.{takes_out}
use Rattle.sb_desk.proofs.turns.take_out.Goals as goal

pub load-requires : goal.load-requires
load-requires g c = (search rules, search rules, takes_out (λ x. g.V.Served.stands x.value) (λ x. g.V.Served.origin x.value) posts_in IsArranged _ _ _ _ _ _ c.requires.turn.0)

pub exchange-requires : goal.exchange-requires
exchange-requires g c = let t = c.load.ensures.2 in (search rules, (Some t.0, ap (λ m. m.1) t.2 ∙ ap (λ cs. (0, Some t.0) ∷ rest cs) (sym (ap (λ m. m.1) t.2))))
