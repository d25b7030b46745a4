use Rattle.std.proofs.Common.{sym, subst}
use Rattle.sb_desk.specs.Desks.{Asking, IsOf}
use Rattle.sb_server.proofs.pending.post.Goals as goal

pub returns-clause-desk : goal.returns-clause-desk
returns-clause-desk g c = subst (λ (a : Asking). IsOf c.args.desk.now a.pass) (sym c.post-posted.ensures.posted) c.requires.desk
