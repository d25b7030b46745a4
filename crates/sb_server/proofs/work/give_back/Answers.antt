use Rattle.std.proofs.Common.{subst, sym, ◌∙◌, ◌∷◌, []}
use Rattle.sb_outside.specs.Streams.{Gains}
use Rattle.sb_server.specs.declared.stage.Guest.{Guest}
use Rattle.sb_server.proofs.Attending.{serves_same}
use Rattle.sb_server.proofs.work.give_back.Goals as goal

pub returns-clause-taken : goal.returns-clause-taken
returns-clause-taken g c = λ guest is.
    subst (λ (x : Guest g.row.D-Conn.Denot). Gains (g.D.Door.taken c.args.door.now) (g.D.Door.taken c.done.new.self) (x.conn ∷ []))
    (serves_same _ _ _ guest (sym c.in-Serves.is ∙ (c.replace-old.ensures.value ∙ is))) c.done.ensures.taken
