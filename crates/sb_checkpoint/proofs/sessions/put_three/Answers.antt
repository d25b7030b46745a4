use Rattle.std.proofs.Common.{◌++◌}
use Rattle.std.proofs.lemmas.List.Elements.{All-append}
use Rattle.std.proofs.lemmas.Result.{on_ok_weaker}
use Rattle.sb_entities.specs.Stores.{entity_in}
use Rattle.sb_machine.specs.declared.call.Part.TheVariants.{Main, Dead, Transfer}
use Rattle.sb_snapshot.specs.Base.{placed_sessions}
use Rattle.sb_snapshot.specs.Sessions.{session}
use Rattle.sb_checkpoint.proofs.Each.{all_front, all_behind}
use Rattle.sb_checkpoint.proofs.sessions.put_three.Goals as goal

pub put_part-requires : goal.put_part-requires
put_part-requires g c = let e = entity_in c.args.entity.now in all_front session.Asks (placed_sessions e Main) (placed_sessions e Dead ++ placed_sessions e Transfer) c.requires

pub put_part-requires-2 : goal.put_part-requires-2
put_part-requires-2 g c =
    let e = entity_in c.args.entity.now in
    all_front session.Asks (placed_sessions e Dead) (placed_sessions e Transfer) (all_behind session.Asks (placed_sessions e Main) (placed_sessions e Dead ++ placed_sessions e Transfer) c.requires)

pub put_part-requires-3 : goal.put_part-requires-3
put_part-requires-3 g c =
    let e = entity_in c.args.entity.now in
    all_behind session.Asks (placed_sessions e Dead) (placed_sessions e Transfer) (all_behind session.Asks (placed_sessions e Main) (placed_sessions e Dead ++ placed_sessions e Transfer) c.requires)

pub returns-clause-fits : goal.returns-clause-fits
returns-clause-fits g c =
    let e = entity_in c.args.entity.now in
    let dead = placed_sessions e Dead in
    let transfer = placed_sessions e Transfer in
    on_ok_weaker c.put_part-3.result
    (λ last. All-append session.Fits (placed_sessions e Main) (dead ++ transfer) c.in_ok-put_part.ensures.fits (All-append session.Fits dead transfer c.in_ok-put_part-2.ensures.fits last))
    c.put_part-3.ensures.fits
