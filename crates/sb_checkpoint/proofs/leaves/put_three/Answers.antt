use Rattle.std.proofs.Common.{[], ◌∷◌, lit<}
use Rattle.std.proofs.lemmas.List.Elements.{All-nil, All-cons}
use Rattle.std.proofs.lemmas.Result.{on_ok_weaker}
use Rattle.sb_snapshot.specs.Sessions.{leaf}
use Rattle.sb_entities.specs.Stores.{entity_in}
use Rattle.sb_machine.specs.declared.call.Part.TheVariants.{Main, Dead, Transfer}
use Rattle.sb_snapshot.specs.Base.{placed_leaf}
use Rattle.sb_checkpoint.proofs.leaves.put_three.Goals as goal

pub put_leaf-requires : goal.put_leaf-requires
put_leaf-requires g c = c.requires 0 (placed_leaf (entity_in c.args.entity.now) Main) (lit< tt)

pub put_leaf-requires-2 : goal.put_leaf-requires-2
put_leaf-requires-2 g c = c.requires 1 (placed_leaf (entity_in c.args.entity.now) Dead) (lit< tt)

pub put_leaf-requires-3 : goal.put_leaf-requires-3
put_leaf-requires-3 g c = c.requires 2 (placed_leaf (entity_in c.args.entity.now) Transfer) (lit< tt)

pub returns-clause-fits : goal.returns-clause-fits
returns-clause-fits g c =
    let e = entity_in c.args.entity.now in
    let dead = placed_leaf e Dead in
    let transfer = placed_leaf e Transfer in
    on_ok_weaker c.put_leaf-3.result
    (λ last. All-cons leaf.Fits (placed_leaf e Main) (dead ∷ transfer ∷ []) c.in_ok-put_leaf.ensures.fits (All-cons leaf.Fits dead (transfer ∷ []) c.in_ok-put_leaf-2.ensures.fits (All-cons leaf.Fits transfer [] last (All-nil leaf.Fits))))
    c.put_leaf-3.ensures.fits
