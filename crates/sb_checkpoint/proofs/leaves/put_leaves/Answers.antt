use Rattle.std.proofs.Common.{subst, sym}
use Rattle.std.specs.List.{All, flat_map}
use Rattle.std.proofs.lemmas.List.Elements.{All-map}
use Rattle.std.proofs.lemmas.Result.{on_ok_weaker}
use Rattle.sb_codec.proofs.Following.{each_fits}
use Rattle.sb_codec.specs.Messages.{any_next}
use Rattle.sb_entities.specs.Stores.{entity_in, space_in}
use Rattle.sb_snapshot.specs.Base.{leaves_in}
use Rattle.sb_snapshot.specs.Sessions.{leaf}
use Rattle.sb_checkpoint.proofs.Fitting.{listed_fits}
use Rattle.sb_checkpoint.proofs.Each.{all_before, all_joined, all_within}
use Rattle.sb_checkpoint.proofs.leaves.put_leaves.Goals as goal

pub put_each-requires : goal.put_each-requires
put_each-requires g c =
    let all = each_fits leaf.Asks any_next (flat_map leaves_in (space_in c.args.space.now).entities) c.requires in
    all_before (λ e. All leaf.Asks (leaves_in e)) entity_in c.entities-entities.result.now (subst (All (λ e. All leaf.Asks (leaves_in e))) (sym c.entities-entities.ensures) (all_within leaf.Asks leaves_in (space_in c.args.space.now).entities all))

pub returns-clause-fits : goal.returns-clause-fits
returns-clause-fits g c few =
    let rows = c.entities-entities.result.now in
    let es = (space_in c.args.space.now).entities in
    listed_fits c.put_each.result any_next leaf (flat_map leaves_in es) few c.requires
    (on_ok_weaker c.put_each.result (λ all. all_joined leaf.Fits leaves_in es (subst (All (λ e. All leaf.Fits (leaves_in e))) c.entities-entities.ensures (All-map (λ e. All leaf.Fits (leaves_in e)) entity_in rows all))) c.put_each.ensures.fits)
