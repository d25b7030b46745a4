use Rattle.std.proofs.Common.{◌<◌, ◌^◌, map, length, subst, sym}
use Rattle.std.specs.Prelude.{OnOk}
use Rattle.std.specs.List.{All}
use Rattle.std.proofs.lemmas.List.Elements.{All-map}
use Rattle.std.proofs.lemmas.Result.{on_ok_weaker}
use Rattle.sb_codec.proofs.Following.{each_fits}
use Rattle.sb_entities.specs.Stores.{entity_in, space_in}
use Rattle.sb_snapshot.specs.Base.{head_of}
use Rattle.sb_snapshot.specs.Entities.{head, is_next_head}
use Rattle.sb_checkpoint.proofs.Fitting.{listed_fits}
use Rattle.sb_checkpoint.proofs.Each.{all_before, few_made}
use Rattle.sb_checkpoint.proofs.heads.put_heads.Goals as goal

pub put_each-requires : goal.put_each-requires
put_each-requires g c =
    let all = each_fits head.Asks is_next_head (map head_of (space_in c.args.space.now).entities) c.requires in
    all_before (λ e. head.Asks (head_of e)) entity_in c.entities-entities.result.now (subst (All (λ e. head.Asks (head_of e))) (sym c.entities-entities.ensures) (all_before head.Asks head_of (space_in c.args.space.now).entities all))

pub returns-clause-fits : goal.returns-clause-fits
returns-clause-fits g c =
    let rows = c.entities-entities.result.now in
    let es = (space_in c.args.space.now).entities in
    let few : length es < 2 ^ 64 = subst (λ xs. length xs < 2 ^ 64) c.entities-entities.ensures (few_made entity_in rows (2 ^ 64) c.in_ok-put_number.ensures.fits) in
    let each : OnOk c.put_each.result (All head.Fits (map head_of es)) =
    on_ok_weaker c.put_each.result (λ all. All-map head.Fits head_of es (subst (All (λ e. head.Fits (head_of e))) c.entities-entities.ensures (All-map (λ e. head.Fits (head_of e)) entity_in rows all))) c.put_each.ensures.fits in
    listed_fits c.put_each.result is_next_head head (map head_of es) (few_made head_of es (2 ^ 64) few) c.requires each
