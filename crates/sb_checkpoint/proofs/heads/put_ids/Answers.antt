use Rattle.std.proofs.Common.{◌<◌, ◌^◌, ◌++◌, ℕ, length, length-append, subst, sym}
use Rattle.std.specs.Prelude.{OnOk}
use Rattle.std.specs.List.{All}
use Rattle.std.proofs.lemmas.List.Elements.{All-append}
use Rattle.std.proofs.lemmas.Result.{on_ok_weaker}
use Rattle.sb_codec.proofs.Following.{each_fits}
use Rattle.sb_snapshot.specs.Entities.{accepted, is_next_id}
use Rattle.sb_checkpoint.proofs.Fitting.{listed_fits}
use Rattle.sb_checkpoint.proofs.Each.{all_front, all_behind}
use Rattle.sb_checkpoint.proofs.heads.put_ids.Goals as goal

pub put_items-requires : goal.put_items-requires
put_items-requires g c = all_front accepted.Asks c.as_slices.result.0.now c.as_slices.result.1.now (subst (All accepted.Asks) (sym c.as_slices.ensures) (each_fits accepted.Asks is_next_id c.args.ids.now.ids c.requires))

pub put_items-requires-2 : goal.put_items-requires-2
put_items-requires-2 g c = all_behind accepted.Asks c.as_slices.result.0.now c.as_slices.result.1.now (subst (All accepted.Asks) (sym c.as_slices.ensures) (each_fits accepted.Asks is_next_id c.args.ids.now.ids c.requires))

pub returns-clause-fits : goal.returns-clause-fits
returns-clause-fits g c =
    let front = c.as_slices.result.0.now in
    let back = c.as_slices.result.1.now in
    let ids = c.args.ids.now.ids in
    let few : length (front ++ back) < 2 ^ 64 = subst (λ (n : ℕ). n < 2 ^ 64) (sym (length-append front back)) c.in_ok-put_number.ensures.fits in
    let each : OnOk c.put_items-2.result (All accepted.Fits ids) =
    on_ok_weaker c.put_items-2.result (λ all. subst (All accepted.Fits) c.as_slices.ensures (All-append accepted.Fits front back c.in_ok-put_items.ensures.fits all)) c.put_items-2.ensures.fits in
    listed_fits c.put_items-2.result is_next_id accepted ids (subst (λ xs. length xs < 2 ^ 64) c.as_slices.ensures few) c.requires each
