use Rattle.std.proofs.Common.{◌<◌, ◌^◌, length, subst, sym}
use Rattle.std.specs.Prelude.{OnOk}
use Rattle.std.specs.List.{All}
use Rattle.sb_codec.proofs.Following.{each_fits}
use Rattle.sb_snapshot.specs.Replies.{kept, is_next_kept}
use Rattle.sb_checkpoint.proofs.Fitting.{listed_fits}
use Rattle.sb_checkpoint.proofs.clients.put_clients.Goals as goal

pub put_items-requires : goal.put_items-requires
put_items-requires g c = subst (All kept.Asks) (sym c.as_slice-clients.ensures) (each_fits kept.Asks is_next_kept c.args.clients.now.clients c.requires)

pub returns-clause-fits : goal.returns-clause-fits
returns-clause-fits g c =
    let clients = c.args.clients.now.clients in
    let same = c.as_slice-clients.ensures in
    listed_fits c.put_items.result is_next_kept kept clients (subst (λ xs. length xs < 2 ^ 64) same c.in_ok-put_number.ensures.fits) c.requires (subst (λ xs. OnOk c.put_items.result (All kept.Fits xs)) same c.put_items.ensures.fits)
