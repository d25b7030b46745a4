use Rattle.std.proofs.Common.{◌≡◌, ◌<◌, ◌^◌, ℕ, true, None, length, subst}
use Rattle.std.specs.Prelude.{OnOk}
use Rattle.sb_codec.specs.Forms.{Follow}
use Rattle.sb_codec.proofs.Following.{on_ok_with}
use Rattle.sb_snapshot.proofs.counted.Listed64Piece.put.Goals as goal

pub put_items-requires : goal.put_items-requires
put_items-requires g c = rw c.as_slice.ensures c.requires

pub returns-clause-fits : goal.returns-clause-fits
returns-clause-fits g c =
    on_ok_with c.put_items.result (length c.args.value.now < 2 ^ 64) (Follow (λ last x. g.F.Piece.form.Fits x × (g.F.Item.follows last x ≡ true)) None c.args.value.now)
    (subst (λ (n : ℕ). n < 2 ^ 64) c.len.ensures c.in_ok-put.ensures.fits)
    (subst (λ xs. OnOk c.put_items.result (Follow (λ last x. g.F.Piece.form.Fits x × (g.F.Item.follows last x ≡ true)) None xs)) c.as_slice.ensures c.put_items.ensures.fits)
