use Rattle.std.proofs.Common.{subst}
use Rattle.std.specs.Prelude.{OnOk}
use Rattle.sb_codec.proofs.Following.{on_ok_with}
use Rattle.sb_entities.specs.Stores.{entity_in}
use Rattle.sb_snapshot.specs.Entities.{about, accepted, head, is_next_id}
use Rattle.sb_snapshot.specs.Lists.{listed64}
use Rattle.sb_checkpoint.proofs.heads.put_head.Goals as goal

pub returns-clause-fits : goal.returns-clause-fits
unfolding head
returns-clause-fits g c =
    let e = entity_in c.args.entity.now in
    on_ok_with c.put_ids.result (about.Fits e.about) ((listed64 is_next_id accepted).Fits e.ids) (subst about.Fits c.about.ensures c.in_ok-put_item.ensures.fits)
    (subst (λ ids. OnOk c.put_ids.result ((listed64 is_next_id accepted).Fits ids)) c.ids.ensures c.put_ids.ensures.fits)
