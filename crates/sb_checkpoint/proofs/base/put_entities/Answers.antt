use Rattle.std.proofs.Common.{map}
use Rattle.std.specs.List.{flat_map}
use Rattle.sb_codec.proofs.Following.{on_ok_with}
use Rattle.sb_codec.specs.Messages.{any_next}
use Rattle.sb_entities.specs.Stores.{space_in}
use Rattle.sb_snapshot.specs.Base.{head_of, leaves_in}
use Rattle.sb_snapshot.specs.Entities.{head, is_next_head}
use Rattle.sb_snapshot.specs.Lists.{listed64}
use Rattle.sb_snapshot.specs.Sessions.{leaf}
use Rattle.sb_checkpoint.proofs.base.put_entities.Goals as goal

pub returns-clause-fits : goal.returns-clause-fits
returns-clause-fits g c few =
    let es = (space_in c.args.space.now).entities in
    on_ok_with c.put_leaves.result ((listed64 is_next_head head).Fits (map head_of es)) ((listed64 any_next leaf).Fits (flat_map leaves_in es)) c.in_ok-put_heads.ensures.fits (c.put_leaves.ensures.fits few)
