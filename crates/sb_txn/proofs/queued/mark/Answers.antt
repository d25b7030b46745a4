use Rattle.std.proofs.Common.{ap, ◌∙◌}
use Rattle.std.specs.List.{list_any}
use Rattle.sb_index.specs.Rows.{is_at}
use Rattle.sb_txn.proofs.Keys.{noted_new}
use Rattle.sb_txn.proofs.queued.mark.Goals as goal

pub returns-clause-keys : goal.returns-clause-keys
returns-clause-keys c k = ap (list_any (is_at k)) c.insert.ensures.rows ∙ noted_new k _ _
