use Rattle.sb_app.proofs.Checkpoints.{is_whole}
use Rattle.sb_app.proofs.checkpointing.end_run.Goals as goal

pub checkpoint_status-requires-clause-running : goal.checkpoint_status-requires-clause-running
checkpoint_status-requires-clause-running g c =
    let whole = is_whole c.args.ran c.if-ran-gt1.false in
    c.requires.running whole.0 whole.1

pub returns-clause-early : goal.returns-clause-early
returns-clause-early g c other =
    let whole = is_whole c.args.ran c.if-ran-gt1.false in
    absurd (other whole.0 whole.1)
