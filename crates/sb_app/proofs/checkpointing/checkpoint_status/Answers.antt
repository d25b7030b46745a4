use Rattle.std.proofs.Common.{◌≡◌, Err, Some, None, ℕ, ◌∙◌, ap, sym}
use Rattle.sb_input.proofs.Errors.{same_error}
use Rattle.sb_machine.specs.declared.reply.Refusal.TheVariants.{DiskFault, Stopped}
use Rattle.sb_node.specs.Nodes.{node_disks}
use Rattle.sb_app.specs.Checkpoints.{status_of_refusal}
use Rattle.sb_app.proofs.Checkpoints.{ends_refused, has_checkpoint, made_or_not, not_run_status}
use Rattle.sb_app.proofs.checkpointing.checkpoint_status.Goals as goal

pub returns-in-Ok-clause-has : goal.returns-in-Ok-clause-has
returns-in-Ok-clause-has g c kept salt =
    let old = c.args.node.now in
    let new = c.checkpoint.new.self in
    let made = c.in-Ok.ensures in
    let kept_new = made.kept kept made.running in
    has_checkpoint old new kept salt c.args.ran c.args.ran made.state made.last (made.any_moment kept)
    (λ same. made_or_not old new kept salt c.in-Ok._turned kept_new made.state (made.turned kept.file kept.holds) (made.may kept.file kept.holds) made.nothing) (λ other. kept_new)

pub returns-in-Err-clause-ends : goal.returns-in-Err-clause-ends
returns-in-Err-clause-ends g c =
    let failed = c.in-Err.ensures in
    let no_stop : (n : ℕ) → c.in-Err.refusal ≡ Stopped n → ⊥ = λ n is. (let stops : None ≡ Some n = sym c.requires.running ∙ c.checkpoint.ensures.stopped n (c.in-Err.is ∙ ap Err is) in absurd cc) in
    ends_refused (node_disks c.args.node.now) (node_disks c.checkpoint.new.self) c.args.ran c.status_of_refusal.result c.in-Err.refusal c.status_of_refusal.ensures failed.causes no_stop
    (λ is. (let one = c.checkpoint.ensures.disk_fault (c.in-Err.is ∙ ap Err is) in (one.0, one.2)))
    (λ other. c.checkpoint.ensures.quiet (λ is. other (same_error c.in-Err.refusal DiskFault (sym c.in-Err.is ∙ is))))

pub returns-in-Err-clause-has : goal.returns-in-Err-clause-has
returns-in-Err-clause-has g c kept salt =
    let old = c.args.node.now in
    let new = c.checkpoint.new.self in
    let said = c.checkpoint.ensures in
    has_checkpoint old new kept salt c.args.ran c.status_of_refusal.result said.state said.last (said.any_moment kept)
    (λ same. not_run_status c.args.ran c.status_of_refusal.result c.in-Err.refusal _ c.requires.whole c.status_of_refusal.ensures same)
    (λ other. said.kept kept (c.in-Err.ensures.left (λ is. other (c.status_of_refusal.ensures ∙ ap status_of_refusal is)) ∙ c.requires.running))
