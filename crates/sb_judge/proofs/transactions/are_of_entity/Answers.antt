use Rattle.std.proofs.Common.{sym, ◌∙◌, ap}
use Rattle.std.specs.List.{list_all}
use Rattle.sb_judge.specs.Transactions.{operation_verdict}
use Rattle.sb_judge.proofs.Queued.{queued_of}
use Rattle.sb_judge.proofs.transactions.are_of_entity.Goals as goal

pub returns-in-Some : goal.returns-in-Some
returns-in-Some c =
    c.are_operations.ensures
    ∙ ap (list_all (λ o. (operation_verdict c.args.space.now c.in-Some.entity.now o).0)) c.as_slice-in-Some.ensures
    ∙ sym (queued_of c.args.space.now c.args.transaction.now c.in-Some.entity.now c.as_slice.result.now c.as_slice.ensures c.in-Some.ensures)
