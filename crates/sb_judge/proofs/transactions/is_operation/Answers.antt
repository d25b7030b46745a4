use Rattle.std.proofs.Common.{sym, ◌∙◌}
use Rattle.sb_judge.proofs.Queued.{settlement_of}
use Rattle.sb_judge.proofs.transactions.is_operation.Goals as goal

pub returns-in-Settle : goal.returns-in-Settle
returns-in-Settle c =
    c.is_settlement.ensures
    ∙ sym (settlement_of c.args.space.now c.args.entity.now c.args.operation.now c.in-Settle.from c.in-Settle.number c.in-Settle.token c.in-Settle.session c.in-Settle.how c.in-Settle.is)
