use Rattle.std.proofs.Common.{sym, subst}
use Rattle.sb_machine.specs.declared.call.Call.{Call}
use Rattle.sb_server.specs.Doings.{IsAnswered, IsPendingInOrder}
use Rattle.sb_server.proofs.pending.collect.Goals as goal

pub answered-requires : goal.answered-requires
answered-requires g c = subst (λ (x : Call). IsPendingInOrder c.args.sent.pending x) (sym c.collect-pass.ensures.same) c.requires.order

pub returns-clause-goes : goal.returns-clause-goes
returns-clause-goes g c =
    let calls = c.collect-pass.ensures.call in
    let answer = c.collect-pass.result.2 in
    (answer, (calls.0, (calls.1, calls.2, calls.3)), subst (λ (x : Call). IsAnswered c.args.sent.pending x answer c.answered.result) c.collect-pass.ensures.same c.answered.ensures.answered)
