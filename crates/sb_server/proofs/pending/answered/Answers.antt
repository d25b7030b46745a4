use Rattle.std.proofs.Common.{sym, ap, ◌∙◌, subst}
use Rattle.sb_machine.specs.Ordered.{IsActInOrder}
use Rattle.sb_machine.specs.declared.call.Call.{Call}
use Rattle.sb_server.specs.declared.ask.Waiter.{Waiter}
use Rattle.sb_server.specs.declared.doing.Begun.TheVariants.{Done}
use Rattle.sb_server.specs.declared.pending.Pending.{Pending}
use Rattle.sb_server.specs.declared.telling.Said.{Said}
use Rattle.sb_server.specs.Doings.{IsAnswered, IsPendingInOrder, IsSettled, said_of, telling_of}
use Rattle.sb_server.specs.Responds.{waiter_call}
use Rattle.sb_server.proofs.Posting.{call_put_back}
use Rattle.sb_server.proofs.pending.answered.Goals as goal

pub returns-in-Once-clause-answered : goal.returns-in-Once-clause-answered
returns-in-Once-clause-answered c =
    let o = c.in-Once in
    let told = c.telling_of.ensures ∙ ap (λ (s : Said). telling_of s o.closes) (c.said_of.ensures ∙ ap (λ (w : Waiter). said_of w c.args.answer) c.together-waiter.ensures) in
    subst (λ (p : Pending). IsAnswered p c.args.call c.args.answer (Done c.telling_of.result)) (sym o.is) (ap Done told)

pub settle-begun-requires : goal.settle-begun-requires
settle-begun-requires c =
    subst (λ (w : Waiter). IsActInOrder (waiter_call w).act) (sym c.together.ensures)
    (subst (λ (x : Call). IsActInOrder x.act) (sym (call_put_back c.in-Waits.caller c.args.call))
    (subst (λ (p : Pending). IsPendingInOrder p c.args.call) c.in-Waits.is c.requires))

pub returns-in-Waits-clause-answered : goal.returns-in-Waits-clause-answered
returns-in-Waits-clause-answered c =
    let o = c.in-Waits in
    subst (λ (p : Pending). IsAnswered p c.args.call c.args.answer c.settle-begun.result) (sym o.is)
    (subst (λ (w : Waiter). IsSettled (record { waiter = w; limit_ms = o.limit_ms; closes = o.closes; first_ms = o.first_ms; asked_ms = o.asked_ms; answer = c.args.answer }) c.settle-begun.result) c.together.ensures c.settle-begun.ensures.settled)
