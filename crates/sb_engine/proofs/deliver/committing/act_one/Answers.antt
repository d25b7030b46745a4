use Rattle.std.proofs.lemmas.Result.{on_ok_weaker}
use Rattle.sb_entities.specs.Stores.{entity_in, space_in}
use Rattle.sb_engine.specs.Sendings.{space_at, told}
use Rattle.sb_engine.proofs.Receipts.{told_nothing}
use Rattle.sb_engine.proofs.SettledCommits.{sends_leave}
use Rattle.sb_engine.proofs.deliver.committing.act_one.Goals as goal

pub returns-in-Send-clause-found : goal.returns-in-Send-clause-found
returns-in-Send-clause-found c = on_ok_weaker c.send_told.result (λ acts. sends_leave c.args.moment (space_in c.args.space.now) (entity_in c.args.entity.now) c.args.done.now.items c.in-Send.to c.as_slice.result.now (told c.args.sending.now) (told c.send_told.new.sending) acts c.requires.found) c.send_told.ensures.acts

pub returns-in-Settle-clause-sent : goal.returns-in-Settle-clause-sent
returns-in-Settle-clause-sent c =
    let t = c.args.moment in
    let s = space_in c.args.space.now in
    let e = entity_in c.args.entity.now in
    let is = told_nothing t e c.args.operation.now c.in-Settle.from c.in-Settle.number c.in-Settle.token c.in-Settle.session c.in-Settle.how (space_at t s (told c.args.sending.now)) c.args.sent.now.items c.in-Settle.is in
    on_ok_weaker c.settle_queued.result (λ acts. is) c.settle_queued.ensures.acts
