use Rattle.std.proofs.Common.{[], refl, sym, ◌∙◌}
use Rattle.sb_fanout.specs.Lasts.{given_in}
use Rattle.sb_entities.specs.Stores.{entity_in, space_in}
use Rattle.sb_engine.specs.Fulfilments.{acted_behind}
use Rattle.sb_engine.specs.Sendings.{told}
use Rattle.sb_engine.proofs.CountedCommits.{there_of}
use Rattle.sb_engine.proofs.Fronts.{behind_counted, front_found, front_stands}
use Rattle.sb_engine.proofs.Fulfilments.{fulfilled_changes, fulfilled_receipts, quota_passes, quota_refuses}
use Rattle.sb_engine.proofs.Sendings.{stands_first}
use Rattle.sb_engine.proofs.deliver.fulfilling.fulfil.Goals as goal

pub act_all-requires-clause-under_way : goal.act_all-requires-clause-under_way
act_all-requires-clause-under_way c =
    let t = c.args.moment in
    let s = space_in c.args.space.now in
    let e = entity_in c.args.entity.now in
    let begun = c.behind-sending.result in
    front_stands t s e.about.number (given_in begun.lasts) begun.noted.items c.args.front begun.changes (stands_first t s e (given_in begun.lasts) begun.noted.items [] (there_of e.about.number s e c.requires.there) c.behind-sending.ensures.given c.behind-sending.ensures.fresh refl) c.requires.front c.behind-sending.ensures.changes

pub act_all-requires-clause-found : goal.act_all-requires-clause-found
act_all-requires-clause-found c = front_found c.args.moment (space_in c.args.space.now) (entity_in c.args.entity.now) c.new-done.result.items c.args.front c.behind-sending.result.changes c.requires.there c.requires.front c.behind-sending.ensures.changes

pub judge_quota-requires : goal.judge_quota-requires
judge_quota-requires c =
    let t = c.args.moment in
    let s = space_in c.args.space.now in
    let e = entity_in c.args.entity.now in
    let os = c.args.operations.now in
    let changes = c.act_all.new.sending.changes in
    record {
      counted = behind_counted t e c.args.front changes os s (sym c.all_go_well.ensures ∙ c.if-not-all_go_well.false) (there_of e.about.number s e c.requires.there) c.requires.front (fulfilled_changes t s e c.args.front os (told c.behind-sending.result) (told c.act_all.new.sending) c.behind-sending.ensures.changes c.in-Ok.ensures.acts);
    }

pub returns-in-Ok-judge_quota : goal.returns-in-Ok-judge_quota
returns-in-Ok-judge_quota c =
    let t = c.args.moment in
    let s = space_in c.args.space.now in
    let e = entity_in c.args.entity.now in
    let os = c.args.operations.now in
    let front = c.args.front in
    let are = fulfilled_changes t s e front os (told c.behind-sending.result) (told c.act_all.new.sending) c.behind-sending.ensures.changes c.in-Ok.ensures.acts in (
      are,
      fulfilled_receipts t s e front os (told c.behind-sending.result) c.new-receipts.result.items c.act_all.new.sent.items c.behind-sending.ensures.changes c.new-receipts.ensures.items c.in-Ok.ensures.sent,
      quota_passes t s c.act_all.new.sending.changes (acted_behind t e front os s) are c.in-Ok-judge_quota.ensures,
    )

pub returns : goal.returns
returns c =
    let t = c.args.moment in
    let s = space_in c.args.space.now in
    let e = entity_in c.args.entity.now in
    let os = c.args.operations.now in
    let front = c.args.front in
    quota_refuses t s c.act_all.new.sending.changes (acted_behind t e front os s) c.in-Err.refusal (fulfilled_changes t s e front os (told c.behind-sending.result) (told c.act_all.new.sending) c.behind-sending.ensures.changes c.in-Ok.ensures.acts) c.in-Err.ensures
