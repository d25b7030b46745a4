use Rattle.std.proofs.Common.{◌∙◌}
use Rattle.sb_fanout.specs.Lasts.{given_in}
use Rattle.sb_entities.specs.Stores.{entity_in, space_in}
use Rattle.sb_engine.specs.Sendings.{told}
use Rattle.sb_engine.proofs.Sendings.{stands_first}
use Rattle.sb_engine.proofs.Sends.{sent_counted}
use Rattle.sb_engine.proofs.acts.send.sent.Goals as goal

pub send_all-requires : goal.send_all-requires
send_all-requires c =
    let begun = c.behind-sending.result in
    stands_first c.args.moment (space_in c.args.space.now) (entity_in c.args.entity.now) (given_in begun.lasts) begun.noted.items begun.changes c.requires c.behind-sending.ensures.given c.behind-sending.ensures.fresh (c.behind-sending.ensures.changes ∙ c.new.ensures)

pub judge_quota-requires : goal.judge_quota-requires
judge_quota-requires c = record {
  counted = sent_counted c.args.moment (space_in c.args.space.now) (entity_in c.args.entity.now) c.args.messages.now (told c.behind-sending.result) (told c.send_all.new.sending) c.requires (c.behind-sending.ensures.changes ∙ c.new.ensures) c.in-Ok.ensures;
}
