use Rattle.std.proofs.Common.{ap, length, ◌∙◌}
use Rattle.sb_amqp.specs.Meaning.{Says}
use Rattle.sb_amqp.specs.Reading.{item_bytes}
use Rattle.sb_amqp.specs.Values.{extent_at}
use Rattle.sb_amqp.proofs.Left.{used_items}
use Rattle.sb_amqp.proofs.read.say_items_if.Goals as goal

pub returns : goal.returns
returns c vs has =
    used_items (λ r. Says c.say_items.result r) c.args.is_due c.args.code c.args.draft c.args.value.now vs (length c.args.rest.now) c.if-not-is_due.false has
    (λ are text. c.say_items.ensures vs are (c.item_bytes-items.ensures ∙ ap (λ e. item_bytes e c.content_of.result.now) c.extent_at.ensures ∙ ap (item_bytes (extent_at c.args.value.now)) c.content_of.ensures ∙ text))
